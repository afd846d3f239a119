-- 10^30, 10^31 and 0.8 are no floats. No float lies between such a limit and the float that question 1 tests against, so the test is the exact one.
use Rattle.std.specs.Prelude.{◌≡◌, false, ℕ, suc, ◌+◌, ◌*◌, ◌^◌, ◌≤◌, ◌<◌, pos, T, leb, Float}
use Rattle.std.proofs.Common.{sym, ap, ◌∙◌, subst, inl, le_of_eq as nat-le-of-eq, lt_of_le_of_lt, lt_of_lt_of_le, lt_of_not-le, mul_assoc, mul_right_comm, mul-le-mul_left, mul-le-mul_right, mul-lt-mul_of_pos_right, arith, leb→le, le→leb, lit<, lit≤, pow-add, pow_pos}
use Rattle.std.proofs.Math.Logic.{inr}
use Rattle.std.specs.Float.{fin, binary64}
use Rattle.std.specs.Float.Ieee.{le, lt, neg, fits, of_bits}
use Rattle.std.specs.Float.Ieee.Fits.{neg-fits}
use Rattle.std.specs.Float.Ieee.Scale.{finite}
use Rattle.std.specs.Float.Ieee.Positive.{den, den_pos}
use Rattle.float_order.specs.Arith.{either}
use Rattle.float_order.specs.Order.{over, under, finite-ordered, le-ordered-l, le_trans, le→cross, cross→le, lt→le, lt→not-le, not-le→lt, not-lt→le, le_lt_trans, neg-le, neg-neg}
use Rattle.float_order.specs.Ops.{zero₊, nonneg-under, nonpos-over}
use Rattle.float_order.specs.Range.{nat, -nat, finite-between}
use Rattle.float_order.specs.Interval.{floats}
use Rattle.float_order.proofs.Gaps.{gap, gap-large}
use Rattle.bool_laws.specs.Bools.{same-holds}
use Rattle.link_state.specs.State.{most30, most31, least_acked}

-- ---- `most` is a float not above the limit, the next float is above it
record Next (most limit : Float) : Type 0 where
  digits : ℕ
  shift : ℕ
  normal : 2 ^ 52 ≤ digits
  nonneg : T (le zero₊ most)
  is-float : T (le (fin false digits (pos shift)) most)
  low : T (le most limit)
  high : T (lt limit (fin false (suc digits) (pos shift)))
  limit-finite : T (finite limit)

at-most : {most limit : Float} → Next most limit → (x : Float) → T (fits binary64 x) → le x most ≡ le x limit
at-most {most} {limit} n x f = same-holds (le x most) (le x limit) (λ h. le_trans x most limit h n.low) back
  where
    back : T (le x limit) → T (le x most)
    back h = elim (either (le zero₊ x)) [
      | inl z ↦ le_trans x (fin false n.digits (pos n.shift)) most
          (gap-large x n.digits n.shift (finite-between zero₊ x limit tt n.limit-finite z h) f z n.normal (le_lt_trans x limit (fin false (suc n.digits) (pos n.shift)) h n.high))
          n.is-float
      | inr z ↦ le_trans x zero₊ most (lt→le x zero₊ (not-le→lt zero₊ x tt (le-ordered-l x limit h) z)) n.nonneg
    ]

opposite : (b x : Float) → le (neg b) x ≡ le (neg x) b
opposite b x =
    same-holds (le (neg b) x) (le (neg x) b)
    (λ h. subst (λ (z : Float). T (le (neg x) z)) (neg-neg b) (neg-le (neg b) x h))
    (λ h. subst (λ (z : Float). T (le (neg b) z)) (neg-neg x) (neg-le (neg x) b h))

at_least : {most limit : Float} → Next most limit → (x : Float) → T (fits binary64 x) → le (neg most) x ≡ le (neg limit) x
at_least {most} {limit} n x f = opposite most x ∙ at-most n (neg x) (neg-fits binary64 x f) ∙ sym (opposite limit x)

next30 : Next most30 (nat (10 ^ 30))
next30 = record {
  digits = 0x193e5939a08ce9;
  shift = 47;
  normal = lit≤ tt;
  nonneg = unfold floats in tt;
  is-float = unfold floats in tt;
  low = unfold floats in tt;
  high = unfold floats in tt;
  limit-finite = tt;
}

next31 : Next most31 (nat (10 ^ 31))
next31 = record {
  digits = 0x1f8def8808b024;
  shift = 50;
  normal = lit≤ tt;
  nonneg = unfold floats in tt;
  is-float = unfold floats in tt;
  low = unfold floats in tt;
  high = unfold floats in tt;
  limit-finite = tt;
}

-- ---- 0.8
acked-high : (x : Float) → T (finite x) → T (le least_acked x) → 8 * den x + 10 * under x ≤ 10 * over x
unfolding of_bits
acked-high x p h = omega (arith, le→cross least_acked x tt p h)

-- x < 0.8 as one of naturals
below-acked : (x : Float) → T (finite x) → under x ≡ 0 → T (lt x least_acked) → over x * 2 ^ 53 < 0x1999999999999a * den x
unfolding of_bits
below-acked x p u h = lt_of_not-le (λ (g : 0x1999999999999a * den x ≤ over x * 2 ^ 53). lt→not-le x least_acked h (cross→le least_acked x tt p (rw u (omega arith))))

clash : (o d k m u : ℕ) → 0 < d → o * u ≤ m * k * d → 8 * d ≤ 10 * o → 10 * (m * k) < 8 * u → ⊥
clash o d k m u D h g l =
    let a : 8 * d * u ≤ 10 * o * u = mul-le-mul_right u g in
    let b : 10 * (o * u) ≤ 10 * (m * k * d) = mul-le-mul_left 10 h in
    let c : 10 * (m * k) * d < 8 * u * d = mul-lt-mul_of_pos_right l D in
    omega (arith, mul_assoc 10 o u, mul_assoc 10 (m * k) d, mul_right_comm 8 u d)

acked-low : (x : Float) → T (finite x) → T (fits binary64 x) → 8 * den x + 10 * under x ≤ 10 * over x → T (le least_acked x)
acked-low x p f h = elim (either (le zero₊ x)) [
  | inl z ↦ elim (either (lt x least_acked)) [
    | inl t ↦ (
        let u = nonneg-under x p z in
        let s : over x * 2 ^ 1074 ≡ over x * 2 ^ 53 * 2 ^ 1021 = ap (λ (w : ℕ). over x * w) (pow-add 2 53 1021) ∙ sym (mul_assoc (over x) (2 ^ 53) (2 ^ 1021)) in
        let l : over x * 2 ^ 53 * 2 ^ 1021 < 0x1999999999999a * den x * 2 ^ 1021 = mul-lt-mul_of_pos_right (below-acked x p u t) (pow_pos 1021) in
        let g = gap x 0x19999999999999 1021 p f u (lit≤ tt) (lt_of_lt_of_le (lt_of_le_of_lt (nat-le-of-eq s) l) (nat-le-of-eq (mul_right_comm 0x1999999999999a (den x) (2 ^ 1021)))) in
        absurd (clash (over x) (den x) (2 ^ 1021) 0x19999999999999 (2 ^ 1074) (den_pos x) g (omega arith) (lit< tt))
        )
    | inr t ↦ not-lt→le x least_acked (finite-ordered x p) (unfold floats in tt) t
  ]
  | inr z ↦ absurd (omega (arith, den_pos x, nonpos-over x p (lt→le x zero₊ (not-le→lt zero₊ x tt (finite-ordered x p) z))))
]

-- ---- the claims
module _ (x : Float) (held : T (fits binary64 x)) where
  pub most30-exact : le x most30 ≡ le x (nat (10 ^ 30))
  most30-exact = at-most next30 x held

  pub least30-exact : le (neg most30) x ≡ le (-nat (10 ^ 30)) x
  unfolding neg
  least30-exact = at_least next30 x held

  pub most31-exact : le x most31 ≡ le x (nat (10 ^ 31))
  most31-exact = at-most next31 x held

  pub least31-exact : le (neg most31) x ≡ le (-nat (10 ^ 31)) x
  unfolding neg
  least31-exact = at_least next31 x held

  -- x is (over x - under x) / den x: 10 x is at least 8
  pub least_acked-exact : T (finite x) → le least_acked x ≡ leb (8 * den x + 10 * under x) (10 * over x)
  least_acked-exact p = same-holds (le least_acked x) (leb (8 * den x + 10 * under x) (10 * over x)) (λ h. le→leb _ _ (acked-high x p h)) (λ h. acked-low x p held (leb→le _ _ h))
