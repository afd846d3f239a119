-- Seconds as whole ns by the bits: from 2 ^ -32 s to below 2 ^ 64 ns a value is 53 digits over a power of two, as its fields have them.
use mathlib.Core.Path.{◌≡◌, refl, sym, ap, ◌∙◌, subst}
use mathlib.Core.Logic.{inl, inr}
use mathlib.Core.Bool.{true, false, true≢false}
use Prim.Native.Nat.{ℕ, zero, suc, ◌+◌, ◌-◌, ◌*◌, ◌/◌, ◌%◌, ◌^◌, ◌≤◌, ◌<◌, min}
use native.Mathlib.Nat.{le_trans as nat-le-trans, le_of_eq, lt_of_lt_of_le, lt_of_le_of_lt, lt_of_not-le, not-le_of_lt, eq-or-lt_of_le, min-eq_left, add_comm, mul_assoc, mul_right_comm, mul-le-mul, le_of_lt, mul-le-mul_right, lt_of_mul-lt-mul_right, eq_of_mul-eq-mul_right}
use native.Mathlib.Omega.{arith}
use lib.Dec.{T, T_not, lit≤, lit<}
use lib.Pow.{pow_pos, pow-add, pow_mono}
use lib.Ieee.{Float, nan, inf, fin, binary64, up, down, of_bits, to_bits, fits, le}
use lib.Ieee.Fits.{down_pos}
use lib.Ieee.Bits.{of_bits-to_bits}
use lib.Ieee.Exact.{HasValue}
use lib.Ieee.Nearest.{closest, closest_mono, closest_same}
use lib.Ieee.Order.{le_of_values}
use lib.Ieee.Positive.{positive, between, values_of_le}
use Rattle.float_order.specs.Order.{ordered, le-ordered-r, le-left→le, is_true, is_false}
use Rattle.float_order.specs.Bits.{low_value, high_value, finite-bound}
use Rattle.float_order.specs.Interval.{floats}
use Rattle.seconds.specs.Seconds.{from_secs_f64}
use Rattle.seconds.specs.Laws.{ns-most, ns-mono}

-- the least value of 2 ^ 64 ns or more, which is limit / 2 ^ 18
abbrev top : Float
top = of_bits binary64 0x4211_2e0b_e826_d695

abbrev limit : ℕ
limit = 4835703278458517

-- 2 ^ -32
abbrev tiny : Float
tiny = of_bits binary64 0x3df0_0000_0000_0000

-- ---- past the ends
full : from_secs_f64 top ≡ 2 ^ 64 - 1
unfolding from_secs_f64 floats
full = refl

empty : from_secs_f64 tiny ≡ 0
unfolding from_secs_f64 floats
empty = refl

pub too_many : (x : Float) → le top x ≡ true → 2 ^ 64 - 1 ≡ from_secs_f64 x
too_many x h = omega (arith, full, ns-mono top x (is_true _ h), ns-most x)

none_of : (x : Float) → T (ordered x) → le tiny x ≡ false → 0 ≡ from_secs_f64 x
none_of x p h = omega (arith, empty, ns-mono x tiny (le-left→le tiny x (unfold floats in tt) p h))

pub none : (x : Float) → le tiny x ≡ false → 0 ≡ from_secs_f64 x
unfolding from_secs_f64
none nan h = refl
none (inf s) h = none_of (inf s) tt h
none (fin s m e) h = none_of (fin s m e) tt h

-- ---- between them
-- the ns of x are those of m / 2 ^ k, and a u64 holds them
pub record Fields (x : Float) (m k : ℕ) : Type 0 where
  pub least : 18 ≤ k
  pub most : k ≤ 84
  pub small : closest (m * 10 ^ 9) (2 ^ k) < 2 ^ 64
  pub same : closest (m * 10 ^ 9) (2 ^ k) ≡ from_secs_f64 x

pow_lt_back : (i j : ℕ) → 2 ^ i < 2 ^ j → i < j
pow_lt_back i j h = lt_of_not-le (λ (g : j ≤ i). not-le_of_lt h (pow_mono g))

-- the ns, by the fraction
value-ns : (x : Float) (a c : ℕ) → 0 < c → HasValue x false a c → from_secs_f64 x ≡ min (closest (a * 10 ^ 9) c) (2 ^ 64 - 1)
unfolding from_secs_f64
value-ns nan a c C v = absurd v
value-ns (inf s) a c C v = absurd v
value-ns (fin true m e) a c C v = absurd (true≢false v.0)
value-ns (fin false m e) a c C v =
    ap (λ (z : ℕ). min z (2 ^ 64 - 1))
    (closest_same (m * up e * 10 ^ 9) (down e) (a * 10 ^ 9) c (down_pos e) C
    (mul_right_comm (m * up e) (10 ^ 9) c ∙ ap (λ (z : ℕ). z * 10 ^ 9) v.1 ∙ mul_right_comm a (down e) (10 ^ 9)))

-- t taken out of both parts of the fraction
value-cancel : (x : Float) (a c t : ℕ) → 0 < t → HasValue x false (a * t) (c * t) → HasValue x false a c
value-cancel nan a c t P h = h
value-cancel (inf s) a c t P h = h
value-cancel (fin s m e) a c t P h = (h.0, eq_of_mul-eq-mul_right t P (m * up e * c) (a * down e) (mul_assoc (m * up e) c t ∙ h.1 ∙ mul_right_comm a t (down e)))

above_zero : (x : Float) → le tiny x ≡ true → le top x ≡ false → T (positive x)
above_zero x low high =
    let t : T (le tiny x) = is_true _ low in
    between tiny x top (unfold floats in tt) (unfold floats in tt) t (le-left→le top x (unfold floats in tt) (le-ordered-r tiny x t) high)

-- x is a / c
module _ (x : Float) (low : le tiny x ≡ true) (high : le top x ≡ false) (a c : ℕ) (C : 0 < c) (v : HasValue x false a c) where
  above : 1 * c ≤ a * 2 ^ 32
  above = values_of_le tiny x 1 (2 ^ 32) a c (unfold floats in tt) (above_zero x low high) (unfold floats in (refl, refl)) v (is_true _ low)

  below : a * 2 ^ 18 < limit * c
  below = lt_of_not-le (λ (g : limit * c ≤ a * 2 ^ 18). T_not (le top x) (is_false _ high) (le_of_values top x limit (2 ^ 18) a c (pow_pos 18) C (unfold floats in (refl, refl)) v g))

-- the ns of s / 2 ^ k are a u64's
holds : (s k : ℕ) → s < 2 ^ 53 → 18 ≤ k → s * 2 ^ 18 < limit * 2 ^ k → closest (s * 10 ^ 9) (2 ^ k) < 2 ^ 64
holds s k h l b = elim (eq-or-lt_of_le l) [
  | inl e ↦ subst (λ (z : ℕ). closest (s * 10 ^ 9) (2 ^ z) < 2 ^ 64) e (at-most s (lt_of_mul-lt-mul_right (2 ^ 18) (subst (λ (z : ℕ). s * 2 ^ 18 < limit * 2 ^ z) (sym e) b)))
  | inr g ↦ lt_of_le_of_lt (closest_mono (s * 10 ^ 9) (2 ^ k) (2 ^ 53 * 10 ^ 9) (2 ^ 19) (pow_pos k) (pow_pos 19) (mul-le-mul (mul-le-mul_right (10 ^ 9) (le_of_lt h)) (pow_mono g))) (lit< tt)
]
  where
    at-most : (s : ℕ) → s < limit → closest (s * 10 ^ 9) (2 ^ 18) < 2 ^ 64
    at-most s h = lt_of_le_of_lt (closest_mono (s * 10 ^ 9) (2 ^ 18) ((limit - 1) * 10 ^ 9) (2 ^ 18) (pow_pos 18) (pow_pos 18) (omega arith)) (lit< tt)

places : (s j : ℕ) → 2 ^ 52 ≤ s → s * 2 ^ j * 2 ^ 18 < limit * 2 ^ 1074 → j ≤ 1056
places s j h b =
    let p : 2 ^ (52 + j + 18) < 2 ^ (53 + 1074) =
    lt_of_le_of_lt (nat-le-trans (le_of_eq (pow-add 2 (52 + j) 18 ∙ ap (λ (z : ℕ). z * 2 ^ 18) (pow-add 2 52 j))) (mul-le-mul_right (2 ^ 18) (mul-le-mul_right (2 ^ j) h)))
    (lt_of_lt_of_le b (lit≤ tt)) in
    omega (arith, pow_lt_back (52 + j + 18) (53 + 1074) p)

-- the digits of a field of 0 are too few
too-low : (r : ℕ) → r < 2 ^ 52 → 1 * 2 ^ 1074 ≤ r * 2 ^ 0 * 2 ^ 32 → ⊥
too-low r h l = not-le_of_lt (lt_of_lt_of_le (below-84 r h) (lit≤ {m = 2 ^ 84} {n = 1 * 2 ^ 1074} tt)) l
  where
    below-84 : (r : ℕ) → r < 2 ^ 52 → r * 2 ^ 0 * 2 ^ 32 < 2 ^ 84
    below-84 r h = omega arith

bounded : (x : Float) → T (positive x) → T (fits binary64 x) → to_bits binary64 x < 2047 * 2 ^ 52
bounded nan p h = absurd p
bounded (inf s) p h = absurd p
bounded (fin true m e) p h = absurd p
bounded (fin false zero e) p h = absurd p
bounded (fin false (suc m) e) p h = finite-bound m e h

module _ (x : Float) (low : le tiny x ≡ true) (high : le top x ≡ false) where
  -- of the exponent's field suc j
  at_field : (m j : ℕ) → 2 ^ 52 ≤ m → m < 2 ^ 53 → HasValue x false (m * 2 ^ j) (2 ^ 1074) → Fields x m (1074 - j)
  at_field m j l h v =
      let J : j ≤ 1056 = places m j l (below x low high (m * 2 ^ j) (2 ^ 1074) (pow_pos 1074) v) in
      let k = 1074 - j in
      let w : HasValue x false m (2 ^ k) = value-cancel x m (2 ^ k) (2 ^ j) (pow_pos j) (subst (HasValue x false (m * 2 ^ j)) (ap (λ (z : ℕ). 2 ^ z) (whole j J) ∙ pow-add 2 k j) v) in
      let most : k < 85 = pow_lt_back k 85 (omega (arith, above x low high m (2 ^ k) (pow_pos k) w)) in
      let least : 18 ≤ k = omega arith in
      let small : closest (m * 10 ^ 9) (2 ^ k) < 2 ^ 64 = holds m k h least (below x low high m (2 ^ k) (pow_pos k) w) in
      record { least = least; most = omega arith; small = small; same = sym (value-ns x m (2 ^ k) (pow_pos k) w ∙ min-eq_left (omega arith)) }
    where
      whole : (j : ℕ) → j ≤ 1056 → 1074 ≡ 1074 - j + j
      whole j h = omega arith

  pub fields : fits binary64 x ≡ true → Fields x (to_bits binary64 x % 2 ^ 52 + 2 ^ 52) (1075 - to_bits binary64 x / 2 ^ 52)
  fields fit = go (b / 2 ^ 52) refl
    where
      b : ℕ
      b = to_bits binary64 x

      finite-bits : b < 2047 * 2 ^ 52
      finite-bits = bounded x (above_zero x low high) (is_true _ fit)

      value_of : (a c : ℕ) → HasValue (of_bits binary64 b) false a c → HasValue x false a c
      value_of a c v = subst (λ (y : Float). HasValue y false a c) (of_bits-to_bits binary64 x (is_true _ fit)) v

      go : (f : ℕ) → b / 2 ^ 52 ≡ f → Fields x (b % 2 ^ 52 + 2 ^ 52) (1075 - b / 2 ^ 52)
      go zero e = absurd (too-low (b % 2 ^ 52) (omega arith) (above x low high (b % 2 ^ 52 * 2 ^ 0) (2 ^ 1074) (pow_pos 1074) (value_of _ _ (low_value b finite-bits e))))
      go (suc j) e =
          let k : 1075 - b / 2 ^ 52 ≡ 1074 - j = omega arith in
          rw (add_comm (b % 2 ^ 52) (2 ^ 52), k) (at_field (2 ^ 52 + b % 2 ^ 52) j (omega arith) (omega arith) (value_of _ _ (high_value b finite-bits j e)))
