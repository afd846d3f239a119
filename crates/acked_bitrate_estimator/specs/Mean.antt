-- A mean with weights v and p, (v * e + p * s) / (v + p), each operation rounded, does not pass a power of two that bounds e and s: the products by that
-- power are exact, and the rounding of the sum goes with them. And v * p / (v + p) does not pass a power of two that bounds v.
use Rattle.std.specs.Prelude.{◌≡◌, ℕ, suc, ◌+◌, ◌*◌, ◌^◌, ◌<◌, ◌≤◌, T, Float}
use Rattle.std.proofs.Common.{sym, ap, ◌∙◌, subst, le_of_eq as nat-le-of-eq, lt_of_lt_of_le, lt_of_le_of_lt, le_of_lt, mul-one, one-mul, mul_comm as nat-mul-comm, mul_right_comm, mul-le-mul_right, mul-le-mul_left, mul-lt-mul_of_pos_right, mul-pos, zero-lt-suc, arith, lt→ltb, lit≤, pow-add, pow_mono}
use Rattle.std.proofs.Math.Nat.{le_trans as nat-le-trans}
use Rattle.std.proofs.Math.Pow.{pow-lt}
use Rattle.std.specs.Float.{binary64}
use Rattle.std.specs.Float.Ieee.{le, fits}
use Rattle.std.specs.Float.Ieee.Scale.{finite}
use Rattle.std.specs.Float.Ieee.Positive.{den, den_pos, positive, between}
use Rattle.float_order.specs.Arith.{ac}
use Rattle.float_order.specs.Binary64.{add, mul, div}
use Rattle.float_order.specs.Order.{over, under, le→cross, cross→le, le_trans}
use Rattle.float_order.specs.Ops.{zero₊, add_rounds, mul-rounds, div-rounds, add-mono, add-nonneg, mul-nonneg, div-nonneg, mul_comm, mul-mono-r, div-mono-l, div-anti-r, nonneg-under, positive-over, add_comm}
use Rattle.float_order.specs.Range.{In, finite-between, in-finite, in-positive}
use Rattle.float_order.specs.Exact.{one, le-add}
use Rattle.float_order.specs.Dyadic.{Is, two^}
use Rattle.float_order.proofs.Dyadic.{scale-exact, scale-add, rounds-le}

-- ---- powers of two as bounds
two^-fits : (n : ℕ) → n < 1024 → T (fits binary64 (two^ n))
unfolding fits
two^-fits n h = lt→ltb (1 * 2 ^ n) (2 ^ 1024 * 1) (lt_of_le_of_lt (nat-le-of-eq (one-mul (2 ^ n))) (lt_of_lt_of_le (pow-lt h) (nat-le-of-eq (sym (mul-one (2 ^ 1024))))))

-- x ≤ 2 ^ k, as one of naturals
under-two : (x : Float) (k : ℕ) → T (finite x) → under x ≡ 0 → T (le x (two^ k)) → over x ≤ 2 ^ k * den x
under-two x k p u h = omega (arith, le→cross x (two^ k) p tt h, one-mul (2 ^ k))

sum-two : (ox dx oy dy K L : ℕ) → K + K ≡ L → ox ≤ K * dx → oy ≤ K * dy → ox * dy + oy * dx ≤ L * (dx * dy)
sum-two ox dx oy dy K L e h k =
    subst (λ (z : ℕ). ox * dy + oy * dx ≤ z * (dx * dy)) e (simp ac (omega (arith, simp ac at (mul-le-mul_right dy h), simp ac at (mul-le-mul_right dx k))))

doubled : (k : ℕ) → 2 ^ k + 2 ^ k ≡ 2 ^ suc k
doubled k = sym (pow-add 2 k 1 ∙ twice (2 ^ k)) ∙ ap (λ (z : ℕ). 2 ^ z) (omega arith)
  where
    twice : (z : ℕ) → z * 2 ≡ z + z
    twice z = omega arith

-- x, y from 0 to 2 ^ k: x + y ≤ 2 ^ (k + 1)
add-two : (x y : Float) (k : ℕ) → suc k < 1024 → In zero₊ (two^ k) x → In zero₊ (two^ k) y → In zero₊ (two^ (suc k)) (add x y)
add-two x y k s h g =
    let p = in-finite h tt in
    let q = in-finite g tt in
    let u = nonneg-under x p h.low in
    let v = nonneg-under y q g.low in
    let c = den x * den y in
    let b : over x * den y + over y * den x ≤ 2 ^ suc k * c = sum-two (over x) (den x) (over y) (den y) (2 ^ k) (2 ^ suc k) (doubled k) (under-two x k p u h.high) (under-two y k q v g.high) in
    let e : 1 * 2 ^ suc k * c ≡ 2 ^ suc k * c = ap (λ (z : ℕ). z * c) (one-mul (2 ^ suc k)) in
    record {
      low = add-nonneg binary64 x y p q h.low g.low;
      high = rounds-le (add x y) (two^ (suc k)) (over x * den y + over y * den x) (under x * den y + under y * den x) c (add_rounds binary64 x y p q) (mul-pos (den_pos x) (den_pos y)) tt (two^-fits (suc k) s) (omega arith);
    }

-- 2 ^ t * x for x from 0 to 2 ^ k
module _ (x : Float) (k t : ℕ) (s : k + t < 1024) (h : In zero₊ (two^ k) x) where
  p : T (finite x)
  p = in-finite h tt

  u : under x ≡ 0
  u = nonneg-under x p h.low

  room : over x * 2 ^ t ≤ 2 ^ (k + t) * den x
  room =
      nat-le-trans (mul-le-mul_right (2 ^ t) (under-two x k p u h.high))
      (nat-le-of-eq (mul_right_comm (2 ^ k) (den x) (2 ^ t) ∙ ap (λ (z : ℕ). z * den x) (sym (pow-add 2 k t))))

  scaled : T (fits binary64 x) → Is (mul x (two^ t)) (over x * 2 ^ t) (den x)
  scaled f = scale-exact x t p f u (lt_of_le_of_lt room (mul-lt-mul_of_pos_right (pow-lt s) (den_pos x)))

  scaled-in : In zero₊ (two^ (k + t)) (mul x (two^ t))
  scaled-in =
      record {
        low = mul-nonneg binary64 x (two^ t) p tt h.low (cross→le zero₊ (two^ t) tt tt (omega arith));
        high = rounds-le (mul x (two^ t)) (two^ (k + t)) (over x * (1 * 2 ^ t) + under x * 0) (over x * 0 + under x * (1 * 2 ^ t)) (den x * 1) (mul-rounds binary64 x (two^ t) p tt) (mul-pos (den_pos x) (zero-lt-suc 0)) tt (two^-fits (k + t) s)
            (rw (u, one-mul (2 ^ t), one-mul (2 ^ (k + t)), mul-one (den x)) (fit (over x * 2 ^ t) (2 ^ (k + t) * den x) (over x) (den x) (2 ^ t) room));
      }
    where
      fit : (a b o d w : ℕ) → a ≤ b → (a + 0 * 0) * 1 + 0 * d ≤ b + (o * 0 + 0 * w) * 1
      fit a b o d w l = omega arith

-- ---- the sum of the weights is normal, since p ≥ 1
one-part : (ox dx oy uy dy : ℕ) → uy ≡ 0 → 1 * dy + uy * 1 ≤ oy * 1 + 0 * dy → dx * dy ≤ ox * dy + oy * dx
one-part ox dx oy uy dy z h =
    let k : dy ≤ oy = omega arith in
    omega (arith, mul-le-mul_right dx k, nat-mul-comm dx dy)

normal-sum : (x y : Float) → T (finite y) → T (le one y) → 2 ^ 52 * (den x * den y) ≤ (over x * den y + over y * den x) * 2 ^ 1074
normal-sum x y q h =
    let v = nonneg-under y q (le_trans zero₊ one y (unfold le in tt) h) in
    nat-le-trans (mul-le-mul_left (2 ^ 52) (one-part (over x) (den x) (over y) (under y) (den y) v (le→cross one y tt q h)))
    (nat-le-trans (nat-le-of-eq (nat-mul-comm (2 ^ 52) (over x * den y + over y * den x))) (mul-le-mul_left (over x * den y + over y * den x) (pow_mono {i = 52} {j = 1074} (lit≤ tt))))

-- S = 2 ^ t * w: the quotient is 2 ^ t at most
div-scaled : (S w : Float) (t : ℕ) → t < 1024 → T (positive w) → Is S (over w * 2 ^ t) (den w) → T (le (div S w) (two^ t))
div-scaled S w t s P i =
    rounds-le (div S w) (two^ t) (over S * den w) (under S * den w) (over w * den S) (div-rounds binary64 S w i.fine P) (mul-pos (positive-over w P) (den_pos S)) tt (two^-fits t s)
    (rw (i.nonneg, i.same) (fit (over w) (2 ^ t) (den S) (den w)))
  where
    fit : (o K c d : ℕ) → o * K * c * 1 + 0 * (o * c) ≤ 1 * K * (o * c) + 0 * d * 1
    fit o K c d = omega arith

-- ---- the mean
module _ (v p : Float) (k t : ℕ) (fv : T (fits binary64 v)) (fp : T (fits binary64 p)) (room : suc (k + t) < 1024) (hv : In zero₊ (two^ k) v) (hp : In one (two^ k) p) where
  p-nonneg : In zero₊ (two^ k) p
  p-nonneg = record { low = le_trans zero₊ one p (unfold le in tt) hp.low; high = hp.high }

  P : T (finite p)
  P = in-finite hp tt

  W : T (finite v)
  W = in-finite hv tt

  kt : k + t < 1024
  kt = le_of_lt room

  t-small : t < 1024
  t-small = omega arith

  abbrev A : Float
  A = mul v (two^ t)

  abbrev B : Float
  B = mul p (two^ t)

  A-in : In zero₊ (two^ (k + t)) A
  A-in = scaled-in v k t kt hv

  B-in : In zero₊ (two^ (k + t)) B
  B-in = scaled-in p k t kt p-nonneg

  -- the weights' sum is at least p
  above : T (le p (add v p))
  above = subst (λ (z : Float). T (le p z)) (add_comm binary64 p v) (le-add binary64 p v fp P W hv.low)

  weight : T (positive (add v p))
  weight = between p (add v p) (two^ (suc k)) (in-positive hp tt) tt above (add-two v p k (omega arith) hv p-nonneg).high

  S-finite : T (finite (add A B))
  S-finite = in-finite (add-two A B (k + t) room A-in B-in) tt

  S-scaled : Is (add A B) (over (add v p) * 2 ^ t) (den (add v p))
  S-scaled = scale-add v p A B t W P (nonneg-under v W hv.low) (nonneg-under p P p-nonneg.low) (scaled v k t kt hv fv) (scaled p k t kt p-nonneg fp) (normal-sum v p P hp.low) S-finite

  -- e and s from 0 to 2 ^ t: so is the mean
  pub mean-in : (e s : Float) → In zero₊ (two^ t) e → In zero₊ (two^ t) s → In zero₊ (two^ t) (div (add (mul v e) (mul p s)) (add v p))
  mean-in e s he hs =
      let E : T (finite e) = in-finite he tt in
      let Z : T (finite s) = in-finite hs tt in
      let ve0 : T (le zero₊ (mul v e)) = mul-nonneg binary64 v e W E hv.low he.low in
      let ps0 : T (le zero₊ (mul p s)) = mul-nonneg binary64 p s P Z p-nonneg.low hs.low in
      let ve_a : T (le (mul v e) A) = mul-mono-r binary64 v e (two^ t) W E tt hv.low he.high in
      let ps_b : T (le (mul p s) B) = mul-mono-r binary64 p s (two^ t) P Z tt p-nonneg.low hs.high in
      let ve_f : T (finite (mul v e)) = finite-between zero₊ (mul v e) A tt (in-finite A-in tt) ve0 ve_a in
      let ps_f : T (finite (mul p s)) = finite-between zero₊ (mul p s) B tt (in-finite B-in tt) ps0 ps_b in
      let N = add (mul v e) (mul p s) in
      let NS : T (le N (add A B)) = add-mono binary64 (mul v e) A (mul p s) B ve_f (in-finite A-in tt) ps_f (in-finite B-in tt) ve_a ps_b in
      let N0 : T (le zero₊ N) = add-nonneg binary64 (mul v e) (mul p s) ve_f ps_f ve0 ps0 in
      let NF : T (finite N) = finite-between zero₊ N (add A B) tt S-finite N0 NS in
      record {
        low = div-nonneg binary64 N (add v p) NF weight N0;
        high = le_trans (div N (add v p)) (div (add A B) (add v p)) (two^ t) (div-mono-l binary64 N (add A B) (add v p) NF S-finite weight NS) (div-scaled (add A B) (add v p) t t-small weight S-scaled);
      }

  -- v from 0 to 2 ^ t: so is v * p / (v + p)
  pub variance-in : In zero₊ (two^ t) v → In zero₊ (two^ t) (div (mul v p) (add v p))
  variance-in h =
      let PP : T (positive p) = in-positive hp tt in
      let BF : T (finite B) = in-finite B-in tt in
      let vp0 : T (le zero₊ (mul v p)) = mul-nonneg binary64 v p W P hv.low p-nonneg.low in
      let vp_b : T (le (mul v p) B) = subst (λ (z : Float). T (le z B)) (mul_comm binary64 p v) (mul-mono-r binary64 p v (two^ t) P W tt p-nonneg.low h.high) in
      let vp_f : T (finite (mul v p)) = finite-between zero₊ (mul v p) B tt BF vp0 vp_b in
      record {
        low = div-nonneg binary64 (mul v p) (add v p) vp_f weight vp0;
        high = le_trans (div (mul v p) (add v p)) (div B (add v p)) (two^ t) (div-mono-l binary64 (mul v p) B (add v p) vp_f BF weight vp_b)
            (le_trans (div B (add v p)) (div B p) (two^ t) (div-anti-r binary64 B p (add v p) BF PP weight B-in.low above) (div-scaled B p t t-small PP (scaled p k t kt p-nonneg fp)));
      }
