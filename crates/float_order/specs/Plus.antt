-- The exact sum x + k of a float and a whole number: `fin s m e` is m * 2 ^ e for an m of any size, so it holds a sum that no format does, and `le` compares
-- the exact numbers. `climb` says that a rounded sum gains a whole number exactly, up to one; `plus-trans` adds up such steps.
use Rattle.std.specs.Prelude.{◌≡◌, ℕ, suc, ◌+◌, ◌-◌, ◌*◌, ◌^◌, ◌<◌, ◌≤◌, Bool, true, false, cond, not, T, ℤ, pos, negsuc, nat_le, refl, Float}
use Rattle.std.proofs.Common.{ap, mul-le-mul_right, mul-lt-mul_of_pos_right, mul-pos, zero-lt-suc, arith, leb→le}
use Rattle.std.proofs.Math.Dec.{nleb→lt}
use Rattle.std.specs.Float.{nan, inf, fin, binary64}
use Rattle.std.specs.Float.Ieee.{up, down, le, round, add}
use Rattle.std.specs.Float.Ieee.Scale.{finite}
use Rattle.std.specs.Float.Ieee.Positive.{den, den_pos}
use Rattle.float_order.specs.Order.{over, under, le→cross, cross→le, le_refl, le_trans, le-ordered-r, finite-ordered}
use Rattle.float_order.specs.Ops.{zero₊, add_rounds, add-ordered, add-finite-ordered, add-mono-any, nonneg-under}
use Rattle.float_order.specs.Range.{In, nat, in-finite}
use Rattle.float_order.specs.Whole.{at-most}
use Rattle.float_order.specs.Error.{rounds-is, round-num, round-finite, round-error-low}

-- 2 ^ e is a whole number over `down e`: the exponent of 1 / down e
abbrev pub unit : ℤ → ℤ
unit (pos j) = pos 0
unit (negsuc j) = negsuc j

-- x + k, exact
abbrev pub plus : Float → ℕ → Float
plus nan k = nan
plus (inf s) k = inf s
plus (fin false m e) k = fin false (m * up e + k * down e) (unit e)
plus (fin true m e) k = cond (nat_le (m * up e) (k * down e)) (fin false (k * down e - m * up e) (unit e)) (fin true (m * up e - k * down e) (unit e))

-- ---- it is exact: with the denominator of x, it is x's fraction + k
pub record Sum (x : Float) (k : ℕ) (z : Float) : Type 0 where
  pub fine : T (finite z)
  pub scale : den z ≡ den x
  pub value : over z + under x ≡ over x + under z + k * den x

unit-up : (e : ℤ) → up (unit e) ≡ 1
unit-up (pos j) = refl
unit-up (negsuc j) = refl

unit-down : (e : ℤ) → down (unit e) ≡ down e
unit-down (pos j) = refl
unit-down (negsuc j) = refl

pub plus-exact : (x : Float) (k : ℕ) → T (finite x) → Sum x k (plus x k)
plus-exact nan k p = absurd p
plus-exact (inf s) k p = absurd p
plus-exact (fin false m e) k p = record { fine = tt; scale = unit-down e; value = rw (unit-up e) (omega arith) }
plus-exact (fin true m e) k p = go (nat_le (m * up e) (k * down e)) (leb→le (m * up e) (k * down e)) (nleb→lt (m * up e) (k * down e))
  where
    go : (b : Bool) → (T b → m * up e ≤ k * down e) → (T (not b) → k * down e < m * up e)
        → Sum (fin true m e) k (cond b (fin false (k * down e - m * up e) (unit e)) (fin true (m * up e - k * down e) (unit e)))
    go true f g = let h = f tt in record { fine = tt; scale = unit-down e; value = rw (unit-up e) (omega arith) }
    go false f g = let h = g tt in record { fine = tt; scale = unit-down e; value = rw (unit-up e) (omega arith) }

pub plus-finite : (x : Float) (k : ℕ) → T (finite x) → T (finite (plus x k))
plus-finite x k p = (plus-exact x k p).fine

-- ---- x + k ≤ z, as natural numbers
fit : (ox ux dx oz uz dz op up k : ℕ) → op + ux ≡ ox + up + k * dx → (ox + k * dx) * dz + uz * dx ≤ oz * dx + ux * dz → op * dz + uz * dx ≤ oz * dx + up * dz
fit ox ux dx oz uz dz op up k e h = omega (arith, ap (λ (z : ℕ). z * dz) e)

unfit : (ox ux dx oz uz dz op up k : ℕ) → op + ux ≡ ox + up + k * dx → op * dz + uz * dx ≤ oz * dx + up * dz → (ox + k * dx) * dz + uz * dx ≤ oz * dx + ux * dz
unfit ox ux dx oz uz dz op up k e h = omega (arith, ap (λ (z : ℕ). z * dz) e)

module _ (x z : Float) (k : ℕ) (p : T (finite x)) (q : T (finite z)) where
  pub plus-le : (over x + k * den x) * den z + under z * den x ≤ over z * den x + under x * den z → T (le (plus x k) z)
  plus-le h =
      let s = plus-exact x k p in
      cross→le (plus x k) z s.fine q (rw s.scale (fit (over x) (under x) (den x) (over z) (under z) (den z) (over (plus x k)) (under (plus x k)) k s.value h))

  pub le-plus : T (le (plus x k) z) → (over x + k * den x) * den z + under z * den x ≤ over z * den x + under x * den z
  le-plus h =
      let s = plus-exact x k p in
      unfit (over x) (under x) (den x) (over z) (under z) (den z) (over (plus x k)) (under (plus x k)) k s.value (rw s.scale at (le→cross (plus x k) z s.fine q h))

-- ---- the laws: x + 0 ≤ x, x + k grows with k, and steps add up
pub plus_none : (x : Float) → T (finite x) → T (le (plus x 0) x)
plus_none x p = plus-le x x 0 p p (omega arith)

pub plus-more : (x : Float) (k : ℕ) → T (finite x) → T (le x (plus x k))
plus-more x k p =
    let s = plus-exact x k p in
    cross→le x (plus x k) p s.fine (rw s.scale (omega (arith, ap (λ (z : ℕ). z * den x) s.value)))

up_by : (ox ux dx oz uz dz op up k j : ℕ) → op + uz ≡ oz + up + j * dz → (ox + k * dx) * dz + uz * dx ≤ oz * dx + ux * dz
    → (ox + (k + j) * dx) * dz + up * dx ≤ op * dx + ux * dz
up_by ox ux dx oz uz dz op up k j e h = omega (arith, ap (λ (z : ℕ). z * dx) e)

pub plus-plus : (x z : Float) (k j : ℕ) → T (finite x) → T (finite z) → T (le (plus x k) z) → T (le (plus x (k + j)) (plus z j))
plus-plus x z k j p q h =
    let s = plus-exact z j q in
    plus-le x (plus z j) (k + j) p s.fine
    (rw s.scale (up_by (over x) (under x) (den x) (over z) (under z) (den z) (over (plus z j)) (under (plus z j)) k j s.value (le-plus x z k p q h)))

pub plus-mono : (x : Float) (k j : ℕ) → T (finite x) → k ≤ j → T (le (plus x k) (plus x j))
plus-mono x k j p h =
    let s = plus-exact x j p in
    plus-le x (plus x j) k p s.fine (rw s.scale (omega (arith, ap (λ (z : ℕ). z * den x) s.value, mul-le-mul_right (den x * den x) h)))

pub plus-trans : (x z w : Float) (k j : ℕ) → T (finite x) → T (finite z) → T (le (plus x k) z) → T (le (plus z j) w) → T (le (plus x (k + j)) w)
plus-trans x z w k j p q h g = le_trans (plus x (k + j)) (plus z j) w (plus-plus x z k j p q h) g

-- ---- one step: x up to X, and y at least d + 1, with X + d + 1 below 2 ^ 53, so that rounding takes 1 at most
exact : (o u e d : ℕ) → u ≡ 0 → o * 1 + suc d * 1 * e - (u * 1 + 0 * e) ≡ o + suc d * e
exact o u e d z = omega arith

above : (o u e d : ℕ) → u ≡ 0 → 0 < e → u * 1 + 0 * e < o * 1 + suc d * 1 * e
above o u e d z E = omega arith

small : (a o u e X d M : ℕ) → a ≡ o + suc d * e → u ≡ 0 → 0 < e → o ≤ X * e + u → X + suc d < M → a < M * (e * 1)
small a o u e X d M A z E h s = omega (arith, mul-lt-mul_of_pos_right s E)

one_less : (a o u e d r v dr : ℕ) → a ≡ o + suc d * e → v ≡ 0 → a * 1 * dr ≤ (r * 1 + dr) * (e * 1) → (o + d * e) * dr + v * e ≤ r * e + u * dr
one_less a o u e d r v dr A z h = rw z (omega (arith, ap (λ (w : ℕ). w * dr) A))

module _ (x : Float) (X d : ℕ) (s : X + suc d < 2 ^ 53) (h : In zero₊ (nat X) x) where
  step : T (le (plus x d) (add binary64 x (nat (suc d))))
  step =
      let p : T (finite x) = in-finite h tt in
      let u : under x ≡ 0 = nonneg-under x p h.low in
      let D : 0 < den x * 1 = mul-pos (den_pos x) (zero-lt-suc 0) in
      let a : ℕ = over x * 1 + suc d * 1 * den x - (under x * 1 + 0 * den x) in
      let r : Float = round binary64 false a (den x * 1) in
      let A : a ≡ over x + suc d * den x = exact (over x) (under x) (den x) d u in
      let l : a < 2 ^ 53 * (den x * 1) = small a (over x) (under x) (den x) X d (2 ^ 53) A u (den_pos x) (at-most X x p h.high) s in
      let R : T (finite r) = round-finite a (den x * 1) 53 0 D refl l in
      rw (rounds-is binary64 _ _ _ _ (above (over x) (under x) (den x) d u (den_pos x)) (add_rounds binary64 x (nat (suc d)) p tt))
      (plus-le x r d p R (one_less a (over x) (under x) (den x) d (over r) (under r) (den r) A (round-num a (den x * 1) R).1 (round-error-low a (den x * 1) 53 0 D refl l)))

  -- the sum may be an infinity
  pub climb : (y : Float) → T (le (nat (suc d)) y) → T (le (plus x d) (add binary64 x y))
  climb y k =
      let p : T (finite x) = in-finite h tt in
      le_trans (plus x d) (add binary64 x (nat (suc d))) (add binary64 x y) step
      (add-mono-any binary64 x x (nat (suc d)) y (add-ordered binary64 x (nat (suc d)) p tt) (add-finite-ordered binary64 x y p (le-ordered-r (nat (suc d)) y k)) (le_refl x (finite-ordered x p)) k)
