-- Whole numbers up to 2 ^ 53 are values of the format, so they bound a rounded result where they bound the exact one. Bounds by whole numbers
-- therefore add, subtract and multiply as natural numbers do, with no error; with both ends equal, that says that sums, differences and products are exact.
use Rattle.std.specs.Prelude.{◌≡◌, ℕ, ◌+◌, ◌-◌, ◌*◌, ◌^◌, ◌<◌, ◌≤◌, false, T, refl, Float}
use Rattle.std.proofs.Common.{sym, ap, ◌∙◌, le_trans as nat-le-trans, le_of_eq as nat-le-of-eq, mul-one, add-mul, mul-le-mul_right, mul-le-mul, mul-pos, zero-lt-suc, arith}
use Rattle.std.specs.Float.{binary64}
use Rattle.std.specs.Float.Ieee.{le, round, add, sub, mul}
use Rattle.std.specs.Float.Ieee.Exact.{HasValue}
use Rattle.std.specs.Float.Ieee.Back.{round_whole}
use Rattle.std.specs.Float.Ieee.Order.{le_of_values}
use Rattle.std.specs.Float.Ieee.Scale.{finite}
use Rattle.std.specs.Float.Ieee.Positive.{den, den_pos}
use Rattle.float_order.specs.Order.{over, under, le→cross, cross→le, le_trans}
use Rattle.float_order.specs.Round.{Rounds, rounds-mono, sign-rounds}
use Rattle.float_order.specs.Ops.{zero₊, add_rounds, sub-rounds, mul-rounds, nonneg-under}
use Rattle.float_order.specs.Range.{In, nat, in-finite}

-- ---- the order of whole numbers is that of their floats
pub nat_le : (a b : ℕ) → a ≤ b → T (le (nat a) (nat b))
nat_le a b h = cross→le (nat a) (nat b) tt tt (omega arith)

pub nat-le-back : (a b : ℕ) → T (le (nat a) (nat b)) → a ≤ b
nat-le-back a b t = omega (arith, le→cross (nat a) (nat b) tt tt t)

pub not-below : (a : ℕ) (x : Float) → T (le (nat a) x) → T (le zero₊ x)
not-below a x h = le_trans zero₊ (nat a) x (nat_le 0 a (omega arith)) h

-- a ≤ x and x ≤ a, as natural numbers
pub at_least : (a : ℕ) (x : Float) → T (finite x) → T (le (nat a) x) → a * den x + under x ≤ over x
at_least a x p h = omega (arith, le→cross (nat a) x tt p h)

pub at-most : (a : ℕ) (x : Float) → T (finite x) → T (le x (nat a)) → over x ≤ a * den x + under x
at-most a x p h = omega (arith, le→cross x (nat a) p tt h)

-- ---- a rounded result, of the exact (p - n) / d
nat-value : (n : ℕ) → HasValue (nat n) false n 1
nat-value n = (refl, ap (λ (z : ℕ). z * 1) (mul-one n))

one-pos : 0 < 1
one-pos = zero-lt-suc 0

pub whole-low : (k p n d : ℕ) (z : Float) → k ≤ 2 ^ 53 → 0 < d → Rounds binary64 z p n d → k * d + n ≤ p → T (le (nat k) z)
whole-low k p n d z s D r h =
    le_trans (nat k) (round binary64 false k 1) z
    (le_of_values (nat k) (round binary64 false k 1) k 1 k 1 one-pos one-pos (nat-value k) (round_whole binary64 false k s) (nat-le-of-eq refl))
    (rounds-mono binary64 (round binary64 false k 1) z k 0 1 p n d one-pos D (sign-rounds binary64 false k 1) r (omega arith))

pub whole-high : (k p n d : ℕ) (z : Float) → k ≤ 2 ^ 53 → 0 < d → Rounds binary64 z p n d → p ≤ k * d + n → T (le z (nat k))
whole-high k p n d z s D r h =
    le_trans z (round binary64 false k 1) (nat k)
    (rounds-mono binary64 z (round binary64 false k 1) p n d k 0 1 D one-pos r (sign-rounds binary64 false k 1) (omega arith))
    (le_of_values (round binary64 false k 1) (nat k) k 1 k 1 one-pos one-pos (round_whole binary64 false k s) (nat-value k) (nat-le-of-eq refl))

split : (a b w : ℕ) → b ≤ a → (a - b) * w + b * w ≡ a * w
split a b w h = let e : a - b + b ≡ a = omega arith in sym (add-mul (a - b) b w) ∙ ap (λ (z : ℕ). z * w) e

-- ---- one end: x ≥ a and y ≥ b give x + y ≥ a + b, and so on
module _ (a b : ℕ) (x y : Float) (p : T (finite x)) (q : T (finite y)) where
  D : 0 < den x * den y
  D = mul-pos (den_pos x) (den_pos y)

  pub add-whole : a + b ≤ 2 ^ 53 → T (le (nat a) x) → T (le (nat b) y) → T (le (nat (a + b)) (add binary64 x y))
  add-whole s h k =
      whole-low (a + b) _ _ _ (add binary64 x y) s D (add_rounds binary64 x y p q)
      (omega (arith, mul-le-mul_right (den y) (at_least a x p h), mul-le-mul_right (den x) (at_least b y q k)))

  pub add-whole-up : a + b ≤ 2 ^ 53 → T (le x (nat a)) → T (le y (nat b)) → T (le (add binary64 x y) (nat (a + b)))
  add-whole-up s h k =
      whole-high (a + b) _ _ _ (add binary64 x y) s D (add_rounds binary64 x y p q)
      (omega (arith, mul-le-mul_right (den y) (at-most a x p h), mul-le-mul_right (den x) (at-most b y q k)))

  pub sub-whole : b ≤ a → a ≤ 2 ^ 53 → T (le (nat a) x) → T (le y (nat b)) → T (le (nat (a - b)) (sub binary64 x y))
  sub-whole l s h k =
      whole-low (a - b) _ _ _ (sub binary64 x y) (omega arith) D (sub-rounds binary64 x y p q)
      (omega (arith, split a b (den x * den y) l, mul-le-mul_right (den y) (at_least a x p h), mul-le-mul_right (den x) (at-most b y q k)))

  pub sub-whole-up : b ≤ a → a ≤ 2 ^ 53 → T (le x (nat a)) → T (le (nat b) y) → T (le (sub binary64 x y) (nat (a - b)))
  sub-whole-up l s h k =
      whole-high (a - b) _ _ _ (sub binary64 x y) (omega arith) D (sub-rounds binary64 x y p q)
      (omega (arith, split a b (den x * den y) l, mul-le-mul_right (den y) (at-most a x p h), mul-le-mul_right (den x) (at_least b y q k)))

  pub mul-whole : a * b ≤ 2 ^ 53 → T (le (nat a) x) → T (le (nat b) y) → T (le (nat (a * b)) (mul binary64 x y))
  mul-whole s h k =
      let zx : under x ≡ 0 = nonneg-under x p (not-below a x h) in
      let zy : under y ≡ 0 = nonneg-under y q (not-below b y k) in
      let ux : a * den x ≤ over x = omega (arith, at_least a x p h) in
      let uy : b * den y ≤ over y = omega (arith, at_least b y q k) in
      whole-low (a * b) _ _ _ (mul binary64 x y) s D (mul-rounds binary64 x y p q) (rw (zx, zy) (omega (arith, mul-le-mul ux uy)))

  pub mul-whole-up : a * b ≤ 2 ^ 53 → T (le zero₊ x) → T (le x (nat a)) → T (le zero₊ y) → T (le y (nat b)) → T (le (mul binary64 x y) (nat (a * b)))
  mul-whole-up s zx' h zy' k =
      let zx : under x ≡ 0 = nonneg-under x p zx' in
      let zy : under y ≡ 0 = nonneg-under y q zy' in
      let ux : over x ≤ a * den x = omega (arith, at-most a x p h) in
      let uy : over y ≤ b * den y = omega (arith, at-most b y q k) in
      whole-high (a * b) _ _ _ (mul binary64 x y) s D (mul-rounds binary64 x y p q) (rw (zx, zy) (omega (arith, mul-le-mul ux uy)))

-- ---- both ends. `In (nat a) (nat a) x` says that x is a
module _ {a a' b b' : ℕ} {x y : Float} (h : In (nat a) (nat a') x) (k : In (nat b) (nat b') y) where
  p : T (finite x)
  p = in-finite h tt

  q : T (finite y)
  q = in-finite k tt

  la : a ≤ a'
  la = nat-le-back a a' (le_trans (nat a) x (nat a') h.low h.high)

  lb : b ≤ b'
  lb = nat-le-back b b' (le_trans (nat b) y (nat b') k.low k.high)

  pub add-whole-in : a' + b' ≤ 2 ^ 53 → In (nat (a + b)) (nat (a' + b')) (add binary64 x y)
  add-whole-in s = record { low = add-whole a b x y p q (omega (arith, la, lb)) h.low k.low; high = add-whole-up a' b' x y p q s h.high k.high }

  pub sub-whole-in : b' ≤ a → a' ≤ 2 ^ 53 → In (nat (a - b')) (nat (a' - b)) (sub binary64 x y)
  sub-whole-in l s = record {
    low = sub-whole a b' x y p q l (omega (arith, la)) h.low k.high;
    high = sub-whole-up a' b x y p q (omega (arith, la, lb)) s h.high k.low;
  }

  pub mul-whole-in : a' * b' ≤ 2 ^ 53 → In (nat (a * b)) (nat (a' * b')) (mul binary64 x y)
  mul-whole-in s = record {
    low = mul-whole a b x y p q (nat-le-trans (mul-le-mul la lb) s) h.low k.low;
    high = mul-whole-up a' b' x y p q s (not-below a x h.low) h.high (not-below b y k.low) k.high;
  }
