-- What a caller needs of `sqrt`: at 0 or above it is no NaN and at least 0, it keeps the order, and it is finite where its operand is.
use Rattle.std.specs.Prelude.{◌≡◌, ℕ, zero, suc, ◌+◌, ◌*◌, ◌/◌, ◌%◌, ◌^◌, ◌<◌, ◌≤◌, Bool, true, false, cond, ◌&&◌, T, ℤ, pos, ◌==◌, nat_le, nat_lt, refl, Float}
use Rattle.std.proofs.Common.{sym, ap, ◌∙◌, subst, zero-le, le_of_eq as nat-le-of-eq, le_trans as nat-le-trans, mul-le-mul_right, mul_right_comm, mul-pos, zero-mul, le_of_lt, lt_irrefl, one-mul, arith, eqb→eq, ltb→lt, pow_pos}
use Rattle.std.proofs.Math.Nat.{zero-div}
use Rattle.std.specs.Float.{nan, inf, fin, binary64}
use Rattle.std.specs.Float.Ieee.{up, down, round, fits, le}
use Rattle.std.specs.Float.Ieee.Exact.{HasValue}
use Rattle.std.specs.Float.Ieee.Fits.{and_r, eq→eqb, up_pos, down_pos, round-fits, nan-fits}
use Rattle.std.specs.Float.Ieee.Nearest.{div_mono}
use Rattle.std.specs.Float.Ieee.Order.{round_mono}
use Rattle.std.specs.Float.Ieee.Scale.{finite}
use Rattle.std.specs.Float.Ieee.Positive.{den, den_pos, positive}
use Rattle.float_order.specs.Order.{ordered, le→cross, cross→le, le-ordered-r, le_refl, le-top, le_trans, over, under}
use Rattle.float_order.specs.Ops.{zero₊, nonneg-under}
use Rattle.float_order.specs.Same.{is_zero}
use Rattle.float_order.specs.Bits.{units_of}
use Rattle.float_order.specs.Range.{In, finite-between}
use Rattle.float_order.specs.Round.{zero-le-round, round-ordered}
use Rattle.sqrt.specs.Sqrt.{sqrt, root_units, whole_root}
use Rattle.sqrt.specs.WholeRoot.{whole, square-lt, root-mono}

-- ---- the root of N units grows with N
-- twice the whole root of n, and one more where n is no square
abbrev pub halves : ℕ → ℕ
halves n = 2 * whole_root n + cond (whole_root n * whole_root n == n) 0 1

pub root-units : (N : ℕ) → root_units N ≡ round binary64 false (halves (N * 4 ^ 53)) (2 ^ 591)
unfolding root_units
root-units N = refl

halves-mono : (a b : ℕ) → a ≤ b → halves a ≤ halves b
halves-mono a b h = go (s * s == a) (t * t == b) (λ (e : s * s ≡ a). eq→eqb e) (eqb→eq (t * t) b)
  where
    s : ℕ
    s = whole_root a

    t : ℕ
    t = whole_root b

    go : (x y : Bool) → (s * s ≡ a → T x) → (T y → t * t ≡ b) → 2 * s + cond x 0 1 ≤ 2 * t + cond y 0 1
    go true true f g = omega (arith, root-mono a b h)
    go true false f g = omega (arith, root-mono a b h)
    go false false f g = omega (arith, root-mono a b h)
    go false true f g = omega (arith, square-lt s t (omega (arith, (whole a).0, g tt, f)))

units_mono : (M N : ℕ) → M ≤ N → T (le (root_units M) (root_units N))
units_mono M N h =
    rw (root-units M, root-units N)
    (round_mono binary64 (halves (M * 4 ^ 53)) (2 ^ 591) (halves (N * 4 ^ 53)) (2 ^ 591) (pow_pos 591) (pow_pos 591)
    (mul-le-mul_right (2 ^ 591) (halves-mono (M * 4 ^ 53) (N * 4 ^ 53) (mul-le-mul_right (4 ^ 53) h))))

-- ---- at 0 or above `sqrt` is as large as the root of the units
abbrev units : Float → ℕ
units x = over x * 2 ^ 1074 / den x

root-of-zero : root_units 0 ≡ zero₊
unfolding root_units
root-of-zero = refl

level-zero : (x : Float) (N : ℕ) → N ≡ 0 → T (le x zero₊) → T (le zero₊ x) → T (le x (root_units N)) × T (le (root_units N) x)
level-zero x N e h k = rw (e, root-of-zero) (h, k)

level : (x : Float) → T (finite x) → T (le zero₊ x) → T (le (sqrt x) (root_units (units x))) × T (le (root_units (units x)) (sqrt x))
unfolding sqrt
level nan p h = absurd p
level (inf s) p h = absurd p
level (fin false zero e) p h = level-zero (fin false 0 e) _ (ap (λ (n : ℕ). n * 2 ^ 1074 / down e) (zero-mul (up e)) ∙ zero-div (down e)) (cross→le (fin false 0 e) zero₊ tt tt (omega arith)) h
level (fin true zero e) p h = level-zero (fin true 0 e) _ (zero-div (down e)) (cross→le (fin true 0 e) zero₊ tt tt (omega arith)) h
level (fin true (suc m) e) p h = absurd (omega (arith, nonneg-under (fin true (suc m) e) tt h, mul-pos {m = suc m} {n = up e} (omega arith) (up_pos e)))
level (fin false (suc m) e) p h =
    let N = suc m * up e * 2 ^ 1074 / down e in
    let o : T (ordered (root_units N)) = rw (root-units N) (round-ordered binary64 false (halves (N * 4 ^ 53)) (2 ^ 591)) in
    (le_refl (root_units N) o, le_refl (root_units N) o)

-- ---- at 0 or above the root is no NaN, and at least 0
pub sqrt-nonneg : (x : Float) → T (le zero₊ x) → T (le zero₊ (sqrt x))
unfolding sqrt le
sqrt-nonneg nan p = absurd p
sqrt-nonneg (inf true) p = absurd p
sqrt-nonneg (inf false) p = tt
sqrt-nonneg (fin s m e) p =
    let N = units (fin s m e) in
    let z : T (le zero₊ (root_units N)) = rw (root-units N) (zero-le-round binary64 (halves (N * 4 ^ 53)) (2 ^ 591) (pow_pos 591)) in
    le_trans zero₊ (root_units N) (sqrt (fin s m e)) z (level (fin s m e) tt p).1

pub sqrt-ordered : (x : Float) → T (le zero₊ x) → T (ordered (sqrt x))
sqrt-ordered x p = le-ordered-r zero₊ (sqrt x) (sqrt-nonneg x p)

-- ---- the root keeps the order
scaled : (a b c d k : ℕ) → a * d ≤ b * c → a * k * d ≤ b * k * c
scaled a b c d k h = nat-le-trans (nat-le-of-eq (mul_right_comm a k d)) (nat-le-trans (mul-le-mul_right k h) (nat-le-of-eq (mul_right_comm b c k)))

crossed : (a b u v c d : ℕ) → a + v * c ≤ b + u * d → u ≡ 0 → v ≡ 0 → a ≤ b
crossed a b u v c d h e f = omega (arith, rw (e, f) at h)

finite-mono : (x y : Float) → T (finite x) → T (finite y) → T (le zero₊ x) → T (le zero₊ y) → T (le x y) → T (le (sqrt x) (sqrt y))
finite-mono x y X Y p q h =
    le_trans (sqrt x) (root_units (units x)) (sqrt y) (level x X p).0
    (le_trans (root_units (units x)) (root_units (units y)) (sqrt y) (units_mono (units x) (units y) fewer) (level y Y q).1)
  where
    fewer : units x ≤ units y
    fewer = div_mono (over x * 2 ^ 1074) (den x) (over y * 2 ^ 1074) (den y) (den_pos x) (den_pos y)
        (scaled (over x) (over y) (den x) (den y) (2 ^ 1074) (crossed (over x * den y) (over y * den x) (under x) (under y) (den x) (den y) (le→cross x y X Y h) (nonneg-under x X p) (nonneg-under y Y q)))

pub sqrt-mono : (x y : Float) → T (le zero₊ x) → T (le x y) → T (le (sqrt x) (sqrt y))
unfolding sqrt le
sqrt-mono nan y p h = absurd p
sqrt-mono (inf true) y p h = absurd p
sqrt-mono (inf false) nan p h = absurd h
sqrt-mono (inf false) (inf true) p h = absurd h
sqrt-mono (inf false) (inf false) p h = tt
sqrt-mono (inf false) (fin t n d) p h = absurd h
sqrt-mono (fin s m e) nan p h = absurd h
sqrt-mono (fin s m e) (inf true) p h = absurd h
sqrt-mono (fin s m e) (inf false) p h = le-top (sqrt (fin s m e)) (sqrt-ordered (fin s m e) p)
sqrt-mono (fin s m e) (fin t n d) p h = finite-mono (fin s m e) (fin t n d) tt tt p (le_trans zero₊ (fin s m e) (fin t n d) p h) h

-- A range's ends, as terms that compute: `in-wider (sqrt-at h (unfold floats in tt)) (unfold floats sqrt in tt)` closes a bound.
pub sqrt-at : {a b x : Float} → In a b x → T (le zero₊ a) → In (sqrt a) (sqrt b) (sqrt x)
sqrt-at {a} {b} {x} h p = record { low = sqrt-mono a x p h.low; high = sqrt-mono x b (le_trans zero₊ a x p h.low) h.high }

-- ---- the format holds the root of what it holds, and that is finite where the operand is
pub sqrt-fits : (x : Float) → T (fits binary64 x) → T (fits binary64 (sqrt x))
unfolding sqrt
sqrt-fits nan h = h
sqrt-fits (inf true) h = nan-fits binary64
sqrt-fits (inf false) h = h
sqrt-fits (fin s zero e) h = h
sqrt-fits (fin true (suc m) e) h = nan-fits binary64
sqrt-fits (fin false (suc m) e) h = let N = suc m * up e * 2 ^ 1074 / down e in rw (root-units N) (round-fits binary64 false (halves (N * 4 ^ 53)) (2 ^ 591))

topped : (a t d u : ℕ) → a ≤ t * d → a * 1 + 0 * d ≤ 1 * t * d + u * 1
topped a t d u h = omega (arith, one-mul t)

-- below 2 ^ 1024, so that the root is at most 2 ^ 512
under_top : (x : Float) → T (fits binary64 x) → T (finite x) → T (le x (fin false 1 (pos 1024)))
unfolding fits
under_top nan h p = absurd p
under_top (inf s) h p = absurd p
under_top (fin true m e) h p = cross→le (fin true m e) (fin false 1 (pos 1024)) tt tt (topped 0 (2 ^ 1024) (down e) (m * up e) zero-le)
under_top (fin false zero e) h p = cross→le (fin false 0 e) (fin false 1 (pos 1024)) tt tt (topped (0 * up e) (2 ^ 1024) (down e) 0 (nat-le-trans (nat-le-of-eq (zero-mul (up e))) zero-le))
under_top (fin false (suc m) e) h p =
    cross→le (fin false (suc m) e) (fin false 1 (pos 1024)) tt tt
    (topped (suc m * up e) (2 ^ 1024) (down e) 0
    (le_of_lt (ltb→lt (suc m * up e) (2 ^ 1024 * down e) (and_r (suc m % 2 == 1 && nat_lt (suc m) (2 ^ 53) && nat_le (down e) (2 ^ 1074)) (nat_lt (suc m * up e) (2 ^ 1024 * down e)) h))))

root-of-top : T (finite (sqrt (fin false 1 (pos 1024))))
unfolding sqrt
root-of-top = tt

pub sqrt-finite : (x : Float) → T (fits binary64 x) → T (finite x) → T (le zero₊ x) → T (finite (sqrt x))
sqrt-finite x h f p = finite-between zero₊ (sqrt x) (sqrt (fin false 1 (pos 1024))) tt root-of-top (sqrt-nonneg x p) (sqrt-mono x (fin false 1 (pos 1024)) p (under_top x h f))

-- ---- the root of a float that is w of the smallest values
positive-root : (s : Bool) (m : ℕ) (e : ℤ) (w : ℕ) → 0 < w → HasValue (fin s m e) false w (2 ^ 1074) → sqrt (fin s m e) ≡ root_units w
unfolding sqrt
positive-root s zero e w h v = absurd (lt_irrefl 0 (subst (λ (x : ℕ). 0 < x) (sym v.1 ∙ ap (λ (x : ℕ). x * 2 ^ 1074) (zero-mul (up e)) ∙ zero-mul (2 ^ 1074)) (mul-pos h (down_pos e))))
positive-root true (suc m) e w h v = absurd (subst T v.0 tt)
positive-root false (suc m) e w h v = ap root_units (units_of false (suc m) e w (2 ^ 1074) w (pow_pos 1074) v.1 refl)

pub root-at : (x : Float) (w : ℕ) → 0 < w → HasValue x false w (2 ^ 1074) → sqrt x ≡ root_units w
root-at nan w h v = absurd v
root-at (inf s) w h v = absurd v
root-at (fin s m e) w h v = positive-root s m e w h v

-- ---- what is above 0 is no zero
pub positive-no-zero : (x : Float) → T (positive x) → T (is_zero x) → ⊥
positive-no-zero nan p z = absurd p
positive-no-zero (inf s) p z = absurd p
positive-no-zero (fin true m e) p z = absurd p
positive-no-zero (fin false m e) p z = omega (arith, eqb→eq (m * up e) 0 z, mul-pos (ltb→lt 0 m p) (up_pos e))
