-- The tests of `sqrt` and `is_sqrt` tell the kinds of floats apart: a NaN, a zero, what is below zero, infinity, and what is positive and finite.
use Rattle.std.proofs.Common.{◌≡◌, ℕ, zero, suc, ◌+◌, ◌*◌, ◌^◌, ◌<◌, Bool, true, false, not, T, eqb, ℤ, pos, sym, refl, ap, ◌∙◌, subst, mul-pos, zero-mul, arith, eqb→eq, ltb→lt, T_not}
use lib.Ieee.{Float, nan, inf, fin, binary64, up, down, of_bits, to_bits, fits, is_nan, eq, lt, le}
use lib.Ieee.Fits.{eq→eqb, up_pos}
use lib.Ieee.Bits.{of_bits-to_bits}
use Rattle.float_order.specs.Order.{is_true, is_false, no-nan-ordered, lt-left→le}
use Rattle.float_order.specs.Ops.{zero₊, nonneg-under}
use Rattle.float_order.specs.Same.{is_zero}
use Rattle.float_order.specs.Bits.{finite-bound}
use Rattle.sqrt.specs.Sqrt.{sqrt}
use Rattle.sqrt.proofs.Equal.{eq-zero}

abbrev zero64 : Float
zero64 = of_bits binary64 0

-- ---- a NaN
pub at-nan : (x : Float) → is_nan x ≡ true → x ≡ nan
unfolding is_nan
at-nan nan p = refl
at-nan (inf s) p = absurd (is_true false p)
at-nan (fin s m e) p = absurd (is_true false p)

pub root-of-nan : sqrt nan ≡ nan
unfolding sqrt
root-of-nan = refl

-- ---- a zero
is-zero : (x : Float) → eq x zero64 ≡ is_zero x
unfolding of_bits
is-zero x = eq-zero x false (pos 0)

-- what holds of every zero
by_zero : (P : Float → Type 0) (x : Float) → T (is_zero x) → ((s : Bool) (e : ℤ) → P (fin s 0 e)) → P x
by_zero P nan z f = absurd z
by_zero P (inf s) z f = absurd z
by_zero P (fin s zero e) z f = f s e
by_zero P (fin s (suc m) e) z f = absurd (omega (arith, eqb→eq (suc m * up e) 0 z, mul-pos {m = suc m} {n = up e} (omega arith) (up_pos e)))

pub at_zero : (x : Float) → eq x zero64 ≡ true → x ≡ sqrt x
unfolding sqrt
at_zero x p = by_zero (λ (y : Float). y ≡ sqrt y) x (is_true _ (sym (is-zero x) ∙ p)) (λ s e. refl)

pub zero_same : (d x : Float) → eq x zero64 ≡ true → eq d zero64 ≡ eq d (sqrt x)
zero_same d x p = is-zero d ∙ sym (rw (← at_zero x p) (by_zero (λ (y : Float). eq d y ≡ is_zero d) x (is_true _ (sym (is-zero x) ∙ p)) (eq-zero d)))

-- ---- below zero
none : (a d : ℕ) → a < 0 * d → ⊥
none a d h = omega arith

both-none : (u d : ℕ) → 0 < 0 * u * 1 + 0 * d → ⊥
both-none u d h = omega arith

pub at-below : (x : Float) → lt x zero64 ≡ true → sqrt x ≡ nan
unfolding lt of_bits sqrt
at-below nan p = refl
at-below (inf true) p = refl
at-below (inf false) p = absurd (is_true false p)
at-below (fin true zero e) p = absurd (both-none (up e) (down e) (ltb→lt 0 (0 * up e * 1 + 0 * down e) (is_true _ p)))
at-below (fin true (suc m) e) p = refl
at-below (fin false m e) p = absurd (none (m * up e * 1) (down e) (ltb→lt (m * up e * 1) (0 * down e) (is_true _ p)))

pub nan_is : of_bits binary64 0x7ff8000000000000 ≡ nan
unfolding of_bits
nan_is = refl

-- ---- infinity
inf-is : of_bits binary64 (2047 * 2 ^ 52) ≡ sqrt (of_bits binary64 (2047 * 2 ^ 52))
unfolding of_bits sqrt
inf-is = refl

inf_bits : to_bits binary64 (inf false) ≡ 2047 * 2 ^ 52
unfolding to_bits
inf_bits = refl

pub at-infinity : (x : Float) → fits binary64 x ≡ true → to_bits binary64 x ≡ 2047 * 2 ^ 52 → x ≡ sqrt x
at-infinity x h e = subst (λ (y : Float). y ≡ sqrt y) (sym (ap (of_bits binary64) e) ∙ of_bits-to_bits binary64 x (is_true _ h)) inf-is

-- ---- what is left is positive and finite
below_top : (x : Float) → T (fits binary64 x) → T (not (is_zero x)) → T (le zero₊ x) → ¬ (to_bits binary64 x ≡ 2047 * 2 ^ 52) → to_bits binary64 x < 2047 * 2 ^ 52
below_top nan h z l d = absurd (unfold le in l)
below_top (inf true) h z l d = absurd (unfold le in l)
below_top (inf false) h z l d = absurd (d inf_bits)
below_top (fin true m e) h z l d = absurd (T_not (eqb (m * up e) 0) z (eq→eqb (nonneg-under (fin true m e) tt l)))
below_top (fin false zero e) h z l d = absurd (T_not (eqb (0 * up e) 0) z (eq→eqb (zero-mul (up e))))
below_top (fin false (suc m) e) h z l d = finite-bound m e h

zero-is-zero : T (is_zero zero64)
unfolding of_bits
zero-is-zero = tt

zero_is : zero64 ≡ zero₊
unfolding of_bits
zero_is = refl

pub in-range : (x : Float) → fits binary64 x ≡ true → is_nan x ≡ false → eq x zero64 ≡ false → lt x zero64 ≡ false → ¬ (to_bits binary64 x ≡ 2047 * 2 ^ 52)
    → (0 < to_bits binary64 x) × (to_bits binary64 x < 2047 * 2 ^ 52)
in-range x h a b c d =
    let z : T (not (is_zero x)) = is_false _ (sym (is-zero x) ∙ b) in
    let f : T (fits binary64 x) = is_true _ h in
    let l : T (le zero₊ x) = lt-left→le x zero₊ (no-nan-ordered x (is_false _ a)) tt (rw zero_is at c) in
    let n : ¬ (to_bits binary64 x ≡ 0) = λ e. T_not (is_zero x) z (subst (λ (y : Float). T (is_zero y)) (sym (ap (of_bits binary64) e) ∙ of_bits-to_bits binary64 x f) zero-is-zero) in
    (omega arith, below_top x f z l d)
