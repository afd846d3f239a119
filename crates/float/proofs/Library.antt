-- The magnitude and the ceiling are those of std, and a zero is its own ceiling.
use Rattle.std.proofs.Common.{◌≡◌, ◌∙◌, ◌+◌, ◌-◌, ◌*◌, ◌/◌, ◌%◌, ℕ, ◌<◌, Bool, true, false, T, ℤ, sym, refl, ap, arith}
use Rattle.std.proofs.lemmas.Float.{le_of_eq, eq_flip}
use native.Mathlib.Nat.{zero-mod}
use Rattle.std.specs.Float.{Float, nan, inf, fin, binary64, float_with_sign, round_with}
use Rattle.std.specs.Float as Std
use Rattle.std.specs.Float.Ieee.{up, down, round, eq, fits, of_bits}
use Rattle.std.specs.Float.Ieee.Fits.{down_pos, eq→eqb}
use Rattle.float_order.specs.Order.{is_true}
use Rattle.float_order.specs.Ops.{zero₊, nonneg-under, nonpos-over}
use Rattle.float.specs.Float.{abs, ceil}
use Rattle.float.specs.Ceil.{is_whole, ceil-whole}

pub abs_is : (x : Float) → float_with_sign false x ≡ abs x
unfolding float_with_sign abs
abs_is nan = refl
abs_is (inf s) = refl
abs_is (fin s m e) = refl

same : (n d : ℕ) → 0 < d → n + d - 1 ≡ n + (d - 1)
same n d D = omega arith

pub ceil_is : (x : Float) → Std.ceil binary64 x ≡ ceil x
unfolding round_with ceil
ceil_is nan = refl
ceil_is (inf s) = refl
ceil_is (fin true m e) = refl
ceil_is (fin false m e) = ap (λ (n : ℕ). round binary64 false (n / down e) 1) (same (m * up e) (down e) (down_pos e))

zero-whole : (s : Bool) (m : ℕ) (e : ℤ) → m * up e ≡ 0 → T (is_whole (fin s m e))
zero-whole s m e z = eq→eqb (ap (λ (n : ℕ). n % down e) z ∙ zero-mod (down e))

pub zero_stays : (x : Float) → fits binary64 x ≡ true → eq x (of_bits binary64 0) ≡ true → x ≡ ceil x
unfolding ceil eq of_bits
zero_stays nan f q = refl
zero_stays (inf s) f q = refl
zero_stays (fin true m e) f q =
    sym (ceil-whole (fin true m e) (is_true _ f) (zero-whole true m e (nonneg-under (fin true m e) tt (le_of_eq zero₊ (fin true m e) (eq_flip (fin true m e) zero₊ (is_true _ q))))))
zero_stays (fin false m e) f q =
    sym (ceil-whole (fin false m e) (is_true _ f) (zero-whole false m e (nonpos-over (fin false m e) tt (le_of_eq (fin false m e) zero₊ (is_true _ q)))))
