-- When two floats are equal: a zero with any zero, a NaN with none, and any other float by its bit pattern.
use Rattle.std.proofs.Common.{◌≡◌, ℕ, suc, ◌+◌, ◌-◌, ◌*◌, ◌/◌, ◌%◌, ◌^◌, ◌<◌, ◌≤◌, Bool, false, not, ◌||◌, T, eqb, ℤ, sym, refl, ap, ◌∙◌, subst, inl, inr, mul-pos, zero-mul, arith, eqb→eq, pow_pos}
use mathlib.Core.Bool.{beq}
use native.Mathlib.Nat.{eq_of_mul-eq-mul_right}
use lib.Ieee.{Float, nan, inf, fin, binary64, up, down, of_bits, to_bits, fits, is_nan, eq, le, level}
use lib.Ieee.Fits.{and_i, and_l, eq→eqb, down_pos}
use lib.Ieee.Bits.{of_bits-to_bits, to_bits-of_bits, of_bits-fits, nan_bits_is}
use lib.Ieee.Positive.{positive_of_value}
use Rattle.float_order.specs.Order.{or_r, le_refl, le_antisym, no-nan-ordered}
use Rattle.float_order.specs.Same.{is_zero, eq→same}
use Rattle.float_order.specs.Bits.{high_value, no-nan-bits}
use Rattle.sqrt.specs.Laws.{positive-no-zero}
use Rattle.bool_laws.specs.Bools.{same-holds}

pub eq-nan : (d : Float) → eq d nan ≡ false
unfolding eq
eq-nan nan = refl
eq-nan (inf s) = refl
eq-nan (fin s m e) = refl

pub eq-zero : (d : Float) (s : Bool) (e : ℤ) → eq d (fin s 0 e) ≡ is_zero d
unfolding eq
eq-zero nan s e = refl
eq-zero (inf t) s e = refl
eq-zero (fin t n k) s e = same-holds (level t a s b) (eqb (n * up k) 0) (λ h. eq→eqb (none (eqb→eq a b (and_l (eqb a b) (beq t s || eqb a 0) h)))) (λ h. all (eqb→eq (n * up k) 0 h))
  where
    a : ℕ
    a = n * up k * down e

    b : ℕ
    b = 0 * up e * down k

    none : a ≡ b → n * up k ≡ 0
    none q = eq_of_mul-eq-mul_right (down e) (down_pos e) (n * up k) 0 (omega (arith, q))

    all : n * up k ≡ 0 → T (level t a s b)
    all q = let z : a ≡ 0 = ap (λ (x : ℕ). x * down e) q ∙ zero-mul (down e) in and_i (eqb a b) (beq t s || eqb a 0) (eq→eqb {a = a} {b = b} (omega arith)) (or_r (beq t s) (eqb a 0) (eq→eqb z))

module _ (P : ℕ) (l : 2 ^ 52 ≤ P) (h : P < 2047 * 2 ^ 52) where
  no_nan : T (not (is_nan (of_bits binary64 P)))
  no_nan = subst (λ (b : Bool). T (not b)) (nan_bits_is binary64 P) (no-nan-bits P h)

  self : T (eq (of_bits binary64 P) (of_bits binary64 P))
  self = le_antisym (of_bits binary64 P) (of_bits binary64 P) refl-le refl-le
    where
      refl-le : T (le (of_bits binary64 P) (of_bits binary64 P))
      refl-le = le_refl (of_bits binary64 P) (no-nan-ordered (of_bits binary64 P) no_nan)

  no_zero : T (is_zero (of_bits binary64 P)) → ⊥
  no_zero z =
      let k = P / 2 ^ 52 - 1 in
      let e : P / 2 ^ 52 ≡ suc k = omega arith in
      positive-no-zero (of_bits binary64 P) (positive_of_value (of_bits binary64 P) ((2 ^ 52 + P % 2 ^ 52) * 2 ^ k) (2 ^ 1074) (high_value P h k e) (mul-pos (omega arith) (pow_pos k))) z

  pub by_bits : (d : Float) → T (fits binary64 d) → eqb (to_bits binary64 d) P ≡ eq d (of_bits binary64 P)
  by_bits d f =
      same-holds (eqb (to_bits binary64 d) P) (eq d (of_bits binary64 P))
      (λ t. subst (λ (x : Float). T (eq x (of_bits binary64 P))) (sym (ap (of_bits binary64) (eqb→eq (to_bits binary64 d) P t)) ∙ of_bits-to_bits binary64 d f) self)
      (λ t.
      elim (eq→same binary64 d (of_bits binary64 P) f (of_bits-fits binary64 P) t) [
        | inl e ↦ eq→eqb (ap (to_bits binary64) e ∙ to_bits-of_bits binary64 P (omega arith) no_nan)
        | inr z ↦ absurd (no_zero z.1)
      ])
