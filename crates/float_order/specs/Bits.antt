-- Bit patterns of positive finite values: a pattern below that of infinity is an exponent's field and 52 digits.
use Rattle.std.specs.Prelude.{◌≡◌, ℕ, suc, ◌+◌, ◌-◌, ◌*◌, ◌/◌, ◌%◌, ◌^◌, ◌<◌, ◌≤◌, Bool, true, false, cond, not, T, ℤ, ◌==◌, nat_lt, Float}
use Rattle.std.proofs.Math.Path.{refl, ap, subst}
use Rattle.std.proofs.Common.{sym, ◌∙◌, le_of_eq, lt_of_lt_of_le, mul_right_comm, mul-div_cancel, mod-eq_of_lt, div-lt_iff_lt-mul, mul-lt-mul_of_pos_right, arith, ne_eqb, ltb→lt, pow_pos}
use Rattle.std.proofs.Math.Nat.{eq_of_mul-eq-mul_right}
use Rattle.std.proofs.lemmas.Bool.{lt-leb}
use Rattle.std.proofs.Math.Dec.{not_T}
use Rattle.std.proofs.lemmas.Nat.{shl-shr}
use Rattle.std.specs.Float.{nan, inf, fin}
use Rattle.std.specs.Float.Ieee.{binary64, up, down, size, odd, of_fields, of_bits, to_bits, fits, nan_bits}
use Rattle.std.specs.Float.Ieee.Digits.{size-le}
use Rattle.std.specs.Float.Ieee.Fits.{down_pos, kept-lt}
use Rattle.std.specs.Float.Ieee.Exact.{HasValue, odd_sign}
use Rattle.std.specs.Float.Ieee.Bits.{nan_bits_above}
use Rattle.float_order.specs.Digits.{size-shifted}
use Rattle.float_order.specs.Exact.{held}

-- ---- the pattern of a positive finite value
-- the magnitude in units of the smallest value, of a float that is a / c in size
pub units_of : (s : Bool) (m : ℕ) (e : ℤ) (a c w : ℕ) → 0 < c → m * up e * c ≡ a * down e → a * 2 ^ 1074 ≡ w * c → m * up e * 2 ^ 1074 / down e ≡ w
units_of s m e a c w h v k =
    ap (λ (x : ℕ). x / down e)
    (eq_of_mul-eq-mul_right c h (m * up e * 2 ^ 1074) (w * down e)
    (mul_right_comm (m * up e) (2 ^ 1074) c ∙ ap (λ (x : ℕ). x * 2 ^ 1074) v ∙ mul_right_comm a (down e) (2 ^ 1074) ∙ ap (λ (x : ℕ). x * down e) k ∙ mul_right_comm w c (down e)))
    ∙ mul-div_cancel w (down_pos e)

-- the pattern of r * 2 ^ j units, r of 53 digits
written : (r j : ℕ) → 2 ^ 52 ≤ r → r < 2 ^ 53 → (size (r * 2 ^ j) - 53) * 2 ^ 52 + r * 2 ^ j / 2 ^ (size (r * 2 ^ j) - 53) ≡ j * 2 ^ 52 + r
written r j l h =
    let z : size (r * 2 ^ j) ≡ 53 + j = size-shifted r 52 j (r * 2 ^ j) l h (omega arith) (mul-lt-mul_of_pos_right {m = r} {n = r + 1} (omega arith) (pow_pos j)) in
    let k : size (r * 2 ^ j) - 53 ≡ j = omega arith in
    ap (λ (x : ℕ). x * 2 ^ 52 + r * 2 ^ j / 2 ^ x) k ∙ ap (λ (x : ℕ). j * 2 ^ 52 + x) (shl-shr r j)

pub to-bits : (x : Float) (a c r j : ℕ) → 0 < c → HasValue x false a c → a * 2 ^ 1074 ≡ r * 2 ^ j * c → 2 ^ 52 ≤ r → r < 2 ^ 53
    → to_bits binary64 x ≡ j * 2 ^ 52 + r
unfolding to_bits
to-bits nan a c r j p v k l h = elim v [ ]
to-bits (inf _) a c r j p v k l h = elim v [ ]
to-bits (fin true m e) a c r j p v k l h = absurd (clash v.0)
  where
    clash : true ≡ false → ⊥
    clash q = subst T q tt
to-bits (fin false m e) a c r j p v k l h =
    ap (λ (n : ℕ). 0 + (size n - 53) * 2 ^ 52 + n / 2 ^ (size n - 53)) (units_of false m e a c (r * 2 ^ j) p v.1 k)
    ∙ (omega arith)
    ∙ written r j l h

-- ---- the value of a pattern
module _ (b : ℕ) (h : b < 2047 * 2 ^ 52) where
  fields-of : of_bits binary64 b ≡ of_fields binary64 false (b / 2 ^ 52) (b % 2 ^ 52)
  unfolding of_bits
  fields-of =
      ap (λ (s : Bool). of_fields binary64 s (b % 2 ^ 63 / 2 ^ 52) (b % 2 ^ 52)) (lt-leb (2 ^ 63) b (omega arith))
      ∙ ap (λ (n : ℕ). of_fields binary64 false (n / 2 ^ 52) (b % 2 ^ 52)) (mod-eq_of_lt {n = b} {m = 2 ^ 63} (omega arith))

  pub low_value : b / 2 ^ 52 ≡ 0 → HasValue (of_bits binary64 b) false (b % 2 ^ 52 * 2 ^ 0) (2 ^ 1074)
  unfolding of_fields
  low_value e =
      subst (λ (x : Float). HasValue x false (b % 2 ^ 52 * 2 ^ 0) (2 ^ 1074)) (sym (fields-of ∙ ap (λ (k : ℕ). of_fields binary64 false k (b % 2 ^ 52)) e ∙ is))
      (odd_sign 53 false (b % 2 ^ 52) 0 1074)
    where
      is : of_fields binary64 false 0 (b % 2 ^ 52) ≡ odd 53 false (b % 2 ^ 52) 0 1074
      is = refl

  pub high_value : (k : ℕ) → b / 2 ^ 52 ≡ suc k → HasValue (of_bits binary64 b) false ((2 ^ 52 + b % 2 ^ 52) * 2 ^ k) (2 ^ 1074)
  unfolding of_fields
  high_value k e =
      subst (λ (x : Float). HasValue x false ((2 ^ 52 + b % 2 ^ 52) * 2 ^ k) (2 ^ 1074)) (sym (fields-of ∙ ap (λ (k : ℕ). of_fields binary64 false k (b % 2 ^ 52)) e ∙ is))
      (odd_sign 53 false (2 ^ 52 + b % 2 ^ 52) k 1074)
    where
      is : of_fields binary64 false (suc k) (b % 2 ^ 52) ≡ odd 53 false (2 ^ 52 + b % 2 ^ 52) k 1074
      is = ap (λ (t : Bool). cond t (cond (b % 2 ^ 52 == 0) (inf false) nan) (odd 53 false (2 ^ 52 + b % 2 ^ 52) k 1074)) (ne_eqb (suc k) 2047 (λ q. omega arith))

-- ---- its bounds
-- the pattern of n units
bound : (n : ℕ) → n < 2 ^ 2098 → 0 + (size n - 53) * 2 ^ 52 + n / 2 ^ (size n - 53) < 2047 * 2 ^ 52
bound n h = omega (arith, size-le n 2098 h, kept-lt 53 n)

pub finite-bound : (m : ℕ) (e : ℤ) → T (fits binary64 (fin false (suc m) e)) → to_bits binary64 (fin false (suc m) e) < 2047 * 2 ^ 52
unfolding to_bits
finite-bound m e h =
    let d : suc m * up e < 2 ^ 1024 * down e = (held binary64 false (suc m) e h).high in
    bound (suc m * up e * 2 ^ 1074 / down e) ((div-lt_iff_lt-mul {k = down e} {x = suc m * up e * 2 ^ 1074} {y = 2 ^ 2098} (down_pos e)).1
    (lt_of_lt_of_le (mul-lt-mul_of_pos_right d (pow_pos 1074)) (le_of_eq (mul_right_comm (2 ^ 1024) (down e) (2 ^ 1074)))))

pub no-nan-bits : (n : ℕ) → n < 2047 * 2 ^ 52 → T (not (nan_bits binary64 n))
no-nan-bits n h =
    subst (λ (t : Bool). T (not t)) (sym (nan_bits_above binary64 n)) (not_T (nat_lt (2047 * 2 ^ 52) (n % 2 ^ 63)) (λ t. omega (arith, ltb→lt (2047 * 2 ^ 52) (n % 2 ^ 63) t)))
