-- A quotient rounded to the nearest whole number, as the code works it out: of two limbs, and with the whole seconds apart.
use mathlib.Core.Path.{◌≡◌, refl, sym, ap, ◌∙◌}
use Prim.Native.Nat.{ℕ, zero, suc, ◌+◌, ◌-◌, ◌*◌, ◌/◌, ◌%◌, ◌^◌, ◌≤◌, ◌<◌, compare, Ordering}
use native.Mathlib.Nat.{add_comm, mul_assoc, mul_right_comm, one-mul, mul-pos, mul-mul-mul_comm, lt_of_lt_of_le, mod-lt, mod-eq_of_lt, add-mul-div_right, add-mul-mod_self_right, div-add-mod', pow-suc}
use native.Mathlib.Omega.{arith}
use lib.Arith.{digits_div, digits_mod}
use lib.Pow.{pow_pos, pow-add, pow_mono}
use lib.Ieee.{nearest}
use lib.Ieee.Nearest.{closest, closest_same}
use Rattle.float_order.specs.Digits.{compare-lt, compare-gt, compare-eq}

-- ---- two limbs
module _ (a b d : ℕ) (hb : b < 8192) (hd : 0 < d) (even : d % 2 ≡ 0) where
  rest : a % d * 8192 + b < d * 8192
  rest = omega (arith, mod-lt a hd)

  whole : a / d * (d * 8192) + (a % d * 8192 + b) ≡ a * 8192 + b
  whole = omega (arith, mul_assoc (a / d) d 8192, div-add-mod' a d)

  is : closest (a * 8192 + b) (d * 8192) ≡ nearest (a / d) (compare ((a % d * 8192 + b) * 2) (d * 8192))
  is = rw (← whole, digits_div (a / d) rest, digits_mod (a / d) rest)

  pub at_less : 2 * (a % d) < d → a / d ≡ closest (a * 8192 + b) (d * 8192)
  at_less h = sym (is ∙ ap (nearest (a / d)) (compare-lt ((a % d * 8192 + b) * 2) (d * 8192) (omega arith)))

  pub at_more : d < 2 * (a % d) → a / d + 1 ≡ closest (a * 8192 + b) (d * 8192)
  at_more h = sym (is ∙ ap (nearest (a / d)) (compare-gt ((a % d * 8192 + b) * 2) (d * 8192) (omega arith)) ∙ omega arith)

  pub at-tie : d ≤ 2 * (a % d) → 2 * (a % d) ≤ d → b ≡ 0 → a / d + a / d % 2 ≡ closest (a * 8192 + b) (d * 8192)
  at-tie h k z =
      let e : (a % d * 8192 + b) * 2 ≡ d * 8192 = omega arith in
      sym (is ∙ ap (λ (x : ℕ). nearest (a / d) (compare x (d * 8192))) e ∙ ap (nearest (a / d)) (compare-eq (d * 8192)))

  pub at-past : d ≤ 2 * (a % d) → 2 * (a % d) ≤ d → ¬ (b ≡ 0) → a / d + 1 ≡ closest (a * 8192 + b) (d * 8192)
  at-past h k z = sym (is ∙ ap (nearest (a / d)) (compare-gt ((a % d * 8192 + b) * 2) (d * 8192) (omega arith)) ∙ omega arith)

-- ---- an even number taken apart before rounding
nearest-add : (a q : ℕ) (o : Ordering) → a % 2 ≡ 0 → nearest (a + q) o ≡ a + nearest q o
nearest-add a q Ordering.lt h = refl
nearest-add a q Ordering.eq h = omega arith
nearest-add a q Ordering.gt h = omega arith

closest-add : (a n d : ℕ) → 0 < d → a % 2 ≡ 0 → closest (n + a * d) d ≡ a + closest n d
closest-add a n d D h = rw (add-mul-div_right n a D, add-mul-mod_self_right n a d, add_comm (n / d) a) (nearest-add a (n / d) (compare (n % d * 2) d) h)

-- ---- the divisor, as the code shifts it
pub record Divisor (d : ℕ) : Type 0 where
  pub above : 0 < d
  pub most : d ≤ 2 ^ 62
  pub even : d % 2 ≡ 0

shifted : (j : ℕ) → j < 64 → 1 * 2 ^ j % 2 ^ 64 ≡ 2 ^ j
shifted j h = ap (λ (x : ℕ). x % 2 ^ 64) (one-mul (2 ^ j)) ∙ mod-eq_of_lt {n = 2 ^ j} {m = 2 ^ 64} (omega (arith, pow_mono {i = j} {j = 63} (omega arith)))

pub divisor : (j : ℕ) → 0 < j → j ≤ 62 → Divisor (1 * 2 ^ j % 2 ^ 64)
divisor zero l h = absurd (omega arith)
divisor (suc j) l h = rw (shifted (suc j) (omega arith)) (record { above = pow_pos (suc j); most = pow_mono {i = suc j} {j = 62} h; even = omega (arith, pow-suc 2 j) })

-- ---- the whole seconds, and the rest
pub rest_lt : (m k : ℕ) → k < 23 → m % (1 * 2 ^ k % 2 ^ 64) < 2 ^ 22
rest_lt m k h = rw (shifted k (omega arith)) (lt_of_lt_of_le (mod-lt m (pow_pos k)) (pow_mono {i = k} {j = 22} (omega arith)))

pub in-seconds : (m k : ℕ) → k < 23 → m / (1 * 2 ^ k % 2 ^ 64) * 1000000000 + closest (m % (1 * 2 ^ k % 2 ^ 64) * 1000000000 * 8192 + 0) (1 * 2 ^ k % 2 ^ 64 * 8192) ≡ closest (m * 10 ^ 9) (2 ^ k)
in-seconds m k h = rw (shifted k (omega arith)) (sym (ap (λ (x : ℕ). closest x (2 ^ k)) (parted m (2 ^ k)) ∙ closest-add (m / 2 ^ k * 10 ^ 9) (m % 2 ^ k * 10 ^ 9) (2 ^ k) (pow_pos k) (omega arith) ∙ ap (λ (x : ℕ). m / 2 ^ k * 10 ^ 9 + x) (wider (m % 2 ^ k * 10 ^ 9) (2 ^ k) (pow_pos k))))
  where
    parted : (m d : ℕ) → m * 10 ^ 9 ≡ m % d * 10 ^ 9 + m / d * 10 ^ 9 * d
    parted m d = let e = div-add-mod' m d in let c = mul_right_comm (m / d) (10 ^ 9) d in omega arith

    wider : (n d : ℕ) → 0 < d → closest n d ≡ closest (n * 8192 + 0) (d * 8192)
    wider n d D = closest_same n d (n * 8192 + 0) (d * 8192) D (omega arith) (let e = mul_assoc n d 8192 in let c = mul_right_comm n d 8192 in omega arith)

-- ---- the two limbs of m * 5 ^ 9, and 10 ^ 9 for 5 ^ 9
limbs : (m : ℕ) → (m / 8192 * 1953125 + m % 8192 * 1953125 / 8192) * 8192 + m % 8192 * 1953125 % 8192 ≡ m * 1953125
limbs m = omega arith

pub in-limbs : (m k : ℕ) → 23 ≤ k → k ≤ 84
    → closest ((m / 8192 * 1953125 + m % 8192 * 1953125 / 8192) * 8192 + m % 8192 * 1953125 % 8192) (1 * 2 ^ (k - 22) % 2 ^ 64 * 8192) ≡ closest (m * 10 ^ 9) (2 ^ k)
in-limbs m k l h =
    rw (limbs m, shifted (k - 22) (omega arith))
    (closest_same (m * 1953125) (2 ^ (k - 22) * 8192) (m * 10 ^ 9) (2 ^ k) (mul-pos (pow_pos (k - 22)) (omega arith)) (pow_pos k)
    (ap (λ (x : ℕ). m * 1953125 * x) (ap (λ (x : ℕ). 2 ^ x) (whole k l) ∙ pow-add 2 (k - 22) 22)
    ∙ mul-mul-mul_comm m 1953125 (2 ^ (k - 22)) (2 ^ 22)
    ∙ sym (mul-mul-mul_comm m (10 ^ 9) (2 ^ (k - 22)) 8192)))
  where
    whole : (n : ℕ) → 23 ≤ n → n ≡ n - 22 + 22
    whole n q = omega arith
