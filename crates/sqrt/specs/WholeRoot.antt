-- The whole root is the one number whose square is at most n while the next number's is above n.
use Rattle.std.specs.Prelude.{◌≡◌, ℕ, zero, suc, ◌+◌, ◌*◌, ◌/◌, ◌%◌, ◌^◌, ◌<◌, ◌≤◌, Bool, true, false, cond, not, T, nat_le}
use Rattle.std.proofs.Common.{ap, le_trans, lt_of_lt_of_le, lt_of_le_of_lt, lt_irrefl, lt_of_not-le, pow-suc, mul-le-mul, mul_assoc, mul_left_comm, mul-add, add-mul, arith, leb→le}
use Rattle.std.proofs.Math.Nat.{pow-le-pow_left}
use Rattle.std.proofs.Math.Dec.{nleb→lt}
use Rattle.std.specs.Float.Ieee.{size}
use Rattle.std.specs.Float.Ieee.Digits.{size-lt}
use Rattle.sqrt.specs.Sqrt.{root_by, whole_root}

abbrev pub IsRoot : ℕ → ℕ → Type 0
IsRoot n r = (r * r ≤ n) × (n < (r + 1) * (r + 1))

-- ---- squares
pub square-even : (q : ℕ) → 2 * q * (2 * q) ≡ 4 * (q * q)
square-even q = omega (arith, mul_assoc 2 q (2 * q), mul_left_comm q 2 q)

pub square-next : (q : ℕ) → (q + 1) * (q + 1) ≡ q * q + 2 * q + 1
square-next q = omega (arith, add-mul q 1 (q + 1), mul-add q q 1)

pub square-odd : (q : ℕ) → (2 * q + 1) * (2 * q + 1) ≡ 4 * (q * q) + 4 * q + 1
square-odd q = omega (arith, square-next (2 * q), square-even q)

pub square-lt : (a b : ℕ) → a * a < b * b → a < b
square-lt a b h = lt_of_not-le (λ (l : b ≤ a). lt_irrefl (a * a) (lt_of_lt_of_le h (mul-le-mul l l)))

-- ---- the whole root
pick : (n r : ℕ) (b : Bool) → (T b → (r + 1) * (r + 1) ≤ n) → (T (not b) → n < (r + 1) * (r + 1)) → r * r ≤ n → n < (r + 1 + 1) * (r + 1 + 1) → IsRoot n (cond b (r + 1) r)
pick n r true f g l h = (f tt, h)
pick n r false f g l h = (l, g tt)

by : (k n : ℕ) → n < 4 ^ k → IsRoot n (root_by k n)
unfolding root_by
by zero n h = (omega arith, omega arith)
by (suc k) n h =
    let r = root_by k (n / 4) in
    let d = by k (n / 4) (omega (arith, pow-suc 4 k)) in
    let next = (2 * r + 1) * (2 * r + 1) in
    pick n (2 * r) (nat_le next n) (leb→le next n) (nleb→lt next n) (omega (arith, square-even r)) (omega (arith, square-next r, square-even (r + 1)))

pub whole : (n : ℕ) → IsRoot n (whole_root n)
unfolding whole_root
whole n = by (size n) n (lt_of_lt_of_le (size-lt n) (pow-le-pow_left {n = 2} {m = 4} (omega arith) (size n)))

-- a number whose square is at most n is at most the root, and one whose square is above n is above it
pub root_ge : (n a : ℕ) → a * a ≤ n → a ≤ whole_root n
root_ge n a h = omega (arith, square-lt a (whole_root n + 1) (lt_of_le_of_lt h (whole n).1))

pub root-lt : (n a : ℕ) → n < a * a → whole_root n < a
root-lt n a h = square-lt (whole_root n) a (lt_of_le_of_lt (whole n).0 h)

pub root_is : (n r : ℕ) → IsRoot n r → r ≡ whole_root n
root_is n r h = omega (arith, root_ge n r h.0, root-lt n (r + 1) h.1)

pub root-mono : (a b : ℕ) → a ≤ b → whole_root a ≤ whole_root b
root-mono a b h = root_ge b (whole_root a) (le_trans (whole a).0 h)

-- an odd root of a multiple of 4 has a square below it
pub odd-below : (m p : ℕ) → m % 4 ≡ 0 → IsRoot m p → p % 2 ≡ 1 → p * p < m
odd-below m p four is o =
    let e : p ≡ 2 * (p / 2) + 1 = omega arith in
    omega (arith, is.0, ap (λ (x : ℕ). x * x) e, square-odd (p / 2))
