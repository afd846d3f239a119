-- Laws of natural numbers and of tests that several files need.
use Rattle.std.specs.Prelude.{◌≡◌, ℕ, suc, ◌+◌, ◌-◌, ◌*◌, ◌^◌, ◌≤◌, Bool, true, false, not, T, ◌⊎◌}
use Rattle.std.proofs.Common.{sym, ap, ◌∙◌, inl, inr, mul_comm, mul_assoc, mul_left_comm, add-mul, mul-add, le_of_suc-le-suc, lt_of_not-le, not-le_of_lt, arith, pow-add}
use Rattle.std.proofs.Math.Nat.{mul-sub}
use Rattle.std.proofs.Math.Pow.{pow-lt}

-- sums of products in one form
pub ruleset ac = (add-mul, mul-add, mul_assoc, mul_comm, mul_left_comm)

pub either : (b : Bool) → T b ⊎ T (not b)
either true = inl tt
either false = inr tt

-- 2 ^ i ≤ 2 ^ j only for i ≤ j
pub pow_le_back : (i j : ℕ) → 2 ^ i ≤ 2 ^ j → i ≤ j
pow_le_back i j h = le_of_suc-le-suc (lt_of_not-le (λ (g : suc j ≤ i). not-le_of_lt (pow-lt g) h))

pub pow-split : (i j : ℕ) → i ≤ j → 2 ^ (j - i) * 2 ^ i ≡ 2 ^ j
pow-split i j h = let e : j - i + i ≡ j = omega arith in sym (pow-add 2 (j - i) i) ∙ ap (λ (z : ℕ). 2 ^ z) e

-- |a - b|
abbrev pub dist : ℕ → ℕ → ℕ
dist a b = (a - b) + (b - a)

pub sub-mul : (a b c : ℕ) → (a - b) * c ≡ a * c - b * c
sub-mul a b c = rw (mul_comm (a - b) c, mul-sub c a b, mul_comm c a, mul_comm c b)

pub dist-mul : (a b c : ℕ) → dist (a * c) (b * c) ≡ dist a b * c
dist-mul a b c = rw (← sub-mul a b c, ← sub-mul b a c, ← add-mul (a - b) (b - a) c)
