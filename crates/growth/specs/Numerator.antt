-- Up to 1,000 ms the definition's numerator satisfies the rule, and nothing else does. It is from 2 ^ 52 up, below 2 ^ 53, and rises.
use Rattle.std.specs.Prelude.{◌≡◌, refl, Bool, true, false, not, cond, T}
use Rattle.std.proofs.Common.{ap, ◌∙◌, subst, le_refl, le_of_lt, lt_of_not-le, zero-add, add-zero, suc-add, sub-add_cancel, mul-one, mul-add, mul_assoc, mul-le-mul_right, pow-suc, arith, leb→le, le→leb, T_not, lit≤, lit<}
use Prim.Native.Nat.{ℕ, zero, suc, ◌+◌, ◌-◌, ◌*◌, ◌/◌, ◌%◌, ◌^◌, ◌≤◌, ◌<◌, zero-le}
use Rattle.std.proofs.Math.Nat.{mul-add-mod_self_right, pow-zero, pow-le-pow_left}
use Rattle.std.proofs.Math.Dec.{nleb→lt, not_T}
use Rattle.growth.specs.Growth.{Nearest, largest, is_under, numerator}
use Rattle.growth.specs.Powers.{AtMost, less, next}

-- ---- the search
step : (p : ℕ → Bool) (k r : ℕ) (b : Bool) → p (r + 2 ^ k) ≡ b → T (p r) → T (not (p (r + 2 ^ suc k))) → T (p (cond b (r + 2 ^ k) r)) × T (not (p (cond b (r + 2 ^ k) r + 2 ^ k)))
step p k r true e t f = (rw e tt, subst (λ (x : ℕ). T (not (p x))) (omega (arith, pow-suc 2 k)) f)
step p k r false e t f = (t, rw e tt)

found : (p : ℕ → Bool) (k r : ℕ) → T (p r) → T (not (p (r + 2 ^ k))) → T (p (largest p k r)) × T (not (p (largest p k r + 1)))
unfolding largest
found p zero r t f = (t, f)
found p (suc k) r t f = let s = step p k r (p (r + 2 ^ k)) refl t f in found p k (cond (p (r + 2 ^ k)) (r + 2 ^ k) r) s.0 s.1

-- ---- the test
module _ (i : ℕ) where
  bound : (m : ℕ) → T (is_under i m) → AtMost 1000 (2 * m - 1) (2 ^ 53) (27 ^ i) (25 ^ i)
  bound m t = record { law = leb→le _ _ t }

  passes : (m : ℕ) → AtMost 1000 (2 * m - 1) (2 ^ 53) (27 ^ i) (25 ^ i) → T (is_under i m)
  passes m h = le→leb _ _ h.law

  fewer : (l m : ℕ) → m ≤ l → T (is_under i l) → T (is_under i m)
  fewer l m h t = passes m (less 1000 1 (2 * m - 1) (2 ^ 53) (bound l t) (omega arith) (omega arith) (omega arith))

  order : (l m : ℕ) → T (is_under i l) → T (not (is_under i m)) → l < m
  order l m t f = lt_of_not-le (λ (h : m ≤ l). T_not (is_under i m) f (fewer l m h t))

-- what passes at i passes later
up : AtMost 1000 1 1 27 25
up = record { law = lit≤ tt }

later : (k i m : ℕ) → T (is_under i m) → T (is_under (k + i) m)
later zero i m t = rw zero-add t
later (suc k) i m t =
    rw suc-add (passes (suc (k + i)) m (next 1000 1 (2 * m - 1) (2 ^ 53) (k + i) (bound (k + i) m (later k i m t)) up (omega arith) (omega arith) (omega arith)))

-- 2 ^ 52 passes at 0, and 2 ^ 53 fails at 1000
from-1 : (i : ℕ) → T (is_under i (2 ^ 52))
from-1 i = subst (λ (j : ℕ). T (is_under j (2 ^ 52))) (add-zero i) (later i 0 (2 ^ 52) tt)

below-2 : (i : ℕ) → i ≤ 1000 → T (not (is_under i (2 ^ 53)))
below-2 i h = not_T (is_under i (2 ^ 53)) (λ t. subst (λ (j : ℕ). T (is_under j (2 ^ 53))) (sub-add_cancel h) (later (1000 - i) i (2 ^ 53) t))

-- ---- the numerator
module _ (i : ℕ) (h : i ≤ 1000) where
  at-numerator : T (is_under i (numerator i)) × T (not (is_under i (numerator i + 1)))
  unfolding numerator
  at-numerator = found (is_under i) 53 0 (fewer i (2 ^ 52) 0 zero-le (from-1 i)) (below-2 i h)

  pub numerator-low : 2 ^ 52 ≤ numerator i
  numerator-low = omega (arith, order i (2 ^ 52) (numerator i + 1) (from-1 i) at-numerator.1)

  pub numerator-high : numerator i < 2 ^ 53
  numerator-high = order i (numerator i) (2 ^ 53) at-numerator.0 (below-2 i h)

  pub numerator-nearest : Nearest i (numerator i)
  numerator-nearest = record {
    under = leb→le _ _ at-numerator.0;
    over = let e : 2 * (numerator i + 1) - 1 ≡ 2 * numerator i + 1 = omega arith in rw (← e) (le_of_lt (nleb→lt _ _ at-numerator.1));
  }

-- the next number passes a millisecond later: 1.08 ^ (1 / 1000) is more than (2 ^ 53 + 1) / (2 ^ 53 - 1)
grows : AtMost 1000 (2 ^ 53 + 1) (2 ^ 53 - 1) 27 25
grows = record { law = lit≤ tt }

spread : (m : ℕ) → 2 ^ 52 ≤ m → (2 * (m + 1) - 1) * (2 ^ 53 - 1) ≤ (2 * m - 1) * (2 ^ 53 + 1)
spread m h = omega arith

pub numerator-rises : (i : ℕ) → i < 1000 → numerator i < numerator (suc i)
numerator-rises i h =
    let m = numerator i in
    let l = spread m (numerator-low i (le_of_lt h)) in
    let b = bound i m (at-numerator i (le_of_lt h)).0 in
    let t = passes (suc i) (m + 1) (next 1000 (2 ^ 53 - 1) (2 * (m + 1) - 1) (2 ^ 53) i b grows (lit< {m = 0} tt) l (le_refl _)) in
    omega (arith, order (suc i) (m + 1) (numerator (suc i) + 1) t (at-numerator (suc i) h).1)

-- ---- one m alone satisfies the rule: two would make an odd number equal to an even one
odd-mul : (a b : ℕ) → a % 2 ≡ 1 → b % 2 ≡ 1 → a * b % 2 ≡ 1
odd-mul a b p q =
    let e : b ≡ b / 2 * 2 + 1 = omega arith in
    let f : a * b ≡ a * (b / 2) * 2 + a = ap (λ (x : ℕ). a * x) e ∙ simp (mul-add, mul-one, mul_assoc) in
    rw (f, mul-add-mod_self_right) p

odd_pow : (a k : ℕ) → a % 2 ≡ 1 → a ^ k % 2 ≡ 1
odd_pow a zero p = rw pow-zero
odd_pow a (suc k) p = rw pow-suc (odd-mul (a ^ k) a (odd_pow a k p) p)

-- n stands for 1000 and c for 2 ^ 52999
apart : (n c i l m : ℕ) → l < m → (2 * m - 1) ^ n * 25 ^ i ≤ 27 ^ i * (c * 2) → 27 ^ i * (c * 2) ≤ (2 * l + 1) ^ n * 25 ^ i → ⊥
apart n c i l m h u o =
    let s : (2 * l + 1) ^ n * 25 ^ i ≤ (2 * m - 1) ^ n * 25 ^ i = mul-le-mul_right (25 ^ i) (pow-le-pow_left {n = 2 * l + 1} {m = 2 * m - 1} (omega arith) n) in
    let d : (2 * l + 1) ^ n * 25 ^ i % 2 ≡ 1 = odd-mul ((2 * l + 1) ^ n) (25 ^ i) (odd_pow (2 * l + 1) n (omega arith)) (odd_pow 25 i refl) in
    omega (arith, mul_assoc (27 ^ i) c 2)

pub unique : (i l m : ℕ) → Nearest i l → Nearest i m → l ≡ m
unique i l m p q = same (λ h. apart 1000 (2 ^ 52999) i l m h q.under p.over) (λ h. apart 1000 (2 ^ 52999) i m l h p.under q.over)
  where
    same : ¬ (l < m) → ¬ (m < l) → l ≡ m
    same f g = omega arith
