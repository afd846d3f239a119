-- Between two neighbours of the format there is no other float. So a bound that is no float, such as 10 ^ 30 or 0.8, can be tested against the float next to it.
-- The neighbours are m and m + 1 times 2 ^ k of the smallest values, for an m of 53 digits.
use Rattle.std.specs.Prelude.{◌≡◌, ℕ, suc, ◌+◌, ◌-◌, ◌*◌, ◌^◌, ◌<◌, ◌≤◌, false, T, pos, nat_le, Float}
use Rattle.std.proofs.Common.{sym, ap, ◌∙◌, inl, inr, le_trans as nat-le-trans, le_of_eq as nat-le-of-eq, lt_of_lt_of_le, lt_of_le_of_lt, le_of_lt, le_of_suc-le-suc, lt_of_not-le, mul_assoc, mul_right_comm, mul-le-mul_right, mul-lt-mul_of_pos_right, lt_of_mul-lt-mul_right, le_of_mul-le-mul_right, arith, leb→le, pow-add, pow_pos, pow_mono}
use Rattle.std.proofs.Math.Dec.{nleb→lt}
use Rattle.std.specs.Float.{fin, binary64}
use Rattle.std.specs.Float.Ieee.{le, lt, fits}
use Rattle.std.specs.Float.Ieee.Scale.{finite}
use Rattle.std.specs.Float.Ieee.Positive.{den}
use Rattle.float_order.specs.Arith.{either, pow-split}
use Rattle.float_order.specs.Order.{over, under, cross→le, lt→not-le}
use Rattle.float_order.specs.Ops.{zero₊, nonneg-under}
use Rattle.float_order.proofs.Dyadic.{dyadic-over}

-- q * 2 ^ i below (m + 1) * 2 ^ k is m * 2 ^ k at most
grid-gap : (q i m k : ℕ) → q < 2 ^ 53 → 2 ^ 52 ≤ m → q * 2 ^ i < suc m * 2 ^ k → q * 2 ^ i ≤ m * 2 ^ k
grid-gap q i m k Q M h = elim (either (nat_le k i)) [ inl t ↦ coarse (leb→le k i t) | inr t ↦ fine (nleb→lt k i t) ]
  where
    coarse : k ≤ i → q * 2 ^ i ≤ m * 2 ^ k
    coarse l =
        let e : q * 2 ^ i ≡ q * 2 ^ (i - k) * 2 ^ k = ap (λ (z : ℕ). q * z) (sym (pow-split k i l)) ∙ sym (mul_assoc q (2 ^ (i - k)) (2 ^ k)) in
        nat-le-trans (nat-le-of-eq e) (mul-le-mul_right (2 ^ k) (le_of_suc-le-suc (lt_of_mul-lt-mul_right (2 ^ k) (lt_of_le_of_lt (nat-le-of-eq (sym e)) h))))

    past : (a b : ℕ) → a < b → 53 + a ≤ 52 + b
    past a b l = omega arith

    fine : i < k → q * 2 ^ i ≤ m * 2 ^ k
    fine l =
        nat-le-trans (mul-le-mul_right (2 ^ i) (le_of_lt Q))
        (nat-le-trans (nat-le-of-eq (sym (pow-add 2 53 i))) (nat-le-trans (pow_mono (past i k l)) (nat-le-trans (nat-le-of-eq (pow-add 2 52 k)) (mul-le-mul_right (2 ^ k) M))))

-- of a float x ≥ 0
pub gap : (x : Float) (m k : ℕ) → T (finite x) → T (fits binary64 x) → under x ≡ 0 → 2 ^ 52 ≤ m → over x * 2 ^ 1074 < suc m * 2 ^ k * den x
    → over x * 2 ^ 1074 ≤ m * 2 ^ k * den x
gap x m k p f u M h =
    let g = dyadic-over x p f u in
    nat-le-trans (nat-le-of-eq g.value) (mul-le-mul_right (den x) (grid-gap g.digits g.shift m k g.few M (lt_of_mul-lt-mul_right (den x) (lt_of_le_of_lt (nat-le-of-eq (sym g.value)) h))))

-- from 2 ^ 52 on: x < (m + 1) * 2 ^ j is x ≤ m * 2 ^ j
shift-units : (n j : ℕ) (x : Float) → n * 2 ^ j * den x * 2 ^ 1074 ≡ n * 2 ^ (j + 1074) * den x
shift-units n j x =
    mul_right_comm (n * 2 ^ j) (den x) (2 ^ 1074) ∙ ap (λ (z : ℕ). z * den x) (mul_assoc n (2 ^ j) (2 ^ 1074) ∙ ap (λ (z : ℕ). n * z) (sym (pow-add 2 j 1074)))

read-lt : (x : Float) (n j : ℕ) → T (finite x) → under x ≡ 0 → T (lt x (fin false n (pos j))) → over x * 2 ^ 1074 < n * 2 ^ (j + 1074) * den x
read-lt x n j p u h =
    let v = fin false n (pos j) in
    let l : over x < n * 2 ^ j * den x = lt_of_not-le (λ (g : n * 2 ^ j * den x ≤ over x). lt→not-le x v h (cross→le v x tt p (rw u (omega arith)))) in
    lt_of_lt_of_le (mul-lt-mul_of_pos_right l (pow_pos 1074)) (nat-le-of-eq (shift-units n j x))

pub gap-large : (x : Float) (m j : ℕ) → T (finite x) → T (fits binary64 x) → T (le zero₊ x) → 2 ^ 52 ≤ m → T (lt x (fin false (suc m) (pos j)))
    → T (le x (fin false m (pos j)))
gap-large x m j p f z M h =
    let u = nonneg-under x p z in
    let g : over x * 2 ^ 1074 ≤ m * 2 ^ (j + 1074) * den x = gap x m (j + 1074) p f u M (read-lt x (suc m) j p u h) in
    let k : over x ≤ m * 2 ^ j * den x = le_of_mul-le-mul_right (nat-le-trans g (nat-le-of-eq (sym (shift-units m j x)))) (pow_pos 1074) in
    cross→le x (fin false m (pos j)) p tt (rw u (omega arith))
