-- What holds of the growth factors: the rule, and of no other float; they rise, from 1 to 1.08, rounded.
use Rattle.std.specs.Prelude.{◌≡◌, refl, ℕ, zero, suc, ◌+◌, ◌-◌, ◌*◌, ◌^◌, ◌≤◌, ◌<◌, min, false, T, Float}
use Rattle.std.proofs.Common.{sym, ap, ◌∙◌, zero-le, le_of_lt, lt_of_lt_of_le, not-le_of_lt, zero-add, add-zero, suc-add, sub-add_cancel, zero-mul, mul_comm, mul_assoc, mul_right_comm, mul-pos, mul-lt-mul_of_pos_right, lt_of_mul-lt-mul_right, arith, lit≤, pow_pos, shl_lt}
use Rattle.std.proofs.Math.Dec.{not_T}
use Rattle.std.specs.Float.{binary64}
use Rattle.std.specs.Float.Ieee.{round, of_bits, to_bits, fits, lt, le}
use Rattle.std.specs.Float.Ieee.Bits.{of_bits-to_bits}
use Rattle.std.specs.Float.Ieee.Exact.{HasValue, round_exact}
use Rattle.std.specs.Float.Ieee.Fits.{round-fits}
use Rattle.std.specs.Float.Ieee.Positive.{den, den_pos}
use Rattle.float_order.specs.Order.{over, ordered, finite-ordered, le_refl, le_trans, lt→le, not-le→lt, le→cross}
use Rattle.float_order.specs.Round.{round-ordered}
use Rattle.float_order.specs.Exact.{one}
use Rattle.float_order.specs.Range.{In}
use Rattle.float_order.specs.Dyadic.{Is}
use Rattle.float_order.proofs.Dyadic.{is-of-value}
use Rattle.float_order.specs.Bits.{to-bits}
use Rattle.growth.specs.Growth.{Factor, numerator, growth, growth_factor}
use Rattle.growth.specs.Numerator.{numerator-low, numerator-high, numerator-nearest, numerator-rises, unique}

-- ---- the rule, and the one float that it allows
pub growth-rule : (i : ℕ) → i ≤ 1000 → Factor i (growth i)
unfolding growth
growth-rule i h = record { m = numerator i; is = refl; rule = numerator-nearest i h }

pub growth-alone : (i : ℕ) (r : Float) → i ≤ 1000 → Factor i r → r ≡ growth i
unfolding growth
growth-alone i r h p = p.is ∙ ap (λ (m : ℕ). round binary64 false m (2 ^ 52)) (unique i p.m (numerator i) p.rule (numerator-nearest i h))

-- ---- bit patterns: the numerator, which has a float's 53 digits, with the exponent's field of 1
exact : (i : ℕ) → i ≤ 1000 → HasValue (growth i) false (numerator i) (2 ^ 52)
unfolding growth
exact i h =
    let m = numerator i in
    let l = numerator-high i h in
    round_exact binary64 false m (2 ^ 52) m 1022 (pow_pos 52) l (lt_of_lt_of_le (shl_lt 53 1022 l) (lit≤ {m = 2 ^ 1075} {n = 2 ^ 2098} tt)) (sym (mul_assoc m (2 ^ 1022) (2 ^ 52)))

growth-fits : (i : ℕ) → T (fits binary64 (growth i))
unfolding growth
growth-fits i = round-fits binary64 false (numerator i) (2 ^ 52)

pub growth-bits : (i b : ℕ) → i ≤ 1000 → b ≡ 1022 * 2 ^ 52 + numerator i → of_bits binary64 b ≡ growth i
growth-bits i b h e =
    let m = numerator i in
    let t : to_bits binary64 (growth i) ≡ 1022 * 2 ^ 52 + m = to-bits (growth i) m (2 ^ 52) m 1022 (pow_pos 52) (exact i h) (sym (mul_assoc m (2 ^ 1022) (2 ^ 52))) (numerator-low i h) (numerator-high i h) in
    rw (e, ← t) (of_bits-to_bits binary64 (growth i) (growth-fits i))

-- ---- the factors rise
lt-of-values : (x y : Float) (a b c : ℕ) → Is x a c → Is y b c → a < b → T (lt x y)
lt-of-values x y a b c p q h =
    let e : over x * den y * c ≡ a * (den x * den y) = mul_right_comm (over x) (den y) c ∙ rw p.same (mul_assoc a (den x) (den y)) in
    let f : over y * den x * c ≡ b * (den x * den y) = mul_right_comm (over y) (den x) c ∙ rw q.same (simp (mul_assoc, mul_comm)) in
    let l : over x * den y < over y * den x = lt_of_mul-lt-mul_right c (rw (e, f) (mul-lt-mul_of_pos_right h (mul-pos (den_pos x) (den_pos y)))) in
    not-le→lt y x (finite-ordered y q.fine) (finite-ordered x p.fine)
    (not_T (le y x) (λ t. not-le_of_lt l (simp (p.nonneg, q.nonneg, zero-mul, add-zero) at (le→cross y x q.fine p.fine t))))

pub growth-rises : (i : ℕ) → i < 1000 → T (lt (growth i) (growth (suc i)))
growth-rises i h = lt-of-values (growth i) (growth (suc i)) (numerator i) (numerator (suc i)) (2 ^ 52) (is i (le_of_lt h)) (is (suc i) h) (numerator-rises i h)
  where
    is : (j : ℕ) → j ≤ 1000 → Is (growth j) (numerator j) (2 ^ 52)
    is j h = is-of-value (growth j) (numerator j) (2 ^ 52) (exact j h)

growth-ordered : (i : ℕ) → T (ordered (growth i))
unfolding growth
growth-ordered i = round-ordered binary64 false (numerator i) (2 ^ 52)

rising : (k i : ℕ) → k + i ≤ 1000 → T (le (growth i) (growth (k + i)))
rising zero i h = rw zero-add (le_refl (growth i) (growth-ordered i))
rising (suc k) i h =
    let l = lt→le (growth (k + i)) (growth (suc (k + i))) (growth-rises (k + i) (omega arith)) in
    rw suc-add (le_trans (growth i) (growth (k + i)) (growth (suc (k + i))) (rising k i (omega arith)) l)

pub growth-mono : (i j : ℕ) → i ≤ j → j ≤ 1000 → T (le (growth i) (growth j))
growth-mono i j h l = rw (sub-add_cancel h) at (rising (j - i) i (omega arith))

pub growth_factor-mono : (m n : ℕ) → m ≤ n → T (le (growth_factor m) (growth_factor n))
unfolding growth_factor
growth_factor-mono m n h = growth-mono (min m 1000) (min n 1000) (omega arith) (omega arith)

-- ---- from 1 to 1.08, rounded
pub growth-first : growth 0 ≡ one
unfolding growth
growth-first = refl

abbrev pub last_factor : Float
last_factor = of_bits binary64 0x3ff1_47ae_147a_e148

pub last_factor-is : last_factor ≡ round binary64 false 108 100
unfolding of_bits round
last_factor-is = refl

pub growth-last : growth 1000 ≡ last_factor
unfolding growth of_bits
growth-last = refl

pub growth_factor-in : (ms : ℕ) → In one last_factor (growth_factor ms)
unfolding growth_factor
growth_factor-in ms = record {
  low = rw (← growth-first) (growth-mono 0 (min ms 1000) zero-le (omega arith));
  high = rw (← growth-last) (growth-mono (min ms 1000) 1000 (omega arith) (omega arith));
}
