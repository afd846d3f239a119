-- The root of N units by its bit pattern, from the whole root p, of 54 digits, of a number m that is 4 ^ j times smaller than N * 4 ^ 53.
-- Twice the root of N * 4 ^ 53 is at least p * 2 ^ (j + 1) and below (p + 1) * 2 ^ (j + 1). It is midway between two numbers of 53 digits only if p is odd and p * p is m, a multiple of 4: never.
use Rattle.std.specs.Prelude.{◌≡◌, ℕ, zero, suc, ◌+◌, ◌-◌, ◌*◌, ◌/◌, ◌%◌, ◌^◌, ◌<◌, ◌≤◌, Bool, true, false, cond, T, ◌==◌, from_bits, refl}
use Rattle.std.proofs.Common.{sym, ap, ◌∙◌, lt_of_lt_of_le, mul-le-mul_right, mul-lt-mul_of_pos_right, mul_assoc, mul_right_comm, mul-pos, add-mul, div-add-mod', mul-div_cancel, arith, eqb→eq, pow_pos, pow-add, pow_mono, shl_lt}
use Prim.Native.Nat.{compare}
use Rattle.std.proofs.Math.Nat.{mul-mul-mul_comm, div-eq_of_lt-le}
use Rattle.std.specs.Float.{binary64}
use Rattle.std.specs.Float.Ieee.{size, nearest, units, round}
use Rattle.std.specs.Float.Ieee.Fits.{round_is, round-fits}
use Rattle.std.specs.Float.Ieee.Bits.{of_bits-to_bits}
use Rattle.std.specs.Float.Ieee.Exact.{HasValue, units_val}
use Rattle.std.specs.Float.Ieee.Nearest.{closest, closest_same}
use Rattle.float_order.specs.Bits.{to-bits}
use Rattle.float_order.specs.Digits.{compare-lt, compare-gt, size-shifted}
use Rattle.sqrt.specs.Sqrt.{whole_root, root_units}
use Rattle.sqrt.specs.WholeRoot.{IsRoot, root_ge, root-lt, square-lt, odd-below}
use Rattle.sqrt.specs.Laws.{halves, root-units}

-- ---- t / (2 * u) to the nearest whole number, where p * u ≤ t < (p + 1) * u, above p * u for an odd p
module _ (t u p : ℕ) (U : 0 < u) (l : p * u ≤ t) (h : t < (p + 1) * u) where
  even : p * u ≡ p / 2 * (2 * u) + p % 2 * u
  even = ap (λ (x : ℕ). x * u) (sym (div-add-mod' p 2)) ∙ add-mul (p / 2 * 2) (p % 2) u ∙ ap (λ (x : ℕ). x + p % 2 * u) (mul_assoc (p / 2) 2 u)

  next : (p + 1) * u ≡ p * u + u
  next = omega (arith, add-mul p 1 u)

  whole_part : t / (2 * u) ≡ p / 2
  whole_part = div-eq_of_lt-le {k = p / 2} (2 * u) (omega (arith, even)) (omega (arith, even, next, add-mul (p / 2) 1 (2 * u), mul-le-mul_right {m = p % 2} {n = 1} u (omega arith)))

  rest : p / 2 * (2 * u) + t % (2 * u) ≡ t
  rest = rw (← whole_part) (div-add-mod' t (2 * u))

  half : (p % 2 ≡ 1 → p * u < t) → closest t (2 * u) ≡ (p + 1) / 2
  half o = rw whole_part (go (p % 2) refl)
    where
      go : (r : ℕ) → p % 2 ≡ r → nearest (p / 2) (compare (t % (2 * u) * 2) (2 * u)) ≡ (p + 1) / 2
      go zero e = ap (nearest (p / 2)) (compare-lt (t % (2 * u) * 2) (2 * u) (omega (arith, rw e at even, next, rest))) ∙ omega arith
      go (suc zero) e = ap (nearest (p / 2)) (compare-gt (t % (2 * u) * 2) (2 * u) (omega (arith, rw e at even, o e, rest))) ∙ omega arith
      go (suc (suc r)) e = absurd (omega arith)

-- ---- twice the root of n, which is 4 ^ j times m, a multiple of 4 with the whole root p
module _ (n m j p : ℕ) (scaled : n ≡ m * (2 ^ j * 2 ^ j)) (four : m % 4 ≡ 0) (is : IsRoot m p) where
  square : (a : ℕ) → a * 2 ^ j * (a * 2 ^ j) ≡ a * a * (2 ^ j * 2 ^ j)
  square a = mul-mul-mul_comm a (2 ^ j) a (2 ^ j)

  twice : (a : ℕ) → a * 2 ^ (j + 1) ≡ 2 * (a * 2 ^ j)
  twice a = omega (arith, mul_assoc a (2 ^ j) 2, ap (λ (x : ℕ). a * x) (pow-add 2 j 1))

  low : p * 2 ^ j ≤ whole_root n
  low = root_ge n (p * 2 ^ j) (rw (square p, scaled) (mul-le-mul_right (2 ^ j * 2 ^ j) is.0))

  high : whole_root n < (p + 1) * 2 ^ j
  high = root-lt n ((p + 1) * 2 ^ j) (rw (square (p + 1), scaled) (mul-lt-mul_of_pos_right is.1 (mul-pos (pow_pos j) (pow_pos j))))

  apart : p % 2 ≡ 1 → p * 2 ^ j * (p * 2 ^ j) < n
  apart o = rw (square p, scaled) (mul-lt-mul_of_pos_right (odd-below m p four is o) (mul-pos (pow_pos j) (pow_pos j)))

  between : (p * 2 ^ (j + 1) ≤ halves n) × (halves n < (p + 1) * 2 ^ (j + 1)) × (p % 2 ≡ 1 → p * 2 ^ (j + 1) < halves n)
  between = go (whole_root n * whole_root n == n) (eqb→eq (whole_root n * whole_root n) n)
    where
      go : (b : Bool) → (T b → whole_root n * whole_root n ≡ n)
          → (p * 2 ^ (j + 1) ≤ 2 * whole_root n + cond b 0 1) × (2 * whole_root n + cond b 0 1 < (p + 1) * 2 ^ (j + 1)) × (p % 2 ≡ 1 → p * 2 ^ (j + 1) < 2 * whole_root n + cond b 0 1)
      go true f = (omega (arith, twice p, low), omega (arith, twice (p + 1), high), λ o. omega (arith, twice p, square-lt (p * 2 ^ j) (whole_root n) (rw (f tt) (apart o))))
      go false f = (omega (arith, twice p, low), omega (arith, twice (p + 1), high), λ o. omega (arith, twice p, low))

-- ---- such a number, as a fraction of 2 ^ 591, rounds to (p + 1) / 2 of its leading digits
regroup : (t a u b c : ℕ) → a * 2 ≡ b * c → t * a * (2 * u) ≡ t * (b * (u * c))
regroup t a u b c e = mul_assoc t a (2 * u) ∙ ap (λ (x : ℕ). t * x) (sym (mul_assoc a 2 u) ∙ ap (λ (x : ℕ). x * u) e ∙ mul_right_comm b c u ∙ mul_assoc b u c)

module _ (t k p : ℕ) (low : 2 ^ 53 ≤ p) (high : p < 2 ^ 54) (h : (p * 2 ^ k ≤ t) × (t < (p + 1) * 2 ^ k) × (p % 2 ≡ 1 → p * 2 ^ k < t)) where
  join : (a : ℕ) → a * 2 ^ (k + 483) ≡ a * 2 ^ k * 2 ^ 483
  join a = ap (λ (x : ℕ). a * x) (pow-add 2 k 483) ∙ sym (mul_assoc a (2 ^ k) (2 ^ 483))

  dropped : size (t * 2 ^ 1074 / 2 ^ 591) - 53 ≡ k + 484
  dropped =
      ap (λ (x : ℕ). size (x / 2 ^ 591) - 53) (sym (mul_assoc t (2 ^ 483) (2 ^ 591)))
      ∙ ap (λ (x : ℕ). size x - 53) (mul-div_cancel (t * 2 ^ 483) (pow_pos 591))
      ∙ ap (λ (x : ℕ). x - 53) (size-shifted p 53 (k + 483) (t * 2 ^ 483) low high (rw (join p) (mul-le-mul_right (2 ^ 483) h.0)) (rw (join (p + 1)) (mul-lt-mul_of_pos_right h.1 (pow_pos 483))))
      ∙ omega arith

  rounded : round binary64 false t (2 ^ 591) ≡ units binary64 false ((p + 1) / 2) (k + 484)
  rounded =
      round_is binary64 false t (2 ^ 591)
      ∙ ap (λ (x : ℕ). units binary64 false (closest (t * 2 ^ 1074) (2 ^ 591 * 2 ^ x)) x) dropped
      ∙ ap (λ (x : ℕ). units binary64 false x (k + 484))
      (closest_same (t * 2 ^ 1074) (2 ^ 591 * 2 ^ (k + 484)) t (2 * 2 ^ k) (mul-pos (pow_pos 591) (pow_pos (k + 484))) (mul-pos (pow_pos 1) (pow_pos k))
      (regroup t (2 ^ 1074) (2 ^ k) (2 ^ 591) (2 ^ 484) refl ∙ ap (λ (x : ℕ). t * (2 ^ 591 * x)) (sym (pow-add 2 k 484)))
      ∙ half t (2 ^ k) p (pow_pos k) h.0 h.1 h.2)

module _ (N m j p : ℕ) (e : N * 4 ^ 53 ≡ m * (2 ^ j * 2 ^ j)) (four : m % 4 ≡ 0) (is : IsRoot m p) (low : 2 ^ 53 ≤ p) (high : p < 2 ^ 54 - 1) (b : j + 485 < 2046) where
  abbrev t : ℕ
  t = halves (N * 4 ^ 53)

  abbrev r : ℕ
  r = (p + 1) / 2

  abbrev k : ℕ
  k = j + 1 + 484

  value : HasValue (round binary64 false t (2 ^ 591)) false (r * 2 ^ k) (2 ^ 1074)
  value =
      let small : r * 2 ^ k < 2 ^ 2098 = lt_of_lt_of_le (shl_lt 53 k (omega arith)) (pow_mono {i = 53 + k} {j = 2098} (omega arith)) in
      rw (rounded t (j + 1) p low (omega arith) (between (N * 4 ^ 53) m j p e four is)) (units_val binary64 false r k small)

  pub root-value : HasValue (root_units N) false (r * 2 ^ k) (2 ^ 1074)
  root-value = rw (root-units N) value

  pub root-bits : root_units N ≡ from_bits binary64 (k * 2 ^ 52 + r)
  root-bits =
      root-units N
      ∙ sym (of_bits-to_bits binary64 (round binary64 false t (2 ^ 591)) (round-fits binary64 false t (2 ^ 591)))
      ∙ ap (from_bits binary64) (to-bits (round binary64 false t (2 ^ 591)) (r * 2 ^ k) (2 ^ 1074) r k (pow_pos 1074) value refl (omega arith) (omega arith))
