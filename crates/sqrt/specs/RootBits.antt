-- A root's bit pattern, by two whole numbers: what the code's parts say to each other.
use Rattle.std.specs.Prelude.{ℕ, ◌+◌, ◌-◌, ◌*◌, ◌/◌, ◌^◌, ◌≤◌}
use Rattle.sqrt.specs.Sqrt.{whole_root}

-- The whole root of big * 2 ^ 54 has 54 digits. Half of it, rounded up, is the root's significand of 53 digits, and base adds its exponent.
abbrev pub root_bits : ℕ → ℕ → ℕ
root_bits big base = base + (whole_root (big * 2 ^ 54) + 1) / 2

-- big has 53 or 54 digits, and base is an exponent's field that leaves room for the significand
pub record Sized (big base : ℕ) : Type 0 where
  pub low : 2 ^ 52 ≤ big
  pub high : big ≤ 2 ^ 54 - 2
  pub small : base ≤ 1533 * 2 ^ 52
