-- Whole numbers up to 2 ^ 53 are floats.
use Rattle.std.specs.Prelude.{ℕ, ◌^◌, ◌≤◌, T, pos}
use Rattle.std.proofs.Common.{le→leb}
use Rattle.std.specs.Float.{binary64}
use Rattle.std.specs.Float.Ieee.{in_float}

pub in-float : (n : ℕ) → n ≤ 2 ^ 53 → T (in_float binary64 (pos n))
unfolding in_float
in-float n h = le→leb n (2 ^ 53) h
