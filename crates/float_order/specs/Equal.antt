-- Results that need no rounding: where the format holds the exact sum, difference, product or quotient, that is the result.
-- So a difference of two floats within a factor 2 of each other is exact (Sterbenz). Whole numbers are in Whole, powers of two in Dyadic.
use Rattle.std.specs.Prelude.{◌≡◌, ℕ, ◌+◌, ◌-◌, ◌*◌, ◌≤◌, T, Float}
use Rattle.std.specs.Float.{nan, inf, fin}
use Rattle.std.specs.Float.Ieee.Scale.{finite}
use Rattle.std.specs.Float.Ieee.Positive.{den}
use Rattle.float_order.specs.Order.{over, under}

-- ---- z is finite and equal to (p - n) / d
pub record IsDiff (z : Float) (p n d : ℕ) : Type 0 where
  pub fine : T (finite z)
  pub same : over z * d + n * den z ≡ p * den z + under z * d

-- ---- Sterbenz: x ≤ 2 * y and y ≤ 2 * x give an exact x - y
-- 2 * x, exact
abbrev pub double : Float → Float
double nan = nan
double (inf s) = inf s
double (fin s m e) = fin s (2 * m) e
