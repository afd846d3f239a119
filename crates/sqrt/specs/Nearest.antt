-- What it is for a float to be the square root rounded to nearest, over whole numbers. `sqrt` meets this rule, and nothing else does (NearestLaws.antt).
-- The rule is strict: no two floats are equally near to a root, so that "ties to even" has no case.
use Rattle.std.specs.Prelude.{ℕ, ◌+◌, ◌*◌, ◌<◌, T, Float}
use Rattle.std.specs.Float.{binary64}
use Rattle.std.specs.Float.Ieee.{fits, lt, le}
use Rattle.std.specs.Float.Ieee.Positive.{den, positive}
use Rattle.std.specs.Float.Ieee.Scale.{finite}
use Rattle.float_order.specs.Order.{over}
use Rattle.float_order.specs.Ops.{zero₊}

-- A finite float x at 0 or above is over x / den x. Its root is nearer to y than to z if it is on y's side of their midpoint: if (y + z)² is below 4 * x for a z
-- below y, and above it for a z above y. These are the two as whole numbers, times den x * (den y * den z)².
abbrev pub sum_squared : Float → Float → Float → ℕ
sum_squared x y z = (over y * den z + over z * den y) * (over y * den z + over z * den y) * den x

abbrev pub four_times : Float → Float → Float → ℕ
four_times x y z = 4 * over x * (den y * den z * (den y * den z))

-- y is a float of binary64, finite and above 0, and the root of x is nearer to y than to any other finite float at 0 or above
pub record Nearest (x y : Float) : Type 0 where
  pub held : T (fits binary64 y)
  pub above_zero : T (positive y)
  pub below : (z : Float) → T (fits binary64 z) → T (finite z) → T (le zero₊ z) → T (lt z y) → sum_squared x y z < four_times x y z
  pub above : (z : Float) → T (fits binary64 z) → T (finite z) → T (le zero₊ z) → T (lt y z) → four_times x y z < sum_squared x y z
