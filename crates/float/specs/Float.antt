-- Document 01's minimum, maximum, clamp and ceiling, and the magnitude: Rust's `f64::min`, `max`, `clamp`, `ceil` and `abs`, for every input.
use Rattle.std.specs.Prelude.{ℕ, ◌+◌, ◌-◌, ◌*◌, ◌/◌, Bool, true, false, cond, ◌&&◌, is_nan, Float}
use Rattle.std.specs.Float.{nan, inf, fin, binary64}
use Rattle.std.specs.Float.Ieee.{up, down, lt, le, round}
use Rattle.float_order.specs.Interval.{floats}

-- the other operand where one is a NaN; of two equal numbers the first, so of two zeros of unlike sign too
unfoldable pub min : Float → Float → Float
min a b = cond (is_nan a) b (cond (lt b a) b a)

unfoldable pub max : Float → Float → Float
max a b = cond (is_nan a) b (cond (lt a b) b a)

-- as Rust has it: up to lo where it is below, and then down to hi where it is above
abbrev pub raised : Float → Float → Float
raised x lo = cond (lt x lo) lo x

abbrev pub lowered : Float → Float → Float
lowered x hi = cond (lt hi x) hi x

unfoldable pub clamp : Float → Float → Float → Float
clamp x lo hi = lowered (raised x lo) hi

-- from lo to hi; no NaN is
abbrev pub within : Float → Float → Float → Bool
within lo hi x = le lo x && le x hi

-- the sign dropped, of a zero too
unfoldable pub abs : Float → Float
abs nan = nan
abs (inf s) = inf false
abs (fin s m e) = fin false m e

-- the size of the least whole number at or above n / d, or -n / d where the sign is true
abbrev pub upward : Bool → ℕ → ℕ → ℕ
upward true n d = n / d
upward false n d = (n + (d - 1)) / d

-- It keeps the sign, so from -1 to 0 it is -0.
unfoldable pub ceil : Float → Float
unfolding round
ceil nan = nan
ceil (inf s) = inf s
ceil (fin s m e) = round binary64 s (upward s (m * up e) (down e)) 1

-- `unfold helpers in tt` opens these and the operations of `floats` at once, for a test that holds no variable
unfoldable pub helpers : Bool
unfolding floats min max clamp abs ceil
helpers = true
