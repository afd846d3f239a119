-- Document 01's seconds of a duration, and ns of seconds to nearest, as Rust's `Duration::as_secs_f64` and `Duration::from_secs_f64` have them. A duration is a whole number of ns.
use Rattle.std.specs.Prelude.{ℕ, ◌-◌, ◌*◌, ◌/◌, ◌%◌, ◌^◌, min, true, false, cond, pos, Float}
use Rattle.std.specs.Float.{nan, inf, fin, binary64}
use Rattle.std.specs.Float.Ieee.{up, down, add, div, of_int}
use Rattle.std.specs.Float.Ieee.Nearest.{closest}

-- whole seconds, and the rest over 10 ^ 9, each operation rounded
unfoldable pub as_secs_f64 : ℕ → Float
unfolding add div of_int
as_secs_f64 ns = add binary64 (of_int binary64 (pos (ns / 10 ^ 9))) (div binary64 (of_int binary64 (pos (ns % 10 ^ 9))) (of_int binary64 (pos (10 ^ 9))))

-- The nearest whole ns, a tie to the even one. Rust panics at a NaN, below 0 and past what its `Duration` holds: here the first two are 0, and what a u64 does not hold is 2 ^ 64 - 1.
unfoldable pub from_secs_f64 : Float → ℕ
from_secs_f64 nan = 0
from_secs_f64 (inf s) = cond s 0 (2 ^ 64 - 1)
from_secs_f64 (fin true m e) = 0
from_secs_f64 (fin false m e) = min (closest (m * up e * 10 ^ 9) (down e)) (2 ^ 64 - 1)
