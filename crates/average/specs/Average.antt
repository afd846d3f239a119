-- src/util/average.rs: what each operation on a moving average gives, each float operation rounded once. `powf(2.0)` is one product.
use Rattle.std.specs.Prelude.{Bool, true, false, ◌&&◌, cond, Float, Option, Some, None}
use Rattle.std.specs.Float.Ieee as Ieee
use Rattle.float_order.specs.Binary64.{add, sub, mul, lit, one}
use Rattle.sqrt.specs.Sqrt.{sqrt}
use Rattle.average.specs.declared.MovingAverage.{MovingAverage}

abbrev pub new : Float → MovingAverage
new factor = record { smoothing_factor = factor; average = None; variance = lit 0; std = lit 0 }

-- value within num_std deviations of the average; never without one
abbrev pub within : Option Float → Float → Float → Bool
within None spread value = false
within (Some average) spread value = Ieee.le (sub average spread) value && Ieee.le value (add average spread)

unfoldable pub within_std : MovingAverage → Float → Float → Bool
within_std m value n = within m.average (mul m.std n) value

-- with standard deviation 0 there is no upper or lower range
abbrev pub above : Option Float → Float → Option Float
above None spread = None
above (Some average) spread = Some (add average spread)

unfoldable pub upper_range : MovingAverage → Float → Option Float
upper_range m n = cond (Ieee.eq m.std (lit 0)) None (above m.average (mul n m.std))

abbrev pub below : Option Float → Float → Option Float
below None spread = None
below (Some average) spread = Some (sub average spread)

unfoldable pub lower_range : MovingAverage → Float → Option Float
lower_range m n = cond (Ieee.eq m.std (lit 0)) None (below m.average (mul n m.std))

-- the average and the variance after a value that is delta off
abbrev pub new_average : Float → Float → Float → Float
new_average factor average delta = add average (mul factor delta)

abbrev pub new_variance : Float → Float → Float → Float
new_variance factor variance delta = mul (sub one factor) (add variance (mul factor (mul delta delta)))

-- the first value is the average and leaves variance and deviation
abbrev pub update_from : Option Float → MovingAverage → Float → MovingAverage
update_from None m value = record { smoothing_factor = m.smoothing_factor; average = Some value; variance = m.variance; std = m.std }
update_from (Some average) m value =
    record {
      smoothing_factor = m.smoothing_factor;
      average = Some (new_average m.smoothing_factor average (sub value average));
      variance = new_variance m.smoothing_factor m.variance (sub value average);
      std = sqrt (new_variance m.smoothing_factor m.variance (sub value average));
    }

unfoldable pub update : MovingAverage → Float → MovingAverage
update m value = update_from m.average m value

abbrev pub is_some : Option Float → Bool
is_some None = false
is_some (Some average) = true

abbrev pub valid : MovingAverage → Bool
valid m = is_some m.average

abbrev pub reset : MovingAverage → MovingAverage
reset m = new m.smoothing_factor
