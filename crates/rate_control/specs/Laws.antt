-- Laws of the rate control: the range of its estimate, the states that a normal signal leads to, and what its statistics keep. How far one increase goes is in proofs/Laws.antt.
use Rattle.std.specs.Option.{option_or}
use Rattle.std.specs.Prelude.{◌≡◌, ◌⊎◌, ℕ, ◌^◌, ◌≤◌, Float, Option, Some, None}
use Rattle.std.proofs.Math.Path.{refl}
use Rattle.std.proofs.Math.Dec.{T}
use Rattle.std.specs.Float.Ieee as Ieee
use Rattle.std.specs.Float.Ieee.{binary64, le, fits}
use Rattle.std.specs.Float.Ieee.Bits.{of_bits-fits}
use Rattle.float_order.specs.Order.{ordered}
use Rattle.float_order.specs.Ops.{zero₊}
use Rattle.float_order.specs.Range.{In, nat, in-wider, in-closed}
use Rattle.float_order.specs.Interval.{floats}
use Rattle.bool_laws.specs.Bools.{chosen}
use Rattle.float.specs.MinMax.{clamp-in}
use Rattle.average.specs.Average as Average
use Rattle.average.specs.Laws as Averages
use Rattle.average.specs.declared.MovingAverage.{MovingAverage}
use Rattle.bandwidth.specs.Bandwidth as B
use Rattle.bandwidth.specs.Bandwidth.{min_estimate, max_estimate, most_rate}
use Rattle.bandwidth.specs.declared.Bitrate.{Bitrate}
use Rattle.time.specs.Time.{}
use Rattle.rate_control.specs.declared.Signal.{Signal}
use Rattle.rate_control.specs.declared.Signal.TheVariants.{Normal}
use Rattle.rate_control.specs.declared.State.{State}
use Rattle.rate_control.specs.declared.State.TheVariants.{Increase, Hold, Decrease}
use Rattle.rate_control.specs.declared.RateControl.{RateControl}
use Rattle.rate_control.specs.RateControl.{decrease, increase, increase_limit, new, observed_bit_rate_smoothing_factor, reset_above, reset_below, reset_over, reset_under, set_probe_result, three, time_to_reduce_further, transition, update, update_estimate, update_in, update_observed_bitrate, with_average, with_estimate, with_inputs, with_state}

-- ---- what is shown
abbrev pub estimate : RateControl → Float
estimate c = c.estimated_bitrate.0

abbrev pub InRange : Float → Type 0
InRange x = In (nat 40000) (nat (10 ^ 10)) x

pub record Limited (low high estimated : Bitrate) : Type 0 where
  pub low-is : low ≡ min_estimate
  pub high_is : high ≡ max_estimate
  pub in-range : InRange estimated.0

-- the limits are those two, and the estimate is from 40,000 to 10 ^ 10
abbrev pub Sound : RateControl → Type 0
Sound c = Limited c.min_bitrate c.max_bitrate c.estimated_bitrate

-- at least the smallest of three numbers, that is, at least one of them
abbrev pub AtLeastSmallest : Float → Float → Float → Float → Type 0
AtLeastSmallest a b c x = T (le a x) ⊎ T (le b x) ⊎ T (le c x)

abbrev pub NotDecrease : State → Type 0
NotDecrease Increase = Unit
NotDecrease Hold = Unit
NotDecrease Decrease = ⊥

-- none, or at most n
abbrev pub InstantAtMost : ℕ → Option ℕ → Type 0
InstantAtMost n None = Unit
InstantAtMost n (Some t) = t ≤ n

abbrev pub DurationAtMost : ℕ → Option ℕ → Type 0
DurationAtMost n None = Unit
DurationAtMost n (Some d) = d ≤ n

-- the averaged observed rate is from 0 to the greatest rate
rates : Averages.Limits observed_bit_rate_smoothing_factor most_rate.0
rates = record { factor-in = in-closed (unfold floats in tt); limit-in = in-closed (unfold floats in tt); limit-fits = of_bits-fits binary64 _ }

abbrev pub KeptAverage : MovingAverage → Type 0
KeptAverage m = Averages.Kept observed_bit_rate_smoothing_factor most_rate.0 m

pub record KeptAt (moment rtt : ℕ) (average : MovingAverage) (last : Option ℕ) (last_rtt : Option ℕ) : Type 0 where
  pub average-kept : KeptAverage average
  pub last-at-most : InstantAtMost moment last
  pub rtt-at-most : DurationAtMost rtt last_rtt

-- the averaged observed rate is in its ranges, the last update was at `moment` at most, and the last round trip is `rtt` at most
abbrev pub Kept : ℕ → ℕ → RateControl → Type 0
Kept moment rtt c = KeptAt moment rtt c.averaged_observed_bitrate c.last_estimate_update c.last_rtt

-- ---- the range
pub update_estimate-sound : (c : RateControl) (b : Bitrate) (now : ℕ) → T (ordered b.0) → Sound c → Sound (update_estimate c b now)
unfolding update_estimate with_estimate B.clamp
update_estimate-sound c b now o h = record {
  low-is = h.low-is;
  high_is = h.high_is;
  in-range = rw (h.low-is, h.high_is) (in-wider (clamp-in b.0 min_estimate.0 max_estimate.0 o (unfold floats in tt)) (unfold floats in tt));
}

pub new-sound : (start : Bitrate) → InRange start.0 → Sound (new start min_estimate max_estimate)
new-sound start h = record { low-is = refl; high_is = refl; in-range = h }

pub set_probe_result-sound : (c : RateControl) (probe : Bitrate) (now : ℕ) → T (ordered probe.0) → Sound c → Sound (set_probe_result c probe now)
unfolding set_probe_result
set_probe_result-sound = update_estimate-sound

-- ---- a normal signal
module _ (c : RateControl) (observed : Bitrate) (rtt : Option ℕ) (now : ℕ) where
  -- from Decrease it only holds
  pub normal-holds : c.state ≡ Decrease → update c Normal observed rtt now ≡ with_inputs c Normal observed rtt
  unfolding update with_inputs transition
  normal-holds e = rw e refl

  -- from another state it increases
  pub normal-increases : NotDecrease c.state → update c Normal observed rtt now ≡ increase (with_inputs c Normal observed rtt) observed now
  unfolding update with_inputs transition
  normal-increases n = go c.state n
    where
      go : (s : State) → NotDecrease s → update_in (transition s Normal) (with_inputs c Normal observed rtt) observed now ≡ increase (with_inputs c Normal observed rtt) observed now
      go Increase n = refl
      go Hold n = refl
      go Decrease n = absurd n

  -- and after it the state is not Decrease
  pub normal-state : NotDecrease (update c Normal observed rtt now).state
  unfolding update with_inputs transition increase update_estimate with_estimate with_average
  normal-state = go (transition c.state Normal) (normal c.state)
    where
      normal : (s : State) → NotDecrease (transition s Normal)
      normal Increase = tt
      normal Hold = tt
      normal Decrease = tt

      go : (s : State) → NotDecrease s → NotDecrease (update_in s (with_inputs c Normal observed rtt) observed now).state
      go Increase n = chosen (λ (x : RateControl). NotDecrease x.state) (le (increase_limit observed.0) (estimate c)) (normal c.state) (normal c.state)
      go Hold n = normal c.state
      go Decrease n = absurd n

-- ---- the statistics
reset_below-kept : (m : MovingAverage) (value : Float) → KeptAverage m → KeptAverage (reset_below m value)
unfolding reset_below
reset_below-kept m value k = go (Average.lower_range m three)
  where
    go : (lower : Option Float) → KeptAverage (reset_under lower m value)
    go None = k
    go (Some lower) = chosen KeptAverage (Ieee.lt value lower) (Averages.reset-kept k) k

reset_above-kept : (m : MovingAverage) (value : Float) → KeptAverage m → KeptAverage (reset_above m value)
unfolding reset_above
reset_above-kept m value k = go (Average.upper_range m three)
  where
    go : (upper : Option Float) → KeptAverage (reset_over upper m value)
    go None = k
    go (Some upper) = chosen KeptAverage (Ieee.lt upper value) (Averages.reset-kept k) k

pub new-kept : (start low high : Bitrate) (moment rtt : ℕ) → Kept moment rtt (new start low high)
new-kept start low high moment rtt = record { average-kept = Averages.new-kept observed_bit_rate_smoothing_factor most_rate.0; last-at-most = tt; rtt-at-most = tt }

module _ (c : RateControl) (moment : ℕ) (rtt : ℕ) (k : Kept moment rtt c) where
  with_estimate-kept : (b : Bitrate) (now : ℕ) → now ≤ moment → Kept moment rtt (with_estimate c b now)
  unfolding with_estimate
  with_estimate-kept b now t = record { average-kept = k.average-kept; last-at-most = t; rtt-at-most = k.rtt-at-most }

  with_average-kept : (m : MovingAverage) → KeptAverage m → Kept moment rtt (with_average c m)
  unfolding with_average
  with_average-kept m h = record { average-kept = h; last-at-most = k.last-at-most; rtt-at-most = k.rtt-at-most }

  with_inputs-kept : (s : Signal) (observed : Bitrate) (d : Option ℕ) → DurationAtMost rtt d → Kept moment rtt (with_inputs c s observed d)
  unfolding with_inputs
  with_inputs-kept s observed d h = record { average-kept = k.average-kept; last-at-most = k.last-at-most; rtt-at-most = go d h }
    where
      go : (d : Option ℕ) → DurationAtMost rtt d → DurationAtMost rtt (option_or d c.last_rtt)
      go None h = k.rtt-at-most
      go (Some n) h = h

  pub set_probe_result-kept : (probe : Bitrate) (now : ℕ) → now ≤ moment → Kept moment rtt (set_probe_result c probe now)
  unfolding set_probe_result update_estimate
  set_probe_result-kept probe now t = with_estimate-kept _ now t

module _ (moment rtt : ℕ) (observed : Bitrate) (now : ℕ) (i : In zero₊ most_rate.0 observed.0) (t : T (fits binary64 observed.0)) (n : now ≤ moment) where
  update_observed_bitrate-kept : (c : RateControl) → Kept moment rtt c → Kept moment rtt (update_observed_bitrate c observed)
  unfolding update_observed_bitrate
  update_observed_bitrate-kept c k =
      with_average-kept c moment rtt k _ (Averages.update-kept rates i t (reset_below-kept c.averaged_observed_bitrate observed.0 k.average-kept))

  update_in-kept : (s : State) (c : RateControl) → Kept moment rtt c → Kept moment rtt (update_in s c observed now)
  unfolding increase decrease update_estimate with_state
  update_in-kept Increase c k =
      chosen (Kept moment rtt) (le (increase_limit observed.0) (estimate c)) (with_estimate-kept c moment rtt k _ now n)
      (with_estimate-kept _ moment rtt (with_average-kept c moment rtt k _ (reset_above-kept c.averaged_observed_bitrate observed.0 k.average-kept)) _ now n)
  update_in-kept Decrease c k =
      chosen (Kept moment rtt) (time_to_reduce_further (update_observed_bitrate c observed) now observed)
      (with_estimate-kept (with_state (update_observed_bitrate c observed) Hold) moment rtt (update_observed_bitrate-kept c k) _ now n) (update_observed_bitrate-kept c k)
  update_in-kept Hold c k = k

  -- whatever the signal
  pub update-kept : (c : RateControl) (s : Signal) (d : Option ℕ) → DurationAtMost rtt d → Kept moment rtt c → Kept moment rtt (update c s observed d now)
  unfolding update
  update-kept c s d h k = update_in-kept (with_inputs c s observed d).state (with_inputs c s observed d) (with_inputs-kept c moment rtt k s observed d h)
