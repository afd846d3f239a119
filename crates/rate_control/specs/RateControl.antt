-- src/bwe/delay/rate_control.rs: what each step of the rate control gives. Each float operation is rounded once; times are ns.
use Rattle.std.specs.Option.{unwrap_or, option_or}
use Rattle.std.specs.Prelude.{ℕ, ◌+◌, ◌/◌, Bool, true, false, cond, leb, ltb, Float, ◌≡◌, Option, Some, None}
use Rattle.std.specs.Float.Ieee as Ieee
use Rattle.std.proofs.Math.Path.{refl}
use Rattle.float_order.specs.Binary64.{add, sub, mul, div, lit, decimal, one, thousand}
use Rattle.float_order.specs.Interval.{floats}
use Rattle.float.specs.Float.{min, max, ceil}
use Rattle.seconds.specs.Seconds.{as_secs_f64}
use Rattle.growth.specs.Growth.{growth_factor}
use Rattle.average.specs.Average as Average
use Rattle.average.specs.declared.MovingAverage.{MovingAverage}
use Rattle.bandwidth.specs.Bandwidth as B
use Rattle.bandwidth.specs.declared.Bitrate.{Bitrate}
use Rattle.bandwidth.specs.declared.BandwidthUsage.{BandwidthUsage}
use Rattle.bandwidth.specs.declared.BandwidthUsage.TheVariants as Usage
use Rattle.time.specs.Time.{saturating_duration_since}
use Rattle.rate_control.specs.declared.Signal.{Signal}
use Rattle.rate_control.specs.declared.Signal.TheVariants.{Overuse, Underuse, Normal}
use Rattle.rate_control.specs.declared.State.{State}
use Rattle.rate_control.specs.declared.State.TheVariants.{Increase, Hold, Decrease}
use Rattle.rate_control.specs.declared.RateControl.{RateControl}

-- ---- constants, by their Rust names
abbrev pub observed_bit_rate_smoothing_factor : Float
observed_bit_rate_smoothing_factor = lit 0x3fee_6666_6666_6666

pub observed_bit_rate_smoothing_factor-is : observed_bit_rate_smoothing_factor ≡ decimal 95 100
observed_bit_rate_smoothing_factor-is = unfold floats in refl

abbrev pub beta : Float
beta = lit 0x3feb_3333_3333_3333

pub beta-is : beta ≡ decimal 85 100
beta-is = unfold floats in refl

abbrev pub max_estimate_ratio : Float
max_estimate_ratio = lit 0x3ff8_0000_0000_0000

pub max_estimate_ratio-is : max_estimate_ratio ≡ decimal 15 10
max_estimate_ratio-is = unfold floats in refl

abbrev pub default_backoff_time : ℕ
default_backoff_time = 100000000

abbrev pub observed_bitrate_reset_threshold_std : Float
observed_bitrate_reset_threshold_std = lit 0x4008_0000_0000_0000

pub observed_bitrate_reset_threshold_std-is : observed_bitrate_reset_threshold_std ≡ decimal 3 1
observed_bitrate_reset_threshold_std-is = unfold floats in refl

-- without a name in the Rust
abbrev pub half : Float
half = lit 0x3fe0_0000_0000_0000

pub half_is : half ≡ decimal 5 10
half_is = unfold floats in refl

abbrev pub three : Float
three = lit 0x4008_0000_0000_0000

pub three-is : three ≡ decimal 3 1
three-is = unfold floats in refl

abbrev pub frames_per_second : Float
frames_per_second = lit 0x403e_0000_0000_0000

pub frames_per_second-is : frames_per_second ≡ decimal 30 1
frames_per_second-is = unfold floats in refl

abbrev pub packet_bytes : Float
packet_bytes = lit 0x4092_c000_0000_0000

pub packet_bytes-is : packet_bytes ≡ decimal 1200 1
packet_bytes-is = unfold floats in refl

abbrev pub increase_limit_margin : Float
increase_limit_margin = lit 0x40c3_8800_0000_0000

pub increase_limit_margin-is : increase_limit_margin ≡ decimal 10000 1
increase_limit_margin-is = unfold floats in refl

-- ---- signals and states
unfoldable pub signal : BandwidthUsage → Signal
signal Usage.Overuse = Overuse
signal Usage.Normal = Normal
signal Usage.Underuse = Underuse

unfoldable pub transition : State → Signal → State
transition s Overuse = Decrease
transition s Underuse = Hold
transition Decrease Normal = Hold
transition Hold Normal = Increase
transition Increase Normal = Increase

-- ---- the state, and a change of it
abbrev pub new : Bitrate → Bitrate → Bitrate → RateControl
new start low high =
    record {
      state = Increase;
      estimated_bitrate = start;
      min_bitrate = low;
      max_bitrate = high;
      last_observed_bitrate = None;
      averaged_observed_bitrate = Average.new observed_bit_rate_smoothing_factor;
      last_estimate_update = None;
      last_rtt = None;
    }

unfoldable pub with_average : RateControl → MovingAverage → RateControl
with_average c m =
    record {
      state = c.state;
      estimated_bitrate = c.estimated_bitrate;
      min_bitrate = c.min_bitrate;
      max_bitrate = c.max_bitrate;
      last_observed_bitrate = c.last_observed_bitrate;
      averaged_observed_bitrate = m;
      last_estimate_update = c.last_estimate_update;
      last_rtt = c.last_rtt;
    }

unfoldable pub with_state : RateControl → State → RateControl
with_state c s =
    record {
      state = s;
      estimated_bitrate = c.estimated_bitrate;
      min_bitrate = c.min_bitrate;
      max_bitrate = c.max_bitrate;
      last_observed_bitrate = c.last_observed_bitrate;
      averaged_observed_bitrate = c.averaged_observed_bitrate;
      last_estimate_update = c.last_estimate_update;
      last_rtt = c.last_rtt;
    }

unfoldable pub with_estimate : RateControl → Bitrate → ℕ → RateControl
with_estimate c b now =
    record {
      state = c.state;
      estimated_bitrate = b;
      min_bitrate = c.min_bitrate;
      max_bitrate = c.max_bitrate;
      last_observed_bitrate = c.last_observed_bitrate;
      averaged_observed_bitrate = c.averaged_observed_bitrate;
      last_estimate_update = Some now;
      last_rtt = c.last_rtt;
    }

unfoldable pub with_inputs : RateControl → Signal → Bitrate → Option ℕ → RateControl
with_inputs c s observed rtt =
    record {
      state = transition c.state s;
      estimated_bitrate = c.estimated_bitrate;
      min_bitrate = c.min_bitrate;
      max_bitrate = c.max_bitrate;
      last_observed_bitrate = Some observed;
      averaged_observed_bitrate = c.averaged_observed_bitrate;
      last_estimate_update = c.last_estimate_update;
      last_rtt = option_or rtt c.last_rtt;
    }

-- held to the limits
unfoldable pub update_estimate : RateControl → Bitrate → ℕ → RateControl
update_estimate c b now = with_estimate c (B.clamp b c.min_bitrate c.max_bitrate) now

unfoldable pub set_probe_result : RateControl → Bitrate → ℕ → RateControl
set_probe_result c b now = update_estimate c b now

-- ---- decrease
-- the average starts anew where a value lies below, or above, its range of three deviations
abbrev pub reset_under : Option Float → MovingAverage → Float → MovingAverage
reset_under None m value = m
reset_under (Some lower) m value = cond (Ieee.lt value lower) (Average.reset m) m

unfoldable pub reset_below : MovingAverage → Float → MovingAverage
reset_below m value = reset_under (Average.lower_range m observed_bitrate_reset_threshold_std) m value

abbrev pub reset_over : Option Float → MovingAverage → Float → MovingAverage
reset_over None m value = m
reset_over (Some upper) m value = cond (Ieee.lt upper value) (Average.reset m) m

unfoldable pub reset_above : MovingAverage → Float → MovingAverage
reset_above m value = reset_over (Average.upper_range m three) m value

unfoldable pub update_observed_bitrate : RateControl → Bitrate → RateControl
update_observed_bitrate c observed = with_average c (Average.update (reset_below c.averaged_observed_bitrate observed.0) observed.0)

unfoldable pub reduction_interval : ℕ → ℕ
reduction_interval rtt = cond (ltb rtt 10000000) 10000000 (cond (ltb 200000000 rtt) 200000000 rtt)

-- if the last update is missing, a decrease is allowed
abbrev pub time_to_reduce_after : Option ℕ → RateControl → ℕ → Bitrate → Bool
time_to_reduce_after None c now observed = true
time_to_reduce_after (Some last) c now observed =
    cond (leb (reduction_interval (unwrap_or c.last_rtt default_backoff_time)) (saturating_duration_since now last)) true
    (B.lt observed (B.mul c.estimated_bitrate half))

unfoldable pub time_to_reduce_further : RateControl → ℕ → Bitrate → Bool
time_to_reduce_further c now observed = time_to_reduce_after c.last_estimate_update c now observed

-- never above the estimate
unfoldable pub decrease : RateControl → Bitrate → ℕ → RateControl
decrease c observed now =
    let lowered = B.mul observed beta in
    update_estimate (with_state c Hold) (cond (B.lt c.estimated_bitrate lowered) c.estimated_bitrate lowered) now

-- ---- increase
abbrev pub near_at : Option Bitrate → MovingAverage → Bool
near_at None m = false
near_at (Some b) m = Average.within_std m b.0 three

unfoldable pub is_near_convergence : RateControl → Bool
is_near_convergence c = near_at c.last_observed_bitrate c.averaged_observed_bitrate

-- what a frame's bits are divided by: the draft's 1200 * 8, where the Rust has 1200 / 8
abbrev pub packet_size_divisor : Float
packet_size_divisor = mul packet_bytes B.bits_per_byte

pub packet_size_divisor-is : packet_size_divisor ≡ decimal 9600 1
packet_size_divisor-is = unfold floats in refl

unfoldable pub estimated_packet_size : Bitrate → Float
estimated_packet_size b =
    let bits_per_frame = div b.0 frames_per_second in
    div bits_per_frame (ceil (div bits_per_frame packet_size_divisor))

-- seconds of a round trip and 100 ms, which are added first
unfoldable pub response_time : ℕ → Float
response_time rtt = as_secs_f64 (rtt + default_backoff_time)

-- what is added to an estimate near convergence: half a packet, less of it until a round trip and 100 ms are over, and at least 1,000 bps
abbrev pub additive_step : Bitrate → ℕ → ℕ → Float
additive_step b rtt since =
    let alpha = mul half (min (div (as_secs_f64 since) (response_time rtt)) one) in
    max (mul alpha (estimated_packet_size b)) thousand

unfoldable pub additive_increase : RateControl → ℕ → Float
additive_increase c since = add c.estimated_bitrate.0 (additive_step c.estimated_bitrate (unwrap_or c.last_rtt 0) since)

unfoldable pub multiplicative_increase : RateControl → ℕ → Float
multiplicative_increase c since =
    let e = c.estimated_bitrate.0 in
    add e (max (mul (sub (growth_factor (since / 1000000)) one) e) thousand)

unfoldable pub raised : RateControl → ℕ → Float
raised c since = cond (is_near_convergence c) (additive_increase c since) (multiplicative_increase c since)

-- one and a half times the observed rate, plus 10 kbps
abbrev pub increase_limit : Float → Float
increase_limit observed = add (mul observed max_estimate_ratio) increase_limit_margin

unfoldable pub increase : RateControl → Bitrate → ℕ → RateControl
increase c observed now =
    let limit = increase_limit observed.0 in
    let next = with_average c (reset_above c.averaged_observed_bitrate observed.0) in
    let since = saturating_duration_since now (unwrap_or c.last_estimate_update now) in
    cond (Ieee.le limit c.estimated_bitrate.0) (with_estimate c c.estimated_bitrate now)
    (update_estimate next (B.rate (min (min (mul observed.0 max_estimate_ratio) (raised next since)) limit)) now)

-- ---- the update
abbrev pub update_in : State → RateControl → Bitrate → ℕ → RateControl
update_in Increase c observed now = increase c observed now
update_in Decrease c observed now =
    let counted = update_observed_bitrate c observed in
    cond (time_to_reduce_further counted now observed) (decrease counted observed now) counted
update_in Hold c observed now = c

unfoldable pub update : RateControl → Signal → Bitrate → Option ℕ → ℕ → RateControl
update c s observed rtt now = let next = with_inputs c s observed rtt in update_in next.state next observed now
