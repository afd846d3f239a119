-- Question 1 of document 01: is the lent state in range? A line for each of its clauses, told part by part. Instants and durations are ns.
use Rattle.trendline.specs.declared.Overuse.{Overuse}
use Rattle.arrival_group.specs.declared.ArrivalGroup.{ArrivalGroup}
use Rattle.bandwidth.specs.declared.Bitrate.{Bitrate}
use Rattle.std.specs.Prelude.{ℕ, ◌^◌, ◌+◌, ◌*◌, Bool, true, false, not, ◌&&◌, ◌||◌, List, [], ◌∷◌, leb, eqb, pos, take, Float, ◌≡◌, Option, Some, None}
use Rattle.std.specs.Float.Ieee as Ieee
use Rattle.std.specs.Float.Ieee.{neg}
use Rattle.std.proofs.Math.Path.{refl}
use Rattle.float_order.specs.Binary64.{lit, decimal}
use Rattle.float_order.specs.Interval.{floats}
use Rattle.float.specs.Float.{within}
use Rattle.sqrt.specs.Sqrt.{sqrt}
use Rattle.average.specs.declared.MovingAverage.{MovingAverage}
use Rattle.bandwidth.specs.Bandwidth as B
use Rattle.bandwidth.specs.Bandwidth.{min_estimate, max_estimate, most_rate}
use Rattle.bandwidth.specs.declared.DataSize.{DataSize}
use Rattle.time.specs.declared.TimeDelta.{TimeDelta}
use Rattle.time.specs.declared.TimeDelta.TheVariants as Delta
use Rattle.acked_bitrate_estimator.specs.declared.AckedBitrateEstimator.{AckedBitrateEstimator}
use Rattle.arrival_group.specs.declared.ArrivalGroupAccumulator.{ArrivalGroupAccumulator}
use Rattle.trendline.specs.Trendline.{max_delay_count, most_timings, max_overuse_count, min_threshold_ms, max_threshold_ms}
use Rattle.trendline.specs.declared.History.{History}
use Rattle.trendline.specs.declared.Delays.{Delays}
use Rattle.trendline.specs.declared.TrendlineEstimator.{TrendlineEstimator}
use Rattle.rate_control.specs.RateControl.{observed_bit_rate_smoothing_factor}
use Rattle.rate_control.specs.declared.RateControl.{RateControl}
use Rattle.questions.specs.Questions.{bytes_in, window_in}
use Rattle.control.specs.Control.{rtt_smoothing_factor}
use Rattle.control.specs.Laws.{most_round_trip}
use Rattle.control.specs.declared.DelayController.{DelayController}
use Rattle.link_state.specs.declared.Link.{Link}

-- ---- limits
-- other instants and durations: 10^18 + 10^9 ns
abbrev pub most_ns : ℕ
most_ns = 10 ^ 18 + 10 ^ 9

-- an elapsed window: 10^10 ns
abbrev pub most_elapsed : ℕ
most_elapsed = 10000000000

abbrev pub most_overuse : ℕ
most_overuse = 2 * 10 ^ 18

abbrev pub no_bytes : DataSize
no_bytes = B.bytes (pos 0)

-- 10^12 ms
abbrev pub most_time : Float
most_time = lit 0x426d_1a94_a200_0000

pub most_time-is : most_time ≡ decimal (10 ^ 12) 1
most_time-is = unfold floats in refl

-- the greatest floats that are not above 10^30 and 10^31
abbrev pub most30 : Float
most30 = lit 0x4629_3e59_39a0_8ce9

pub most30-is : most30 ≡ decimal 999_999_999_999_999_879_147_136_483_328 1
most30-is = unfold floats in refl

abbrev pub most31 : Float
most31 = lit 0x465f_8def_8808_b024

pub most31-is : most31 ≡ decimal (10 ^ 31) 1
most31-is = unfold floats in refl

-- the least float that is not below 0.8
abbrev pub least_acked : Float
least_acked = lit 0x3fe9_9999_9999_999a

pub least_acked-is : least_acked ≡ decimal 8 10
least_acked-is = unfold floats in refl

-- ---- kinds of fields
-- there is no value, or one that passes the test
abbrev pub is_none_or : {A : Type 0} → (A → Bool) → Option A → Bool
is_none_or test None = true
is_none_or test (Some x) = test x

-- an instant or a duration
abbrev pub ns_in : Option ℕ → Bool
ns_in o = is_none_or (λ ns. leb ns most_ns) o

-- byte sum as in question 9, and 0 only with an elapsed window of 0
unfoldable pub sum_in : DataSize → ℕ → Bool
sum_in sum elapsed = not (B.less sum no_bytes) && bytes_in sum && (B.less no_bytes sum || eqb elapsed 0)

abbrev pub average_within : Float → Option Float → Bool
average_within most o = is_none_or (λ a. within (lit 0) most a) o

-- a smoothing factor as the Rust sets it, the average in its limit, the variance from 0 to 10^30, the deviation its root
unfoldable pub average_in : MovingAverage → Float → Float → Bool
average_in m factor most =
    Ieee.eq m.smoothing_factor factor
    && average_within most m.average
    && within (lit 0) most30 m.variance
    && Ieee.eq m.std (sqrt m.variance)

-- ---- the acknowledged rate: windows as in question 3; absent or from 0.8 to 10^14
abbrev pub acked_rate_in : Option Bitrate → Bool
acked_rate_in o = is_none_or (λ r. within least_acked most_rate.0 r.0) o

unfoldable pub acked_in : AckedBitrateEstimator → Bool
acked_in a =
    window_in a.initial_window
    && window_in a.window
    && acked_rate_in a.estimate
    && within (lit 0) most30 a.estimate_var
    && sum_in a.sum a.current_window
    && leb a.current_window most_elapsed
    && ns_in a.last_update

-- ---- groups: the times of one are all there, or there is no group, by its type
abbrev pub group_in : Option ArrivalGroup → Bool
group_in o =
    is_none_or
    (λ g. leb g.first_local_send_time most_ns && leb g.first_remote_recv_time most_ns && leb g.last_local_send_time most_ns && leb g.last_remote_recv_time most_ns)
    o

unfoldable pub groups_in : ArrivalGroupAccumulator → Bool
groups_in a = ns_in a.send_time_origin && group_in a.previous_group && group_in a.current_group

-- ---- the trendline
-- a list that rises, or stays, from low to high
unfoldable pub ascends : Float → List Float → Float → Bool
ascends low [] high = Ieee.le low high
ascends low (x ∷ xs) high = Ieee.le low x && ascends x xs high

unfoldable pub all_within : Float → List Float → Bool
all_within most [] = true
all_within most (x ∷ xs) = within (neg most) most x && all_within most xs

-- at most 20 timings in order, times within ±10^12 ms, delays within ±10^31
unfoldable pub history_in : History → Bool
history_in h = leb h.len most_timings && ascends (neg most_time) (take h.len h.times) most_time && all_within most31 (take h.len h.delays)

-- counts within their caps, delays, threshold limits; a previous trend that is no NaN
unfoldable pub delays_in : Delays → Bool
delays_in d =
    leb d.num_delay_variations max_delay_count
    && within (neg most30) most30 d.accumulated_delay
    && within (neg most31) most31 d.smoothed_delay
    && within min_threshold_ms max_threshold_ms d.delay_threshold
    && Ieee.eq d.previous_trend d.previous_trend

-- overuse time within ±2 × 10^18 ns
abbrev pub overuse_time_in : TimeDelta → Bool
overuse_time_in Delta.NegativeInfinity = false
overuse_time_in (Delta.Negative n) = leb n most_overuse
overuse_time_in (Delta.Positive n) = leb n most_overuse
overuse_time_in Delta.PositiveInfinity = false

unfoldable pub overuse_in : Option Overuse → Bool
overuse_in p = is_none_or (λ o. leb o.count max_overuse_count && overuse_time_in o.time_overusing) p

unfoldable pub trendline_in : TrendlineEstimator → Bool
trendline_in t =
    ns_in t.zero_time
    && history_in t.history
    && delays_in t.delays
    && overuse_in t.overuse
    && ns_in t.last_threshold_update

-- ---- the rate control: rate limits, which the Rust never changes; the average of rates from 0 to 10^14
unfoldable pub rate_control_in : RateControl → Bool
rate_control_in c =
    Ieee.eq c.min_bitrate.0 min_estimate.0
    && Ieee.eq c.max_bitrate.0 max_estimate.0
    && within min_estimate.0 max_estimate.0 c.estimated_bitrate.0
    && average_in c.averaged_observed_bitrate observed_bit_rate_smoothing_factor most_rate.0
    && ns_in c.last_estimate_update
    && ns_in c.last_rtt

-- ---- the delay controller: round-trip average from 0 to 10^9 s
unfoldable pub control_in : DelayController → Bool
control_in c =
    groups_in c.arrival_group_accumulator
    && trendline_in c.trendline_estimator
    && rate_control_in c.rate_control
    && average_in c.smoothed_rtt rtt_smoothing_factor most_round_trip
    && leb c.next_timeout most_ns
    && ns_in c.last_twcc_report

unfoldable pub in_range : Link → Bool
in_range l = acked_in l.acked && control_in l.control
