-- src/bwe/delay/control.rs: what a report and a timeout do to the delay controller. Times are ns, the smoothed round trip is seconds.
use Rattle.std.specs.Option.{unwrap_or}
use Rattle.arrival_group.specs.declared.InterGroupDelayDelta.{InterGroupDelayDelta}
use Rattle.std.specs.Prelude.{ℕ, ◌*◌, min, Bool, false, cond, List, [], ◌∷◌, leb, Float, ◌≡◌, Option, Some, None}
use Rattle.std.proofs.Math.Path.{refl}
use Rattle.float_order.specs.Binary64.{lit, decimal}
use Rattle.float_order.specs.Interval.{floats}
use Rattle.seconds.specs.Seconds.{as_secs_f64, from_secs_f64}
use Rattle.average.specs.Average as Average
use Rattle.average.specs.declared.MovingAverage.{MovingAverage}
use Rattle.bandwidth.specs.Bandwidth as B
use Rattle.bandwidth.specs.declared.BandwidthUsage.{BandwidthUsage}
use Rattle.bandwidth.specs.declared.Bitrate.{Bitrate}
use Rattle.time.specs.Time.{saturating_duration_since, saturating_add, longest}
use Rattle.arrival_group.specs.ArrivalGroup as Group
use Rattle.trendline.specs.Trendline as Trendline
use Rattle.trendline.specs.declared.TrendlineEstimator.{TrendlineEstimator}
use Rattle.rate_control.specs.RateControl as RateControl
use Rattle.rate_control.specs.declared.RateControl as R
use Rattle.control.specs.declared.DelayController.{DelayController}
use Rattle.control.specs.declared.DelayDetector.{DelayDetector}

-- ---- constants: 25 ms and 500 ms; the smoothing factor 1/8
abbrev pub update_interval : ℕ
update_interval = 25000000

abbrev pub max_twcc_gap : ℕ
max_twcc_gap = 500000000

abbrev pub rtt_smoothing_factor : Float
rtt_smoothing_factor = lit 0x3fc0_0000_0000_0000

pub rtt_smoothing_factor-is : rtt_smoothing_factor ≡ decimal 125 1000
rtt_smoothing_factor-is = unfold floats in refl

-- before the first report its age is over any limit, and the next timeout is 0, meaning due
unfoldable pub new : Bitrate → DelayController
new initial =
    record {
      arrival_group_accumulator = Group.new_accumulator;
      trendline_estimator = Trendline.new;
      rate_control = RateControl.new initial B.min_estimate B.max_estimate;
      smoothed_rtt = Average.new rtt_smoothing_factor;
      next_timeout = 0;
      last_twcc_report = None;
    }

-- ---- a report's packets, in two folds over two of its lists; what one list has more is left out
unfoldable pub fold : {S : Type 0} → (S → ℕ → ℕ → S) → S → List ℕ → List ℕ → S
fold f s [] ys = s
fold f s (x ∷ xs) [] = s
fold f s (x ∷ xs) (y ∷ ys) = fold f (f s x y) xs ys

-- the moment handed to the trendline is the remote one
abbrev pub observe : Option InterGroupDelayDelta → TrendlineEstimator → TrendlineEstimator
observe None t = t
observe (Some v) t = Trendline.add_delay_observation t v v.last_remote_recv_time

abbrev pub add_packet : DelayDetector → ℕ → ℕ → DelayDetector
add_packet d send remote =
    let done = Group.accumulate_packet d.arrival_group_accumulator send remote in
    record { arrival_group_accumulator = done.accumulator; trendline_estimator = observe done.delta d.trendline_estimator }

abbrev pub add_packets : DelayDetector → List ℕ → List ℕ → DelayDetector
add_packets d sends remotes = fold add_packet d sends remotes

abbrev pub add_rtt : Option ℕ → ℕ → ℕ → Option ℕ
add_rtt rtt send receive = longest rtt (saturating_duration_since receive send)

abbrev pub max_rtt : List ℕ → List ℕ → Option ℕ
max_rtt sends receives = fold add_rtt None sends receives

-- ---- the smoothed round trip
unfoldable pub update_rtt : MovingAverage → Option ℕ → MovingAverage
update_rtt m None = m
update_rtt m (Some rtt) = Average.update m (as_secs_f64 rtt)

abbrev pub rtt_of : Option Float → Option ℕ
rtt_of None = None
rtt_of (Some secs) = Some (from_secs_f64 secs)

unfoldable pub get_smoothed_rtt : DelayController → Option ℕ
get_smoothed_rtt c = rtt_of c.smoothed_rtt.average

-- ---- changes of the state
unfoldable pub with_rate : DelayController → R.RateControl → ℕ → DelayController
with_rate c rate next =
    record {
      arrival_group_accumulator = c.arrival_group_accumulator;
      trendline_estimator = c.trendline_estimator;
      rate_control = rate;
      smoothed_rtt = c.smoothed_rtt;
      next_timeout = next;
      last_twcc_report = c.last_twcc_report;
    }

abbrev pub detector : DelayController → DelayDetector
detector c = record { arrival_group_accumulator = c.arrival_group_accumulator; trendline_estimator = c.trendline_estimator }

unfoldable pub with_packets : DelayController → List ℕ → List ℕ → List ℕ → ℕ → DelayController
with_packets c sends remotes receives now =
    let d = add_packets (detector c) sends remotes in
    record {
      arrival_group_accumulator = d.arrival_group_accumulator;
      trendline_estimator = d.trendline_estimator;
      rate_control = c.rate_control;
      smoothed_rtt = update_rtt c.smoothed_rtt (max_rtt sends receives);
      next_timeout = c.next_timeout;
      last_twcc_report = Some now;
    }

-- ---- the estimate: a probe's result as it is, else the observed rate where there is one
abbrev pub rate_from : Option Bitrate → Option Bitrate → R.RateControl → BandwidthUsage → Option ℕ → ℕ → R.RateControl
rate_from (Some probe) observed rate hypothesis rtt now = RateControl.set_probe_result rate probe now
rate_from None None rate hypothesis rtt now = rate
rate_from None (Some observed) rate hypothesis rtt now = RateControl.update rate (RateControl.signal hypothesis) observed rtt now

abbrev pub rate_after : Option Bitrate → Option Bitrate → DelayController → ℕ → R.RateControl
rate_after probe observed c now =
    rate_from probe observed c.rate_control c.trendline_estimator.hypothesis (get_smoothed_rtt c) now

unfoldable pub update_estimate : DelayController → Option Bitrate → Option Bitrate → ℕ → DelayController
update_estimate c observed probe now = with_rate c (rate_after probe observed c now) (saturating_add now update_interval)

-- ---- a report
unfoldable pub update : DelayController → List ℕ → List ℕ → List ℕ → Option Bitrate → Option Bitrate → ℕ → DelayController
update c sends remotes receives acked probe now = update_estimate (with_packets c sends remotes receives now) acked probe now

-- ---- a timeout: a hypothesis older than twice the round trip, or than 50 ms, waits for the next report
-- the smoothed round trip, at most 25 ms
unfoldable pub wait : DelayController → ℕ
wait c = min (unwrap_or (get_smoothed_rtt c) max_twcc_gap) update_interval

abbrev pub valid_since : Option ℕ → DelayController → ℕ → Bool
valid_since None c now = false
valid_since (Some last) c now = leb (saturating_duration_since now last) (2 * wait c)

unfoldable pub trendline_hypothesis_valid : DelayController → ℕ → Bool
trendline_hypothesis_valid c now = valid_since c.last_twcc_report c now

unfoldable pub handle_timeout : DelayController → Option Bitrate → ℕ → DelayController
handle_timeout c acked now =
    cond (trendline_hypothesis_valid c now) (update_estimate c acked None now)
    (with_rate c c.rate_control (saturating_add now (wait c)))
