-- src/bwe/delay/trendline.rs: the trend of the delay between groups, what it says, and the threshold that it is judged by. Window 20. Delays and times
-- are ms, moments ns; each float operation is rounded once, and `powi(2)` is one product.
use Rattle.std.specs.Option.{unwrap_or}
use Rattle.std.specs.Prelude.{ℕ, zero, suc, ◌+◌, ◌/◌, min, ◌&&◌, cond, List, [], ◌∷◌, ◌++◌, ltb, eqb, pos, get_or, take, drop, replicate, Float, ◌≡◌, Option, Some, None}
use Rattle.std.specs.Float.Ieee as Ieee
use Rattle.std.specs.Float.{nan, binary64}
use Rattle.std.specs.Float.Ieee.{of_int, neg}
use Rattle.std.proofs.Math.Path.{refl}
use Rattle.float_order.specs.Binary64 as F
use Rattle.float_order.specs.Binary64.{sub, mul, div, lit, decimal, one, thousand}
use Rattle.float_order.specs.Interval.{floats}
use Rattle.float.specs.Float as Float
use Rattle.time.specs.Time as Time
use Rattle.time.specs.Time.{saturating_duration_since}
use Rattle.time.specs.declared.TimeDelta.{TimeDelta}
use Rattle.arrival_group.specs.declared.InterGroupDelayDelta.{InterGroupDelayDelta}
use Rattle.bandwidth.specs.declared.BandwidthUsage.{BandwidthUsage}
use Rattle.bandwidth.specs.declared.BandwidthUsage.TheVariants as Usage
use Rattle.trendline.specs.declared.History.{History}
use Rattle.trendline.specs.declared.Overuse.{Overuse}
use Rattle.trendline.specs.declared.Delays.{Delays}
use Rattle.trendline.specs.declared.Judgement.{Judgement}
use Rattle.trendline.specs.declared.Fit.{Fit}
use Rattle.trendline.specs.declared.TrendlineEstimator.{TrendlineEstimator}

-- ---- constants, by their Rust names
abbrev pub smoothing_coef : Float
smoothing_coef = lit 0x3fec_cccc_cccc_cccd

pub smoothing_coef-is : smoothing_coef ≡ decimal 9 10
smoothing_coef-is = unfold floats in refl

abbrev pub over_use_threshold_default_ms : Float
over_use_threshold_default_ms = lit 0x4029_0000_0000_0000

pub over_use_threshold_default_ms-is : over_use_threshold_default_ms ≡ decimal 125 10
over_use_threshold_default_ms-is = unfold floats in refl

abbrev pub over_use_time_threshold : ℕ
over_use_time_threshold = 10000000

abbrev pub max_adopt_offset_ms : Float
max_adopt_offset_ms = lit 0x402e_0000_0000_0000

pub max_adopt_offset_ms-is : max_adopt_offset_ms ≡ decimal 15 1
max_adopt_offset_ms-is = unfold floats in refl

abbrev pub threshold_gain : Float
threshold_gain = lit 0x4010_0000_0000_0000

pub threshold_gain-is : threshold_gain ≡ decimal 4 1
threshold_gain-is = unfold floats in refl

abbrev pub k_up : Float
k_up = lit 0x3f81_d14e_3bcd_35a8

pub k_up-is : k_up ≡ decimal 87 10000
k_up-is = unfold floats in refl

abbrev pub k_down : Float
k_down = lit 0x3fa3_f7ce_d916_872b

pub k_down-is : k_down ≡ decimal 39 1000
k_down-is = unfold floats in refl

abbrev pub min_delay_count : ℕ
min_delay_count = 60

abbrev pub max_delay_count : ℕ
max_delay_count = 1000

-- ---- constants without a name in the Rust
-- window 20
abbrev pub most_timings : ℕ
most_timings = 20

-- the overuse count stops there
abbrev pub max_overuse_count : ℕ
max_overuse_count = 2

abbrev pub window_size : Float
window_size = lit 0x4034_0000_0000_0000

pub window_size-is : window_size ≡ decimal 20 1
window_size-is = unfold floats in refl

abbrev pub max_time_delta_ms : Float
max_time_delta_ms = lit 0x4059_0000_0000_0000

pub max_time_delta_ms-is : max_time_delta_ms ≡ decimal 100 1
max_time_delta_ms-is = unfold floats in refl

abbrev pub min_threshold_ms : Float
min_threshold_ms = lit 0x4018_0000_0000_0000

pub min_threshold_ms-is : min_threshold_ms ≡ decimal 6 1
min_threshold_ms-is = unfold floats in refl

abbrev pub max_threshold_ms : Float
max_threshold_ms = lit 0x4082_c000_0000_0000

pub max_threshold_ms-is : max_threshold_ms ≡ decimal 600 1
max_threshold_ms-is = unfold floats in refl

-- ---- the history
-- how many of the first n times stand before a new one: equal times do
unfoldable pub place : List Float → ℕ → Float → ℕ
place xs zero t = zero
place xs (suc n) t = cond (Ieee.le (get_or xs n nan) t) (suc n) (place xs n t)

-- x in front, and the last element left out
unfoldable pub push : Float → List Float → List Float
push x [] = []
push x (y ∷ ys) = x ∷ push y ys

unfoldable pub insert : List Float → ℕ → Float → List Float
insert xs p x = take p xs ++ push x (drop p xs)

-- x before place p, and the front left out
unfoldable pub insert_full : List Float → ℕ → Float → List Float
insert_full xs p x = drop 1 (take p xs ++ (x ∷ drop p xs))

abbrev pub new_history : History
new_history = record { times = replicate most_timings (lit 0); delays = replicate most_timings (lit 0); len = 0 }

-- over 20, the front leaves
unfoldable pub add : History → Float → Float → History
add h time delay =
    let p = place h.times h.len time in
    cond (ltb most_timings h.len) h
    (cond (ltb h.len most_timings) (record { times = insert h.times p time; delays = insert h.delays p delay; len = h.len + 1 })
    (record { times = insert_full h.times p time; delays = insert_full h.delays p delay; len = h.len }))

-- ---- the least-squares slope
unfoldable pub total_from : Float → List Float → Float
total_from s [] = s
total_from s (x ∷ xs) = total_from (F.add s x) xs

abbrev pub total : List Float → Float
total xs = total_from (lit 0) xs

unfoldable pub with_point : Fit → Float → Float → Float → Float → Fit
with_point s x y avg_x avg_y =
    record {
      numerator = F.add s.numerator (mul (sub x avg_x) (sub y avg_y));
      denominator = F.add s.denominator (mul (sub x avg_x) (sub x avg_x));
    }

unfoldable pub sums_from : Fit → List Float → List Float → Float → Float → Fit
sums_from s [] ys avg_x avg_y = s
sums_from s (x ∷ xs) [] avg_x avg_y = s
sums_from s (x ∷ xs) (y ∷ ys) avg_x avg_y = sums_from (with_point s x y avg_x avg_y) xs ys avg_x avg_y

abbrev pub sums : List Float → List Float → Float → Float → Fit
sums xs ys avg_x avg_y = sums_from (record { numerator = lit 0; denominator = lit 0 }) xs ys avg_x avg_y

abbrev pub average : List Float → Float
average xs = div (total xs) window_size

-- a denominator of 0 keeps the previous trend
abbrev pub slope : Fit → Float → Float
slope s previous = cond (Ieee.eq s.denominator (lit 0)) previous (div s.numerator s.denominator)

unfoldable pub linear_fit : List Float → List Float → Float → Float
linear_fit times delays previous = slope (sums times delays (average times) (average delays)) previous

-- ---- the sums of delays
abbrev pub new_delays : Delays
new_delays =
    record {
      num_delay_variations = 0;
      accumulated_delay = lit 0;
      smoothed_delay = lit 0;
      delay_threshold = over_use_threshold_default_ms;
      previous_trend = lit 0;
    }

unfoldable pub accumulate : Delays → Float → Delays
accumulate d delta =
    let accumulated = F.add d.accumulated_delay delta in
    record {
      num_delay_variations = min (d.num_delay_variations + 1) max_delay_count;
      accumulated_delay = accumulated;
      smoothed_delay = F.add (mul d.smoothed_delay smoothing_coef) (mul (sub one smoothing_coef) accumulated);
      delay_threshold = d.delay_threshold;
      previous_trend = d.previous_trend;
    }

unfoldable pub modified_trend : Delays → Float → Float
modified_trend d trend = mul (mul (of_int binary64 (pos (min d.num_delay_variations min_delay_count))) trend) threshold_gain

-- ---- the adaptive threshold, after so many ns since its last update
-- a trend more than 15 ms above it leaves it
abbrev pub gain : Float → Float → Float
gain abs_trend threshold = cond (Ieee.lt abs_trend threshold) k_down k_up

abbrev pub moved : Float → Float → ℕ → Float
moved abs_trend threshold elapsed =
    F.add threshold (mul (mul (gain abs_trend threshold) (sub abs_trend threshold)) (Float.min (of_int binary64 (pos (elapsed / 1000000))) max_time_delta_ms))

abbrev pub adapted : Float → Float → ℕ → Float
adapted abs_trend threshold elapsed =
    cond (Ieee.lt (F.add threshold max_adopt_offset_ms) abs_trend) threshold
    (Float.clamp (moved abs_trend threshold elapsed) min_threshold_ms max_threshold_ms)

unfoldable pub threshold : Delays → Float → ℕ → Float
threshold d modified elapsed = adapted (Float.abs modified) d.delay_threshold elapsed

unfoldable pub with_trend : Delays → Float → Float → Delays
with_trend d trend threshold' =
    record {
      num_delay_variations = d.num_delay_variations;
      accumulated_delay = d.accumulated_delay;
      smoothed_delay = d.smoothed_delay;
      delay_threshold = threshold';
      previous_trend = trend;
    }

-- ---- what the trend says
-- a first observation assumes overuse for half of the time since the previous one; the count stops at 2
unfoldable pub next_overuse : Option Overuse → TimeDelta → Overuse
next_overuse None sent = record { count = 1; time_overusing = Time.div sent 2 }
next_overuse (Some o) sent = record { count = min (o.count + 1) max_overuse_count; time_overusing = Time.add o.time_overusing sent }

-- overuse is told once it has lasted over 10 ms and more than one observation, with a rising trend
unfoldable pub overusing : Delays → Overuse → Float → BandwidthUsage → Judgement
overusing d o trend hypothesis =
    cond (Time.lt (Time.positive over_use_time_threshold) o.time_overusing && ltb 1 o.count && Ieee.lt d.previous_trend trend)
    (record { overuse = None; hypothesis = Usage.Overuse })
    (record { overuse = Some o; hypothesis = hypothesis })

unfoldable pub judge : Delays → Option Overuse → BandwidthUsage → Float → TimeDelta → Judgement
judge d overuse hypothesis trend sent =
    let modified = modified_trend d trend in
    cond (Ieee.lt d.delay_threshold modified) (overusing d (next_overuse overuse sent) trend hypothesis)
    (cond (Ieee.lt modified (neg d.delay_threshold)) (record { overuse = None; hypothesis = Usage.Underuse })
    (record { overuse = None; hypothesis = Usage.Normal }))

-- ---- the estimator
abbrev pub new : TrendlineEstimator
new =
    record {
      zero_time = None;
      history = new_history;
      delays = new_delays;
      overuse = None;
      last_threshold_update = None;
      hypothesis = Usage.Normal;
    }

-- what arrival took longer than sending
unfoldable pub delay_delta : InterGroupDelayDelta → Float
delay_delta v = sub (mul (Time.as_secs_f64 v.arrival_delta) thousand) (mul (Time.as_secs_f64 v.send_delta) thousand)

-- the time of a group, from the first one's
abbrev pub time_since : ℕ → ℕ → Float
time_since last zero' = mul (Time.as_secs_f64 (Time.since (Time.exact last) (Time.exact zero'))) thousand

unfoldable pub add_to_history : TrendlineEstimator → InterGroupDelayDelta → TrendlineEstimator
add_to_history t v =
    let zero' = unwrap_or t.zero_time v.last_remote_recv_time in
    let delays = accumulate t.delays (delay_delta v) in
    record {
      zero_time = Some zero';
      history = add t.history (time_since v.last_remote_recv_time zero') delays.smoothed_delay;
      delays = delays;
      overuse = t.overuse;
      last_threshold_update = t.last_threshold_update;
      hypothesis = t.hypothesis;
    }

abbrev pub with_judgement : TrendlineEstimator → Judgement → Delays → ℕ → TrendlineEstimator
with_judgement t j delays now =
    record {
      zero_time = t.zero_time;
      history = t.history;
      delays = delays;
      overuse = j.overuse;
      last_threshold_update = Some now;
      hypothesis = j.hypothesis;
    }

abbrev pub with_normal : TrendlineEstimator → TrendlineEstimator
with_normal t =
    record {
      zero_time = t.zero_time;
      history = t.history;
      delays = t.delays;
      overuse = t.overuse;
      last_threshold_update = t.last_threshold_update;
      hypothesis = Usage.Normal;
    }

unfoldable pub detect : TrendlineEstimator → Float → TimeDelta → ℕ → TrendlineEstimator
detect t trend sent now =
    let elapsed = saturating_duration_since now (unwrap_or t.last_threshold_update now) in
    cond (ltb t.delays.num_delay_variations 2) (with_normal t)
    (with_judgement t (judge t.delays t.overuse t.hypothesis trend sent)
    (with_trend t.delays trend (threshold t.delays (modified_trend t.delays trend) elapsed)) now)

-- a full history gives a trend
abbrev pub observed : TrendlineEstimator → TimeDelta → ℕ → TrendlineEstimator
observed t sent now =
    cond (eqb t.history.len most_timings)
    (detect t (linear_fit t.history.times t.history.delays t.delays.previous_trend) sent now) t

unfoldable pub add_delay_observation : TrendlineEstimator → InterGroupDelayDelta → ℕ → TrendlineEstimator
add_delay_observation t v now = observed (add_to_history t v) v.send_delta now
