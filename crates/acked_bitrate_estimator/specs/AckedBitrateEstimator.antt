-- src/bwe/acked_bitrate_estimator.rs: what a packet does to the acknowledged rate, step by step, each float operation rounded once. Times are ns.
use Rattle.std.specs.Prelude.{◌≡◌, ℕ, ◌-◌, ◌*◌, ◌/◌, ◌%◌, Bool, cond, ◌&&◌, pos, ◌==◌, nat_le, nat_lt, Float, Option, Some, None}
use Rattle.std.specs.Float.Ieee as Ieee
use Rattle.std.specs.Float.{binary64}
use Rattle.std.specs.Float.Ieee.{of_int, to_unsigned}
use Rattle.std.proofs.Math.Path.{refl}
use Rattle.float_order.specs.Binary64.{add, sub, mul, div, lit, decimal}
use Rattle.float_order.specs.Interval.{floats}
use Rattle.float.specs.Float.{abs, max, ceil}
use Rattle.bandwidth.specs.Bandwidth as B
use Rattle.bandwidth.specs.declared.Bitrate.{Bitrate}
use Rattle.bandwidth.specs.declared.DataSize.{DataSize}
use Rattle.time.specs.Time.{saturating_add}
use Rattle.acked_bitrate_estimator.specs.declared.AckedBitrateEstimator.{AckedBitrateEstimator}
use Rattle.acked_bitrate_estimator.specs.declared.Window.{Window}
use Rattle.acked_bitrate_estimator.specs.declared.Weighed.{Weighed}
use Rattle.acked_bitrate_estimator.specs.declared.Sample.{Sample}

-- ---- constants, by their Rust names
abbrev pub small_sample_threshold : DataSize
small_sample_threshold = B.bytes (pos 2000)

abbrev pub small_sample_uncertainty : Float
small_sample_uncertainty = lit 0x4039_0000_0000_0000

pub small_sample_uncertainty-is : small_sample_uncertainty ≡ decimal 25 1
small_sample_uncertainty-is = unfold floats in refl

abbrev pub uncertainty : Float
uncertainty = lit 0x4024_0000_0000_0000

pub uncertainty-is : uncertainty ≡ decimal 10 1
uncertainty-is = unfold floats in refl

abbrev pub estimate_floor : Float
estimate_floor = lit 0x40e3_8800_0000_0000

pub estimate_floor-is : estimate_floor ≡ decimal 40000 1
estimate_floor-is = unfold floats in refl

-- without a name in the Rust
abbrev pub initial_estimate_var : Float
initial_estimate_var = lit 0x4049_0000_0000_0000

pub initial_estimate_var-is : initial_estimate_var ≡ decimal 50 1
initial_estimate_var-is = unfold floats in refl

abbrev pub estimate_var_increase : Float
estimate_var_increase = lit 0x4014_0000_0000_0000

pub estimate_var_increase-is : estimate_var_increase ≡ decimal 5 1
estimate_var_increase-is = unfold floats in refl

abbrev pub none : DataSize
none = B.bytes (pos 0)

abbrev pub new : ℕ → ℕ → AckedBitrateEstimator
new initial window =
    record {
      initial_window = initial;
      window = window;
      estimate = None;
      estimate_var = initial_estimate_var;
      sum = none;
      current_window = 0;
      last_update = None;
    }

-- ---- the window
-- a gap of a window or more keeps the remainder in whole µs; a window below 1 µs keeps nothing
unfoldable pub remaining : ℕ → ℕ → ℕ
remaining elapsed window = cond (window / 1000 == 0) 0 (elapsed / 1000 % (window / 1000) * 1000)

unfoldable pub advance : Window → ℕ → ℕ → Window
advance w gap window =
    let elapsed = saturating_add w.elapsed gap in
    cond (nat_le window gap) (record { sum = none; elapsed = remaining elapsed window }) (record { sum = w.sum; elapsed = elapsed })

-- a full window gives a sample, and says whether it is small
unfoldable pub sample : Window → ℕ → Option Sample
sample w window =
    cond (nat_lt w.elapsed window) None (Some (record { rate = B.per_duration w.sum window; is_small = B.less w.sum small_sample_threshold }))

-- and starts anew; then the packet's size is added
unfoldable pub with_packet : Window → DataSize → ℕ → Window
with_packet w size window =
    cond (nat_lt w.elapsed window) (record { sum = B.add_size w.sum size; elapsed = w.elapsed })
    (record { sum = B.add_size none size; elapsed = w.elapsed - window })

-- ---- the estimate
-- a small sample below the estimate counts as less certain
unfoldable pub scale : Bool → Float → Float → Float
scale small estimate value = cond (small && Ieee.lt value estimate) small_sample_uncertainty uncertainty

abbrev pub sample_uncertainty : Bool → Float → Float → Float
sample_uncertainty small estimate value = div (mul (scale small estimate value) (abs (sub estimate value))) estimate

abbrev pub mean : Float → Float → Float → Float → Float
mean sample_var pred_var estimate value = div (add (mul sample_var estimate) (mul pred_var value)) (add sample_var pred_var)

unfoldable pub weigh : Float → Float → Float → Bool → Weighed
weigh estimate variance value small =
    let u = sample_uncertainty small estimate value in
    let sample_var = mul u u in
    let pred_var = add variance estimate_var_increase in
    record {
      estimate = of_int binary64 (pos (to_unsigned 64 (ceil (max (mean sample_var pred_var estimate value) estimate_floor))));
      variance = div (mul sample_var pred_var) (add sample_var pred_var);
    }

-- ---- the estimator
abbrev pub with_window : AckedBitrateEstimator → Window → ℕ → AckedBitrateEstimator
with_window a w receive_time =
    record {
      initial_window = a.initial_window;
      window = a.window;
      estimate = a.estimate;
      estimate_var = a.estimate_var;
      sum = w.sum;
      current_window = w.elapsed;
      last_update = Some receive_time;
    }

abbrev pub with_estimate : AckedBitrateEstimator → Bitrate → Float → AckedBitrateEstimator
with_estimate a rate variance =
    record {
      initial_window = a.initial_window;
      window = a.window;
      estimate = Some rate;
      estimate_var = variance;
      sum = a.sum;
      current_window = a.current_window;
      last_update = a.last_update;
    }

-- the first sample is the estimate, without the floor; later ones are weighed
abbrev pub estimate_from : Option Bitrate → AckedBitrateEstimator → Bitrate → Bool → AckedBitrateEstimator
estimate_from None a rate small = with_estimate a rate a.estimate_var
estimate_from (Some e) a rate small =
    let w = weigh e.0 a.estimate_var rate.0 small in
    with_estimate a (B.rate w.estimate) w.variance

unfoldable pub with_sample : AckedBitrateEstimator → Option Sample → AckedBitrateEstimator
with_sample a None = a
with_sample a (Some s) = estimate_from a.estimate a s.rate s.is_small

abbrev pub window_for : Option Bitrate → AckedBitrateEstimator → ℕ
window_for None a = a.initial_window
window_for (Some e) a = a.window

-- the first estimate wants the larger window
unfoldable pub window_length : AckedBitrateEstimator → ℕ
window_length a = window_for a.estimate a

abbrev pub current_window : AckedBitrateEstimator → Window
current_window a = record { sum = a.sum; elapsed = a.current_window }

unfoldable pub filled : AckedBitrateEstimator → Window → ℕ → DataSize → AckedBitrateEstimator
filled a w receive_time size = with_sample (with_window a (with_packet w size (window_length a)) receive_time) (sample w (window_length a))

-- an instant earlier than the last one clears sum and window, and its packet's size is not added
abbrev pub update_since : Option ℕ → AckedBitrateEstimator → ℕ → DataSize → AckedBitrateEstimator
update_since None a receive_time size = filled a (current_window a) receive_time size
update_since (Some last) a receive_time size =
    cond (nat_lt receive_time last) (with_window a (record { sum = none; elapsed = 0 }) receive_time)
    (filled a (advance (current_window a) (receive_time - last) (window_length a)) receive_time size)

unfoldable pub update : AckedBitrateEstimator → ℕ → DataSize → AckedBitrateEstimator
update a receive_time size = update_since a.last_update a receive_time size
