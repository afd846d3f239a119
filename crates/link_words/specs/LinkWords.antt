-- A link as 100 words: the layout, from words to a link and back.
use Rattle.bandwidth.specs.declared.Bitrate.{Bitrate}
use Rattle.std.specs.Prelude.{ℕ, zero, suc, Bool, cond, ◌&&◌, ◌||◌, List, [], ◌∷◌, ◌++◌, map, leb, eqb, get_or, set, Float, Option, Some, None, unwrap_or, option_map, ◌+◌}
use Rattle.std.proofs.lemmas.List.Edits.{sets}
use Rattle.std.specs.Float.{binary64}
use Rattle.std.specs.Float.Ieee.{of_bits, to_bits}
use Rattle.std.specs.Int.{w64}
use Rattle.std.proofs.Common.{of_z, to_z}
use Rattle.average.specs.declared.MovingAverage.{MovingAverage}
use Rattle.bandwidth.specs.declared.BandwidthUsage.{BandwidthUsage}
use Rattle.bandwidth.specs.declared.BandwidthUsage.TheVariants as Usage
use Rattle.bandwidth.specs.declared.DataSize.{DataSize}
use Rattle.time.specs.declared.TimeDelta.{TimeDelta}
use Rattle.time.specs.declared.TimeDelta.TheVariants as Delta
use Rattle.acked_bitrate_estimator.specs.declared.AckedBitrateEstimator.{AckedBitrateEstimator}
use Rattle.arrival_group.specs.declared.ArrivalGroup.{ArrivalGroup}
use Rattle.arrival_group.specs.declared.ArrivalGroupAccumulator.{ArrivalGroupAccumulator}
use Rattle.trendline.specs.declared.History.{History}
use Rattle.trendline.specs.declared.Delays.{Delays}
use Rattle.trendline.specs.declared.Overuse.{Overuse}
use Rattle.trendline.specs.declared.TrendlineEstimator.{TrendlineEstimator}
use Rattle.rate_control.specs.declared.State.{State}
use Rattle.rate_control.specs.declared.State.TheVariants as S
use Rattle.rate_control.specs.declared.RateControl.{RateControl}
use Rattle.control.specs.declared.DelayController.{DelayController}
use Rattle.link_state.specs.declared.Link.{Link}

-- word i
abbrev word : List ℕ → ℕ → ℕ
word w i = get_or w i 0

-- the float in word i
abbrev float : List ℕ → ℕ → Float
float w i = of_bits binary64 (get_or w i 0)

-- ---- a size in two's complement
abbrev pub data_size : ℕ → DataSize
data_size n = record { 0 = to_z w64 n }

abbrev pub data_size_bits : DataSize → ℕ
data_size_bits s = of_z w64 s.0

-- ---- options and enums from their words. A tag of 0 is an absent option, one past an enum's last counts as the last.
abbrev pub option : {A : Type 0} → ℕ → A → Option A
option tag x = cond (eqb tag 0) None (Some x)

abbrev pub time_delta : ℕ → ℕ → TimeDelta
time_delta tag ns = cond (eqb tag 0) Delta.NegativeInfinity (cond (eqb tag 1) (Delta.Negative ns) (cond (eqb tag 2) (Delta.Positive ns) Delta.PositiveInfinity))

abbrev pub hypothesis : ℕ → BandwidthUsage
hypothesis tag = cond (eqb tag 0) Usage.Overuse (cond (eqb tag 1) Usage.Normal Usage.Underuse)

abbrev pub state : ℕ → State
state tag = cond (eqb tag 0) S.Increase (cond (eqb tag 1) S.Hold S.Decrease)

-- an average and a group from word i on
abbrev pub moving_average : List ℕ → ℕ → MovingAverage
moving_average w i =
    record { smoothing_factor = float w i; average = option (word w (i + 1)) (float w (i + 2)); variance = float w (i + 3); std = float w (i + 4) }

abbrev pub group : List ℕ → ℕ → Option ArrivalGroup
group w i =
    option (word w i)
    (record {
      first_local_send_time = word w (i + 1);
      first_remote_recv_time = word w (i + 2);
      last_local_send_time = word w (i + 3);
      last_remote_recv_time = word w (i + 4);
    })

-- ---- a link from its words
unfoldable pub acked : List ℕ → AckedBitrateEstimator
acked w =
    record {
      initial_window = word w 1;
      window = word w 2;
      estimate = option (word w 3) (record { 0 = float w 4 });
      estimate_var = float w 5;
      sum = data_size (word w 6);
      current_window = word w 7;
      last_update = option (word w 8) (word w 9);
    }

unfoldable pub groups : List ℕ → ArrivalGroupAccumulator
groups w =
    record {
      send_time_origin = option (word w 10) (word w 11);
      previous_group = group w 12;
      current_group = group w 17;
    }

-- n floats from word i on
unfoldable pub floats : List ℕ → ℕ → ℕ → List Float
floats w i zero = []
floats w i (suc n) = float w i ∷ floats w (suc i) n

unfoldable pub history : List ℕ → History
history w = record { times = floats w 24 20; delays = floats w 44 20; len = word w 64 }

unfoldable pub delays : List ℕ → Delays
delays w =
    record {
      num_delay_variations = word w 65;
      accumulated_delay = float w 66;
      smoothed_delay = float w 67;
      delay_threshold = float w 68;
      previous_trend = float w 69;
    }

unfoldable pub trendline : List ℕ → TrendlineEstimator
trendline w =
    record {
      zero_time = option (word w 22) (word w 23);
      history = history w;
      delays = delays w;
      overuse = option (word w 70) (record { count = word w 71; time_overusing = time_delta (word w 72) (word w 73) });
      last_threshold_update = option (word w 74) (word w 75);
      hypothesis = hypothesis (word w 76);
    }

unfoldable pub rate_control : List ℕ → RateControl
rate_control w =
    record {
      state = state (word w 77);
      estimated_bitrate = record { 0 = float w 78 };
      min_bitrate = record { 0 = float w 79 };
      max_bitrate = record { 0 = float w 80 };
      last_observed_bitrate = option (word w 81) (record { 0 = float w 82 });
      averaged_observed_bitrate = moving_average w 83;
      last_estimate_update = option (word w 88) (word w 89);
      last_rtt = option (word w 90) (word w 91);
    }

unfoldable pub control : List ℕ → DelayController
control w =
    record {
      arrival_group_accumulator = groups w;
      trendline_estimator = trendline w;
      rate_control = rate_control w;
      smoothed_rtt = moving_average w 92;
      next_timeout = word w 97;
      last_twcc_report = option (word w 98) (word w 99);
    }

unfoldable pub of_words : List ℕ → Link
of_words w = record { acked = acked w; control = control w }

-- ---- word 0 and every tag that is read
abbrev tag_within : List ℕ → ℕ → ℕ → Bool
tag_within w i most = leb (word w i) most

abbrev pub formed : List ℕ → Bool
formed w =
    eqb (word w 0) 1
    && tag_within w 3 1
    && tag_within w 8 1
    && tag_within w 10 1
    && tag_within w 12 1
    && tag_within w 17 1
    && tag_within w 22 1
    && tag_within w 70 1
    && (eqb (word w 70) 0 || tag_within w 72 3)
    && tag_within w 74 1
    && tag_within w 76 2
    && tag_within w 77 2
    && tag_within w 81 1
    && tag_within w 84 1
    && tag_within w 88 1
    && tag_within w 90 1
    && tag_within w 93 1
    && tag_within w 98 1

-- ---- words of options and enums; 0 where there is nothing to store
abbrev pub rate_bits : Bitrate → ℕ
rate_bits r = to_bits binary64 r.0

abbrev pub tag : {A : Type 0} → Option A → ℕ
tag None = 0
tag (Some x) = 1

abbrev pub option_words : Option ℕ → List ℕ
option_words o = tag o ∷ unwrap_or o 0 ∷ []

abbrev pub time_tag : TimeDelta → ℕ
time_tag Delta.NegativeInfinity = 0
time_tag (Delta.Negative n) = 1
time_tag (Delta.Positive n) = 2
time_tag Delta.PositiveInfinity = 3

abbrev pub time_ns : TimeDelta → ℕ
time_ns Delta.NegativeInfinity = 0
time_ns (Delta.Negative n) = n
time_ns (Delta.Positive n) = n
time_ns Delta.PositiveInfinity = 0

abbrev pub hypothesis_tag : BandwidthUsage → ℕ
hypothesis_tag Usage.Overuse = 0
hypothesis_tag Usage.Normal = 1
hypothesis_tag Usage.Underuse = 2

abbrev pub state_tag : State → ℕ
state_tag S.Increase = 0
state_tag S.Hold = 1
state_tag S.Decrease = 2

-- an average and a group, each in five words
abbrev pub average_words : MovingAverage → List ℕ
average_words m =
    to_bits binary64 m.smoothing_factor
    ∷ option_words (option_map (to_bits binary64) m.average)
    ++ (to_bits binary64 m.variance ∷ to_bits binary64 m.std ∷ [])

abbrev pub group_times : Option ArrivalGroup → ArrivalGroup
group_times g = unwrap_or g (record { first_local_send_time = 0; first_remote_recv_time = 0; last_local_send_time = 0; last_remote_recv_time = 0 })

abbrev pub group_words : Option ArrivalGroup → List ℕ
group_words g =
    tag g
    ∷ (group_times g).first_local_send_time
    ∷ (group_times g).first_remote_recv_time
    ∷ (group_times g).last_local_send_time
    ∷ (group_times g).last_remote_recv_time
    ∷ []

-- ---- a link's words
-- words 1 to 9
unfoldable pub acked_words : AckedBitrateEstimator → List ℕ
acked_words a =
    a.initial_window
    ∷ a.window
    ∷ option_words (option_map rate_bits a.estimate)
    ++ (to_bits binary64 a.estimate_var ∷ data_size_bits a.sum ∷ a.current_window ∷ option_words a.last_update)

-- words 10 to 21
unfoldable pub groups_words : ArrivalGroupAccumulator → List ℕ
groups_words a = option_words a.send_time_origin ++ group_words a.previous_group ++ group_words a.current_group

-- words 24 to 64
unfoldable pub history_words : History → List ℕ
history_words h = map (to_bits binary64) h.times ++ map (to_bits binary64) h.delays ++ (h.len ∷ [])

-- words 65 to 69
unfoldable pub delays_words : Delays → List ℕ
delays_words d =
    d.num_delay_variations
    ∷ to_bits binary64 d.accumulated_delay
    ∷ to_bits binary64 d.smoothed_delay
    ∷ to_bits binary64 d.delay_threshold
    ∷ to_bits binary64 d.previous_trend
    ∷ []

abbrev pub overuse_values : Option Overuse → Overuse
overuse_values o = unwrap_or o (record { count = 0; time_overusing = Delta.NegativeInfinity })

-- words 70 to 76
unfoldable pub overuse_words : Option Overuse → Option ℕ → BandwidthUsage → List ℕ
overuse_words o last h =
    tag o
    ∷ (overuse_values o).count
    ∷ time_tag (overuse_values o).time_overusing
    ∷ time_ns (overuse_values o).time_overusing
    ∷ option_words last
    ++ (hypothesis_tag h ∷ [])

-- words 22 to 76
unfoldable pub trendline_words : TrendlineEstimator → List ℕ
trendline_words t =
    option_words t.zero_time
    ++ history_words t.history
    ++ delays_words t.delays
    ++ overuse_words t.overuse t.last_threshold_update t.hypothesis

-- words 77 to 91
unfoldable pub rate_control_words : RateControl → List ℕ
rate_control_words c =
    state_tag c.state
    ∷ to_bits binary64 c.estimated_bitrate.0
    ∷ to_bits binary64 c.min_bitrate.0
    ∷ to_bits binary64 c.max_bitrate.0
    ∷ option_words (option_map rate_bits c.last_observed_bitrate)
    ++ average_words c.averaged_observed_bitrate
    ++ option_words c.last_estimate_update
    ++ option_words c.last_rtt

-- words 92 to 99
unfoldable pub round_trip_words : MovingAverage → ℕ → Option ℕ → List ℕ
round_trip_words rtt next last = average_words rtt ++ (next ∷ option_words last)

-- words 10 to 99
unfoldable pub control_words : DelayController → List ℕ
control_words c =
    groups_words c.arrival_group_accumulator
    ++ trendline_words c.trendline_estimator
    ++ rate_control_words c.rate_control
    ++ round_trip_words c.smoothed_rtt c.next_timeout c.last_twcc_report

unfoldable pub to_words : Link → List ℕ
to_words l = 1 ∷ acked_words l.acked ++ control_words l.control

-- the words after a timeout, which changes the rate control and the next timeout only
unfoldable pub timeout_words : DelayController → List ℕ → List ℕ
timeout_words c w = set (sets w 77 (rate_control_words c.rate_control)) 97 c.next_timeout
