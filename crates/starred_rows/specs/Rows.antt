-- The 13 starred rows of document 01 as one table. Each has the answer that the definitions give: proofs/Rows.antt.
use Rattle.bandwidth.specs.declared.Bitrate.{Bitrate}
use Rattle.std.specs.Prelude.{ℕ, ◌*◌, ◌^◌, ◌/◌, cond, List, [], ◌∷◌, pos, Option, Some, None}
use Rattle.std.specs.Float.{binary64}
use Rattle.std.specs.Float.Ieee.{of_int, to_bits}
use Rattle.float_order.specs.Binary64.{lit}
use Rattle.sqrt.specs.Sqrt.{sqrt}
use Rattle.growth.specs.Growth.{growth_factor}
use Rattle.bandwidth.specs.Bandwidth as B
use Rattle.bandwidth.specs.declared.BandwidthUsage.{BandwidthUsage}
use Rattle.bandwidth.specs.declared.BandwidthUsage.TheVariants.{Overuse, Normal}
use Rattle.acked_bitrate_estimator.specs.AckedBitrateEstimator as Acked
use Rattle.acked_bitrate_estimator.specs.declared.AckedBitrateEstimator.{AckedBitrateEstimator}
use Rattle.acked_bitrate_estimator.specs.declared.Sample.{Sample}
use Rattle.arrival_group.specs.ArrivalGroup.{rounded}
use Rattle.trendline.specs.Trendline as Trendline
use Rattle.trendline.specs.Trendline.{threshold, new_delays}
use Rattle.rate_control.specs.RateControl as R
use Rattle.control.specs.Control as Control
use Rattle.control.specs.Control.{update_estimate}
use Rattle.control.specs.declared.DelayController.{DelayController}

-- ---- questions, and what the definitions answer: a float by its bits
-- an acknowledged rate, in bps, and when it comes, in ms
pub record Observed : Type 0 where
  pub bps : ℕ
  pub ms : ℕ

abbrev pub at : ℕ → ℕ → Observed
at ms bps = record { bps = bps; ms = ms }

pub data Question : Type 0 where
  -- the estimate of a fresh link at 1,000,000 bps, under a hypothesis, after acknowledged rates
  estimate : BandwidthUsage → List Observed → Question
  -- the rate up to which an increase goes on at all, of an acknowledged rate
  limit : ℕ → Question
  -- ms of a send time of so many µs after the first packet's
  rounded_ms : ℕ → Question
  -- windows 500 and 150, packets of 1,000 bytes at 0, 499 and 500 ms: the acknowledged rate, and whether the sample is small
  acked_rate : Question
  acked_small : Question
  -- the threshold of 12.5 ms after a trend of 0 and so many ms
  threshold_after : ℕ → Question
  root : ℕ → Question
  factor : ℕ → Question

abbrev pub ms : ℕ → ℕ
ms n = n * 10 ^ 6

-- a fresh link's delay controller, with a hypothesis
abbrev pub fresh : BandwidthUsage → DelayController
fresh h =
    let c = Control.new (B.bps 1000000) in
    let t = Trendline.new in
    record {
      arrival_group_accumulator = c.arrival_group_accumulator;
      trendline_estimator =
          record {
            zero_time = t.zero_time;
            history = t.history;
            delays = t.delays;
            overuse = t.overuse;
            last_threshold_update = t.last_threshold_update;
            hypothesis = h;
          };
      rate_control = c.rate_control;
      smoothed_rtt = c.smoothed_rtt;
      next_timeout = c.next_timeout;
      last_twcc_report = c.last_twcc_report;
    }

unfoldable pub after : DelayController → List Observed → DelayController
after c [] = c
after c (u ∷ us) = after (update_estimate c (Some (B.bps u.bps)) None (ms u.ms)) us

abbrev pub received : AckedBitrateEstimator → ℕ → AckedBitrateEstimator
received a n = Acked.update a (ms n) (B.bytes (pos 1000))

abbrev pub received499 : AckedBitrateEstimator
received499 = received (received (Acked.new (ms 500) (ms 150)) 0) 499

abbrev pub small : Option Sample → ℕ
small None = 2
small (Some s) = cond s.is_small 1 0

abbrev pub bits_of : Option Bitrate → ℕ
bits_of None = 0
bits_of (Some r) = to_bits binary64 r.0

unfoldable pub answer : Question → ℕ
answer (estimate h us) = to_bits binary64 (after (fresh h) us).rate_control.estimated_bitrate.0
answer (limit bps) = to_bits binary64 (R.increase_limit (B.bps bps).0)
answer (rounded_ms µs) = rounded 0 (µs * 1000) / 10 ^ 6
answer acked_rate = bits_of (received received499 500).estimate
answer acked_small = small (Acked.sample (Acked.advance (Acked.current_window received499) (ms 1) (ms 500)) (ms 500))
answer (threshold_after n) = to_bits binary64 (threshold new_delays (lit 0) (ms n))
answer (root n) = to_bits binary64 (sqrt (of_int binary64 (pos n)))
answer (factor i) = to_bits binary64 (growth_factor i)

-- ---- the table: as document 01 has it. Order 3 of document 02 moves no row, since none is near convergence
pub record Row : Type 0 where
  pub question : Question
  pub gives : ℕ

abbrev pub row : Question → ℕ → Row
row q n = record { question = q; gives = n }

-- a whole number's bits
abbrev pub whole : ℕ → ℕ
whole n = to_bits binary64 (of_int binary64 (pos n))

unfoldable pub rows : List Row
rows =
    row (estimate Normal (at 0 600000 ∷ [])) (whole 1000000)
    ∷ row (estimate Normal (at 0 660000 ∷ [])) (whole 1000000)
    ∷ row (limit 660000) (whole 1000000)
    ∷ row (estimate Normal (at 0 661000 ∷ [])) (whole 991500)
    ∷ row (estimate Normal (at 0 1000000 ∷ [])) (whole 1001000)
    ∷ row (estimate Overuse (at 0 1000000 ∷ [])) (whole 850000)
    ∷ row (estimate Overuse (at 0 1000000 ∷ at 5 425000 ∷ [])) (whole 850000)
    -- 424,999 × 0.85, rounded
    ∷ row (estimate Overuse (at 0 1000000 ∷ at 5 424999 ∷ [])) 0x4116_0c84_9999_9999
    ∷ row (estimate Overuse (at 0 40000 ∷ [])) (whole 40000)
    ∷ row (rounded_ms 499) 0
    ∷ row (rounded_ms 500) 1
    ∷ row acked_rate (whole 32000)
    ∷ row acked_small 0
    ∷ row (threshold_after 100) (whole 6)
    ∷ row (root 2) 0x3ff6_a09e_667f_3bcd
    ∷ row (factor 0) (whole 1)
    ∷ row (factor 1000) 0x3ff1_47ae_147a_e148
    ∷ []
