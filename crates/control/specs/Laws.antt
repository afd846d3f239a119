-- Laws of the delay controller: the next timeout, a probe's estimate, what a call leaves as it was, and the range of the smoothed round trip.
use Rattle.std.specs.Prelude.{ℕ, ◌/◌, ◌%◌, ◌^◌, ◌≤◌, ◌≡◌, List, [], ◌∷◌, T, ltb, Float, pos, Option, Some, None}
use Rattle.std.proofs.Common.{arith}
use Rattle.std.proofs.Math.Path.{refl}
use Rattle.std.specs.Float.Ieee.{binary64, div, fits, of_int}
use Rattle.std.specs.Float.Ieee.Fits.{add-fits}
use Rattle.std.specs.Float.Ieee.Bits.{of_bits-fits}
use Rattle.float_order.specs.Binary64.{lit, decimal}
use Rattle.float_order.specs.Range.{in-wider, in-closed}
use Rattle.float_order.specs.Interval.{floats}
use Rattle.bool_laws.specs.Bools.{chosen}
use Rattle.seconds.specs.Seconds.{as_secs_f64}
use Rattle.seconds.specs.Laws.{secs-in}
use Rattle.average.specs.Laws as Average
use Rattle.average.specs.declared.MovingAverage.{MovingAverage}
use Rattle.bandwidth.specs.Bandwidth as B
use Rattle.bandwidth.specs.declared.Bitrate.{Bitrate}
use Rattle.time.specs.Time.{longest, saturating_add}
use Rattle.rate_control.specs.RateControl as RateControl
use Rattle.control.specs.declared.DelayController.{DelayController}
use Rattle.control.specs.Control.{
  fold,
  handle_timeout,
  max_rtt,
  rtt_smoothing_factor,
  trendline_hypothesis_valid,
  update,
  update_estimate,
  update_interval,
  update_rtt,
  wait,
  with_packets,
  with_rate,
}

pub wait-le : (c : DelayController) → wait c ≤ update_interval
unfolding wait
wait-le c = omega arith

-- ---- a report's packets: what each pair of instants, at most n, keeps, the fold keeps
abbrev pub Instants : ℕ → List ℕ → List ℕ → Type 0
Instants n [] ys = Unit {0}
Instants n (x ∷ xs) [] = Unit {0}
Instants n (x ∷ xs) (y ∷ ys) = (x ≤ n) × (y ≤ n) × Instants n xs ys

pub fold-keeps : {S : Type 0} {f : S → ℕ → ℕ → S} {n : ℕ} (P : S → Type 0) → ((s : S) (x y : ℕ) → P s → x ≤ n → y ≤ n → P (f s x y)) → {s : S} (xs ys : List ℕ) → Instants n xs ys → P s → P (fold f s xs ys)
unfolding fold
fold-keeps P k [] ys h p = p
fold-keeps P k (x ∷ xs) [] h p = p
fold-keeps P k {s} (x ∷ xs) (y ∷ ys) h p = fold-keeps P k xs ys h.2 (k s x y p h.0 h.1)

-- ---- a report
module _ (c : DelayController) (sends remotes receives : List ℕ) (acked : Option Bitrate) (now : ℕ) where
  pub update-timeout : (probe : Option Bitrate) → (update c sends remotes receives acked probe now).next_timeout ≡ saturating_add now update_interval
  unfolding update update_estimate with_rate
  update-timeout probe = refl

  -- a probe's result, held to the limits, whatever the packets say
  pub update-probe : (p : Bitrate)
      → (update c sends remotes receives acked (Some p) now).rate_control.estimated_bitrate ≡ B.clamp p c.rate_control.min_bitrate c.rate_control.max_bitrate
  unfolding update update_estimate with_rate with_packets RateControl.set_probe_result RateControl.update_estimate RateControl.with_estimate
  update-probe p = refl

-- ---- what is left as it was: groups, trendline and smoothed round trip
pub record Unmeasured (before after : DelayController) : Type 0 where
  pub groups : after.arrival_group_accumulator ≡ before.arrival_group_accumulator
  pub trendline : after.trendline_estimator ≡ before.trendline_estimator
  pub smoothed : after.smoothed_rtt ≡ before.smoothed_rtt

-- a report of no packets measures nothing
pub update-none : (c : DelayController) (remotes receives : List ℕ) (acked probe : Option Bitrate) (now : ℕ) → Unmeasured c (update c [] remotes receives acked probe now)
unfolding update update_estimate with_rate with_packets fold update_rtt
update-none c remotes receives acked probe now = record { groups = refl; trendline = refl; smoothed = refl }

-- ---- a timeout measures nothing, is no report, and asks for the next one within 25 ms
module _ (c : DelayController) (acked : Option Bitrate) (now : ℕ) where
  pub timeout-none : Unmeasured c (handle_timeout c acked now)
  unfolding handle_timeout update_estimate with_rate
  timeout-none = chosen (Unmeasured c) (trendline_hypothesis_valid c now) (record { groups = refl; trendline = refl; smoothed = refl }) (record { groups = refl; trendline = refl; smoothed = refl })

  pub timeout-report : (handle_timeout c acked now).last_twcc_report ≡ c.last_twcc_report
  unfolding handle_timeout update_estimate with_rate
  timeout-report = chosen (λ (a : DelayController). a.last_twcc_report ≡ c.last_twcc_report) (trendline_hypothesis_valid c now) refl refl

  pub timeout-timeout : (handle_timeout c acked now).next_timeout ≤ saturating_add now update_interval
  unfolding handle_timeout update_estimate with_rate saturating_add
  timeout-timeout =
      chosen (λ (a : DelayController). a.next_timeout ≤ saturating_add now update_interval) (trendline_hypothesis_valid c now) (omega arith) (omega (arith, wait-le c))

-- ---- the smoothed round trip
abbrev pub AtMost : ℕ → Option ℕ → Type 0
AtMost n None = Unit {0}
AtMost n (Some d) = d ≤ n

pub longest-most : {n rtt : ℕ} (d : Option ℕ) → AtMost n d → rtt ≤ n → AtMost n (longest d rtt)
unfolding longest
longest-most None h k = k
longest-most {n} {rtt} (Some d) h k = chosen (λ x. x ≤ n) (ltb d rtt) k h

pub max-rtt-most : (n : ℕ) (sends receives : List ℕ) → Instants n sends receives → AtMost n (max_rtt sends receives)
max-rtt-most n sends receives h = fold-keeps (AtMost n) (λ d s l g i j. longest-most d g (omega arith)) sends receives h tt

-- 10 ^ 9 seconds
abbrev pub most_round_trip : Float
most_round_trip = lit 0x41cd_cd65_0000_0000

pub most_round_trip-is : most_round_trip ≡ decimal (10 ^ 9) 1
most_round_trip-is = unfold floats in refl

trips : Average.Limits rtt_smoothing_factor most_round_trip
trips = record { factor-in = in-closed (unfold floats in tt); limit-in = in-closed (unfold floats in tt); limit-fits = of_bits-fits binary64 _ }

abbrev pub KeptRtt : MovingAverage → Type 0
KeptRtt m = Average.Kept rtt_smoothing_factor most_round_trip m

pub secs-fits : (n : ℕ) → T (fits binary64 (as_secs_f64 n))
unfolding as_secs_f64
secs-fits n = add-fits binary64 (of_int binary64 (pos (n / 10 ^ 9))) (div binary64 (of_int binary64 (pos (n % 10 ^ 9))) (of_int binary64 (pos (10 ^ 9))))

-- of round trips to 10 ^ 18 ns the smoothed one stays from 0 to 10 ^ 9 seconds, and its variance in range
pub update-rtt-kept : {m : MovingAverage} (d : Option ℕ) → AtMost (10 ^ 18) d → KeptRtt m → KeptRtt (update_rtt m d)
unfolding update_rtt
update-rtt-kept None h k = k
update-rtt-kept (Some d) h k =
    Average.update-kept trips (in-wider (secs-in d (10 ^ 18) h (omega arith)) (unfold as_secs_f64 floats in tt)) (secs-fits d) k

pub update-kept : (c : DelayController) (sends remotes receives : List ℕ) (acked probe : Option Bitrate) (now : ℕ) → Instants (10 ^ 18) sends receives → KeptRtt c.smoothed_rtt
    → KeptRtt (update c sends remotes receives acked probe now).smoothed_rtt
unfolding update update_estimate with_rate with_packets
update-kept c sends remotes receives acked probe now h k =
    update-rtt-kept (max_rtt sends receives) (max-rtt-most (10 ^ 18) sends receives h) k
