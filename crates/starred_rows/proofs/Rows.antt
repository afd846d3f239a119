-- The theorem over the rows of specs/Rows.antt: each has the answer that the definitions give.
use Rattle.std.specs.Prelude.{ℕ, ◌≡◌, refl, Bool, true, List, ◌++◌, T, eqb, take, drop}
use Rattle.std.proofs.Common.{eqb→eq}
use Rattle.std.specs.Float.Ieee.{to_bits}
use Rattle.bool_laws.specs.Table.{Member, every, of-every, joined}
use Rattle.float.specs.Float.{helpers}
use Rattle.sqrt.specs.Sqrt.{sqrt}
use Rattle.seconds.specs.Seconds.{as_secs_f64}
use Rattle.growth.specs.Growth.{growth_factor, growth}
use Rattle.average.specs.Average as Average
use Rattle.bandwidth.specs.Bandwidth as B
use Rattle.time.specs.Time.{saturating_add}
use Rattle.acked_bitrate_estimator.specs.AckedBitrateEstimator as Acked
use Rattle.arrival_group.specs.ArrivalGroup.{rounded}
use Rattle.trendline.specs.Trendline.{threshold}
use Rattle.rate_control.specs.RateControl as R
use Rattle.control.specs.Control as Control
use Rattle.control.specs.Control.{update_estimate, with_rate, get_smoothed_rtt}
use Rattle.starred_rows.specs.Rows.{answer, rows, Row, after}

abbrev holds : Row → Bool
holds r = eqb (answer r.question) r.gives

-- what a row computes through
unfoldable steps : Bool
unfolding rows every answer after to_bits update_estimate with_rate get_smoothed_rtt Control.new R.signal R.update R.with_inputs R.transition R.with_average R.with_state R.with_estimate R.update_estimate R.increase R.reset_above R.raised R.is_near_convergence R.multiplicative_increase R.decrease R.update_observed_bitrate R.reset_below R.time_to_reduce_further R.reduction_interval growth_factor growth Average.update Average.upper_range Average.lower_range Average.within_std B.clamp Acked.update Acked.filled Acked.with_packet Acked.with_sample Acked.sample Acked.advance Acked.remaining Acked.window_length saturating_add B.saturated B.per_secs as_secs_f64 rounded threshold sqrt helpers
steps = true

-- a growth factor takes a quarter of what one declaration may compute, so the table is computed in four parts
unfoldable part : ℕ → ℕ → List Row
unfolding rows
part from n = take n (drop from rows)

part-1 : T (every holds (part 0 4))
part-1 = unfold steps part in tt

part-2 : T (every holds (part 4 5))
part-2 = unfold steps part in tt

part-3 : T (every holds (part 9 7))
part-3 = unfold steps part in tt

part-4 : T (every holds (part 16 1))
part-4 = unfold steps part in tt

computed : T (every holds (part 0 4 ++ (part 4 5 ++ (part 9 7 ++ part 16 1))))
computed = joined holds (part 0 4) (part 4 5 ++ (part 9 7 ++ part 16 1)) part-1 (joined holds (part 4 5) (part 9 7 ++ part 16 1) part-2 (joined holds (part 9 7) (part 16 1) part-3 part-4))

parts : rows ≡ part 0 4 ++ (part 4 5 ++ (part 9 7 ++ part 16 1))
unfolding rows part
parts = refl

pub row-holds : (r : Row) → Member r rows → answer r.question ≡ r.gives
row-holds r m = eqb→eq (answer r.question) r.gives (of-every holds r rows (rw parts computed) m)
