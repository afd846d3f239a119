-- Worked examples: windows of 500 and 150 ms, and packets of 1,000 bytes.
use Rattle.std.specs.Prelude.{◌≡◌, ℕ, ◌*◌, Bool, true, pos, None}
use Rattle.std.proofs.Math.Path.{refl}
use Rattle.float_order.specs.Interval.{floats}
use Rattle.seconds.specs.Seconds.{as_secs_f64}
use Rattle.bandwidth.specs.Bandwidth as B
use Rattle.time.specs.Time.{saturating_add}
use Rattle.acked_bitrate_estimator.specs.declared.AckedBitrateEstimator.{AckedBitrateEstimator}
use Rattle.acked_bitrate_estimator.specs.AckedBitrateEstimator.{new, remaining, advance, sample, with_packet, with_sample, window_length, filled, update}

abbrev ms : ℕ → ℕ
ms n = n * 1_000_000

abbrev fresh : AckedBitrateEstimator
fresh = new (ms 500) (ms 150)

abbrev received : AckedBitrateEstimator → ℕ → AckedBitrateEstimator
received a n = update a (ms n) (B.bytes (pos 1000))

-- what an example computes through
unfoldable steps : Bool
unfolding update filled with_packet with_sample sample advance remaining window_length saturating_add B.saturated B.per_secs as_secs_f64 floats
steps = true

-- packets at 0 and 500 ms only: no sample
pub no-estimate : (received (received fresh 0) 500).estimate ≡ None
no-estimate = unfold steps in refl
