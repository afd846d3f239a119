-- The step near convergence that the rows of specs/Rows.antt have is the one that the definition gives.
use Rattle.std.specs.Prelude.{◌≡◌, Bool, true, T, eqb, Float}
use Rattle.std.proofs.Common.{eqb→eq}
use Rattle.std.specs.Float.{binary64}
use Rattle.std.specs.Float.Ieee.{to_bits}
use Rattle.bool_laws.specs.Table.{Member, every, of-every}
use Rattle.float.specs.Float.{helpers}
use Rattle.seconds.specs.Seconds.{as_secs_f64}
use Rattle.bandwidth.specs.Bandwidth as B
use Rattle.rate_control.specs.RateControl.{additive_step, default_backoff_time, estimated_packet_size, response_time}
use Rattle.rate_control.specs.Rows.{Row, rows}

abbrev step_at : Float → Float
step_at e = additive_step (B.rate e) 0 default_backoff_time

abbrev holds : Row → Bool
holds r = eqb (to_bits binary64 (step_at r.estimate)) (to_bits binary64 r.step)

unfoldable stepped : Bool
unfolding rows every to_bits helpers estimated_packet_size response_time as_secs_f64
stepped = true

computed : T (every holds rows)
computed = unfold stepped in tt

pub row-holds : (r : Row) → Member r rows → to_bits binary64 (additive_step (B.rate r.estimate) 0 default_backoff_time) ≡ to_bits binary64 r.step
row-holds r m = eqb→eq (to_bits binary64 (step_at r.estimate)) (to_bits binary64 r.step) (of-every holds r rows computed m)
