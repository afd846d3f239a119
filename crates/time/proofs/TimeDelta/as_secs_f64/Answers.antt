-- The bits of f64's infinities.
use Rattle.time.specs.Time.{as_secs_f64, secs_limited}
use lib.Ieee.{of_bits}
use Rattle.time.proofs.TimeDelta.as_secs_f64.Goals as goal

pub returns-in-NegativeInfinity : goal.returns-in-NegativeInfinity
unfolding as_secs_f64 secs_limited of_bits
returns-in-NegativeInfinity c = simp (c.in-NegativeInfinity.is, ← c.limited.ensures)

pub returns-in-PositiveInfinity : goal.returns-in-PositiveInfinity
unfolding as_secs_f64 secs_limited of_bits
returns-in-PositiveInfinity c = simp (c.in-PositiveInfinity.is, ← c.limited.ensures)
