-- The result is the definition.
use borrow.Author.Rules.{rules}
use lib.Ieee.{of_bits}
use Rattle.seconds.specs.Seconds.{as_secs_f64}
use Rattle.seconds.proofs.as_secs_f64.Goals as goal

pub returns : goal.returns
unfolding as_secs_f64 of_bits
returns c = search rules
