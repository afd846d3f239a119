-- `sqrt::Root::value` meets its contract: a root's pattern is no NaN's.
use Rattle.std.proofs.Common.{sym, ◌∙◌, arith, eqb→eq}
use Rattle.float_order.specs.Order.{is_true}
use Rattle.float_order.specs.Bits.{no-nan-bits}
use Rattle.sqrt.specs.Units.{in_range}
use Rattle.sqrt.proofs.Root.value.Goals as goal

pub float_from_bits-result : goal.float_from_bits-result
float_from_bits-result c = no-nan-bits _ (omega (arith, eqb→eq c.args.c c.args.self.now (is_true _ (sym c.has_bits.ensures.told ∙ c.if-has_bits.true)), c.has_bits.ensures.range.1))

pub float_from_bits-result-2 : goal.float_from_bits-result-2
float_from_bits-result-2 c = no-nan-bits _ (omega (arith, c.root54.ensures, (in_range c.self.inside.big c.self.inside.base c.self.invariant).1))
