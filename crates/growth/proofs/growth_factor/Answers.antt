-- `growth::growth_factor` meets its contract: the table passes the test, which is computed.
use Rattle.growth.specs.declared.TheConstants.{FACTORS}
use Rattle.growth.proofs.Table.{factor, no_nan, right}
use Rattle.growth.proofs.growth_factor.Goals as goal

pub float_from_bits-result : goal.float_from_bits-result
unfolding right
float_from_bits-result c = no_nan FACTORS tt c.args.ms c.min.result c.min.ensures

pub returns : goal.returns
unfolding right
returns c = factor FACTORS tt c.args.ms c.min.result c.min.ensures
