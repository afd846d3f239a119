use Rattle.std.proofs.Common.{◌∙◌}
use Rattle.le_bytes.proofs.Laws.{le-from}
use Rattle.le_bytes.proofs.read_u16.Goals as goal

pub returns : goal.returns
returns c = c.from_le_bytes.ensures ∙ le-from c.args.s.now c.read_bytes.result 1 c.args.at c.read_bytes.ensures.bytes
