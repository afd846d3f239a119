use Rattle.std.proofs.Common.{◌∙◌}
use Rattle.le_bytes.proofs.Laws.{le-from}
use Rattle.le_bytes.proofs.read_u64.Goals as goal

pub returns : goal.returns
returns c = c.from_le_bytes.ensures ∙ le-from c.args.s.now c.read_bytes.result 7 c.args.at c.read_bytes.ensures.bytes
