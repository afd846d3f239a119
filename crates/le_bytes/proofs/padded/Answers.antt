use Rattle.std.proofs.Common.{rules}
use Rattle.le_bytes.proofs.Laws.{padded-is, from-calls}
use Rattle.le_bytes.proofs.padded.Goals as goal

pub returns : goal.returns
returns g c =
    padded-is c.args.s.now c.from_fn.result g.row.N c.requires c.from_fn.ensures.items.long
    (from-calls _ c.args.s.now _ (λ i x h k. search rules) c.from_fn.result g.row.N c.from_fn.ensures.items)
