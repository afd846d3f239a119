-- The calls at 0 to 19 give the floats.
use borrow.Author.Rules.{rules}
use Rattle.link_words.proofs.Runs.{from-calls}
use Rattle.link_words.proofs.load_floats.Goals as goal

pub returns : goal.returns
returns c = from-calls _ c.args.words.now c.args.at _ (λ i x h k. search rules) _ _ c.from_fn.ensures.items
