-- `twcc::judge_chunks` meets its contract. The loop's invariant: what the chunks from here on say, after the deltas counted, is what all of them say.
use Prim.Native.Nat.{◌+◌, ◌≤◌}
use mathlib.Core.Path.{◌≡◌, refl, sym, ◌∙◌}
use native.Mathlib.Omega.{arith}
use lib.ListN.{length}
use Rattle.twcc.specs.Judging.{reserved-at, chunks-end}
use Rattle.twcc.proofs.judge_chunks.Goals as goal
use Rattle.twcc.proofs.judge_chunks.Goals.{After-read_u16-chunk}

there : (c : After-read_u16-chunk) → c.loop-left.at + 2 ≤ length c.args.message.now
there c = omega arith

pub returns-then-any_reserved : goal.returns-then-any_reserved
returns-then-any_reserved c =
    reserved-at _ _ _ _ _ _ (there (goal.at.returns-then-any_reserved c).After-read_u16-chunk) c.read_u16-chunk.ensures refl c.loop-left.invariant.1.1
    (sym c.any_reserved.ensures ∙ c.if-any_reserved.true)

pub returns : goal.returns
returns c = let z : c.loop-left.left ≡ 0 = omega arith in chunks-end _ _ _ ∙ (rw z at c.loop-left.invariant.1.1)
