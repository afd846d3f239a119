-- `feedback_lists::read_run` meets its contract. The loop's invariant: what is left to hand out, handed out too, gives the whole.
use Rattle.std.proofs.Common.{◌∙◌, arith, to_z-of_z, w32}
use borrow.Author.Rules.{sfits_of}
use Rattle.twcc.specs.Numbers.{cast-signed}
use Rattle.feedback_lists.specs.Run.{running_more, running-all}
use Rattle.feedback_lists.proofs.read_run.Goals as goal

pub loop-i-preserved : goal.loop-i-preserved
loop-i-preserved c =
    running_more _ _ _ _ _ _ _ c.loop-i.invariant c.loop-i-test.true (rw c.from-sum.ensures)
    (to_z-of_z (sfits_of {w = w32} {z = c.cast_signed.result} c.cast_signed.type_inv) ∙ c.cast_signed.ensures ∙ cast-signed _ (omega arith))

pub returns : goal.returns
returns c =
    let e = running-all _ _ _ _ _ _ _ c.loop-i.invariant (omega arith) in
    record { cursor_after = rw e.sum-end; statuses_after = e.statuses-end; ticks_after = e.ticks-end }
