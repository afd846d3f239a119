-- `feedback_lists::read` meets its contract. The loop's invariant: what is left to hand out, handed out too, gives the whole.
use Rattle.std.proofs.Common.{ap, ◌∙◌, arith, to_z-of_z, w32}
use Rattle.std.specs.Int.{from_bool}
use borrow.Author.Rules.{sfits_of}
use Rattle.feedback_lists.specs.Reading.{reading-more, reading-run, reading-full, reading-end}
use Rattle.feedback_lists.proofs.read.Goals as goal

pub loop-packets-preserved-then-n-gt0 : goal.loop-packets-preserved-then-n-gt0
loop-packets-preserved-then-n-gt0 c =
    let v = c.loop-packets.invariant in
    let read = c.read_run.ensures in
    reading-run _ _ _ _ c.run_at_hand-n.result _ c.run_at_hand-n.ensures v (omega (arith, c.run_at_hand-n.ensures.room, c.min-room.ensures)) c.if-n-gt0.true
    read.statuses_after read.ticks_after read.cursor_after

pub returns-in_default : goal.returns-in_default
returns-in_default c =
    let e = reading-end _ _ _ _ c.loop-packets.invariant c.step.ensures c.in_default.is in
    record { value = e.0.answer; cursor_after = e.1; statuses_after = e.0.statuses-end; ticks_after = e.0.ticks-end }

pub loop-packets-preserved : goal.loop-packets-preserved
loop-packets-preserved c =
    reading-more _ _ _ _ c.loop-packets.invariant (omega (arith, c.min-room.ensures)) c.step.ensures c.in-Some.is (c.from.ensures ∙ ap from_bool c.is_some.ensures)
    (to_z-of_z (sfits_of {w = w32} {z = c.unwrap_or.result} c.unwrap_or.type_inv) ∙ c.unwrap_or.ensures)

pub returns : goal.returns
returns c =
    let e = reading-full _ _ _ _ c.loop-packets.invariant (omega (arith, c.min-room.ensures)) in
    record { value = e.answer; cursor_after = e.cursor-end; statuses_after = e.statuses-end; ticks_after = e.ticks-end }
