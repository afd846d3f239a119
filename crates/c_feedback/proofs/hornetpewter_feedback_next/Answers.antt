-- `c_feedback::hornetpewter_feedback_next` meets its contract: what `read` gives, of the words as they are loaded. How many fits a signed number, since a slice is short.
use Rattle.std.proofs.Common.{◌<◌, ◌^◌, pos, sym, ap, ◌∙◌, arith, w64}
use Rattle.std.proofs.lemmas.Int.{to_z_pos}
use borrow.Author.Rules.{sfits_of}
use Rattle.c_feedback.specs.Laws.{Next, next}
use Rattle.c_feedback.proofs.hornetpewter_feedback_next.Goals as goal
use Rattle.c_feedback.proofs.hornetpewter_feedback_next.Goals.{After-read-packets}

gave :
    (c : After-read-packets) → let a = c.args in
    Next a.statuses.now a.ticks.now a.message.now a.reader.now c.load-cursor.ensures c.read-packets.ensures.value c.read-packets.ensures.cursor_after
gave c = next _ _ _ _ _ _ _

short : (c : After-read-packets) → c.read-packets.result < 2 ^ 63
short c = omega (arith, (gave c).few, c.well_formed.1.1.1.1.0)

pub returns-then-packets-eq0 : goal.returns-then-packets-eq0
returns-then-packets-eq0 c =
    let g = gave (goal.at.returns-then-packets-eq0 c).After-read-packets in
    let none = c.if-packets-eq0.true in
    record {
      value = ap pos (sym none ∙ g.count-is);
      reader_after = g.words-kept none;
      sequence_after = g.sequence-kept none _;
      statuses_after = rw (← g.packets-are) c.read-packets.ensures.statuses_after;
      ticks_after = rw (← g.packets-are) c.read-packets.ensures.ticks_after;
    }

pub overflow_cast-result : goal.overflow_cast-result
overflow_cast-result c = sfits_of (short (goal.at.overflow_cast-result c).After-read-packets)

pub returns : goal.returns
returns c =
    let read = (goal.at.returns c).After-read-packets in
    let g = gave read in
    let some = c.if-packets-eq0.false in
    record {
      value = to_z_pos w64 _ (short read) ∙ ap pos g.count-is;
      reader_after = c.store.ensures ∙ g.words_are some;
      sequence_after = g.sequence-is some _;
      statuses_after = rw (← g.packets-are) c.read-packets.ensures.statuses_after;
      ticks_after = rw (← g.packets-are) c.read-packets.ensures.ticks_after;
    }
