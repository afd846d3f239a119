-- What is left of the packets gives what all of them give.
use Rattle.std.proofs.lemmas.List.{length_push}
use Rattle.std.proofs.lemmas.Slice.Zip.{zip_turn, zip_end}
use Rattle.control.specs.Control.{add_rtt}
use Rattle.control.proofs.Laws.{fold-turn, fold_end}
use Rattle.control.proofs.max_rtt.Goals as goal

pub loop-send-preserved : goal.loop-send-preserved
loop-send-preserved c =
    let l = c.loop-send in
    let z = zip_turn c.args.local_send_times.now c.args.local_recv_times.now l.yielded c.into_iter-send-iterator.result l.send-iterator c.next.new.self c.next.result (cc) (cc) l.yielded_by _ c.in-Some.is c.next.ensures.steps in
    ((tt, tt), tt, rw length_push (fold-turn add_rtt _ _ _ l.invariant.2 z (simp (c.longest-max_rtt.ensures, c.saturating_sub.ensures))))

pub returns : goal.returns
returns c =
    let l = c.loop-send in
    fold_end add_rtt _ _ _ l.invariant.2 (zip_end c.args.local_send_times.now c.args.local_recv_times.now l.yielded c.into_iter-send-iterator.result l.send-iterator c.next.new.self c.next.result (cc) (cc) l.yielded_by c.in-None.is c.next.ensures.steps)
