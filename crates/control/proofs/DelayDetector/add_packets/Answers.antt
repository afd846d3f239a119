-- What is left of the packets gives what all of them give.
use Rattle.std.proofs.lemmas.List.{length_push}
use Rattle.std.proofs.lemmas.Slice.Zip.{zip_turn, zip_end}
use Rattle.control.specs.Control.{add_packet}
use Rattle.control.proofs.Laws.{fold-turn, fold_end}
use Rattle.control.proofs.DelayDetector.add_packets.Goals as goal

pub loop-send-preserved-in-Some-delta : goal.loop-send-preserved-in-Some-delta
loop-send-preserved-in-Some-delta c =
    let l = c.loop-send in
    let z = zip_turn c.args.local_send_times.now c.args.remote_recv_times.now l.yielded c.into_iter-send-iterator.result l.send-iterator c.next.new.self c.next.result (cc) (cc) l.yielded_by _ c.in-Some.is c.next.ensures.steps in
    ((tt, tt), tt, rw length_push (fold-turn add_packet _ _ _ l.invariant.2 z (simp (c.add_delay_observation-trendline.ensures, c.groups_anew-accumulator.ensures, ← c.accumulate_packet-done.ensures, c.in-Some-delta.is))))

pub loop-send-preserved : goal.loop-send-preserved
loop-send-preserved c =
    let l = c.loop-send in
    let z = zip_turn c.args.local_send_times.now c.args.remote_recv_times.now l.yielded c.into_iter-send-iterator.result l.send-iterator c.next.new.self c.next.result (cc) (cc) l.yielded_by _ c.in-Some.is c.next.ensures.steps in
    ((tt, tt), tt, rw length_push (fold-turn add_packet _ _ _ l.invariant.2 z (simp (c.groups_anew-accumulator.ensures, ← c.accumulate_packet-done.ensures, c.in_default.is))))

pub returns : goal.returns
returns c =
    let l = c.loop-send in
    fold_end add_packet _ _ _ l.invariant.2 (zip_end c.args.local_send_times.now c.args.remote_recv_times.now l.yielded c.into_iter-send-iterator.result l.send-iterator c.next.new.self c.next.result (cc) (cc) l.yielded_by c.in-None.is c.next.ensures.steps)
