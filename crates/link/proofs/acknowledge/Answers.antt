-- What is left of the packets gives what all of them give.
use Rattle.std.proofs.lemmas.List.{length_push}
use Rattle.std.proofs.lemmas.Slice.Zip.{zip_turn, zip_end}
use Rattle.link.proofs.Laws.{acknowledged-more, acknowledged-none, acknowledged-end}
use Rattle.link.proofs.acknowledge.Goals as goal

pub returns-then-not-bytes_in : goal.returns-then-not-bytes_in
returns-then-not-bytes_in c =
    let l = c.loop-remote in
    let z = zip_turn c.args.remotes.now c.args.sizes.now l.yielded c.into_iter-remote-iterator.result l.remote-iterator c.next.new.self c.next.result (cc) (cc) l.yielded_by _ c.in-Some.is c.next.ensures.steps in
    acknowledged-none _ _ _ l.invariant.2 z.0 z.1 (z.2 0) (z.3 0) c.data_size.ensures c.update-acked.ensures c.bytes_in.ensures c.if-not-bytes_in.true

pub loop-remote-preserved : goal.loop-remote-preserved
loop-remote-preserved c =
    let l = c.loop-remote in
    let z = zip_turn c.args.remotes.now c.args.sizes.now l.yielded c.into_iter-remote-iterator.result l.remote-iterator c.next.new.self c.next.result (cc) (cc) l.yielded_by _ c.in-Some.is c.next.ensures.steps in
    ((tt, tt), tt, rw length_push (acknowledged-more _ _ _ l.invariant.2 z.0 z.1 (z.2 0) (z.3 0) c.data_size.ensures c.update-acked.ensures c.bytes_in.ensures c.if-not-bytes_in.false))

pub returns : goal.returns
returns c =
    let l = c.loop-remote in
    acknowledged-end _ _ l.invariant.2 (zip_end c.args.remotes.now c.args.sizes.now l.yielded c.into_iter-remote-iterator.result l.remote-iterator c.next.new.self c.next.result (cc) (cc) l.yielded_by c.in-None.is c.next.ensures.steps)
