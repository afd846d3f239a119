-- A read's bytes come behind those that were there.
use Rattle.std.proofs.Common.{◌≡◌, ℕ, List, ◌-◌, ◌≤◌, length, length-append, length-take, length-drop, arith}
use Rattle.reading.proofs.Reading.{Consumes-trans, take-put_mid_within}
use Rattle.reading.proofs.read_full.Goals as goal

pub loop-done-preserved : goal.loop-done-preserved
loop-done-preserved g c =
    let l = c.loop-done in
    let bytes : List ℕ = c.read.new.buf in
    let n = c.in_ok-n.n in
    let room : length bytes ≡ length l.bytes - l.done = omega arith in
    let few : n ≤ length bytes = c.in_ok-n.ensures.bound.0 in (
      simp (length-append, length-take, length-drop) (omega arith),
      simp (length-append, length-take, length-drop) (omega arith),
      rw (take-put_mid_within l.done (length l.bytes - l.done) n l.bytes bytes (omega arith) few)
          (Consumes-trans _ _ _ _ _ l.invariant.2 c.in_ok-n.ensures.bytes.0),
    )
