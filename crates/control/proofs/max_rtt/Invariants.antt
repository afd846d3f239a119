use Rattle.std.proofs.Common.{◌≡◌, length, drop}
use Rattle.control.specs.Control.{add_rtt, fold, max_rtt}
use Rattle.control.proofs.max_rtt.Given as goal

abbrev pub invariant-loop-send : goal.invariant-loop-send
invariant-loop-send l =
    (goal.iterator-loop-send).can_next l.send-iterator × (goal.iterator-loop-send).is_finite l.send-iterator
    × (fold add_rtt l.max_rtt (drop (length l.yielded) l.local_send_times) (drop (length l.yielded) l.local_recv_times) ≡ max_rtt l.local_send_times l.local_recv_times)
