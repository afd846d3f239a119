use Rattle.std.proofs.Common.{◌≡◌, length, drop}
use Rattle.control.specs.Control.{add_packet, add_packets, fold}
use Rattle.control.proofs.DelayDetector.add_packets.Given as goal

abbrev pub invariant-loop-send : goal.invariant-loop-send
invariant-loop-send l =
    (goal.iterator-loop-send).can_next l.send-iterator × (goal.iterator-loop-send).is_finite l.send-iterator
    × (fold add_packet record { arrival_group_accumulator = l.accumulator; trendline_estimator = l.trendline } (drop (length l.yielded) l.local_send_times) (drop (length l.yielded) l.remote_recv_times)
    ≡ add_packets record { arrival_group_accumulator = l.initial.accumulator; trendline_estimator = l.initial.trendline } l.local_send_times l.remote_recv_times)
