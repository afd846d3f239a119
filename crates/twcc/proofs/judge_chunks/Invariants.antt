use Prim.Native.Nat.{◌+◌, ◌*◌, ◌-◌, ◌≤◌}
use mathlib.Core.Path.{◌≡◌}
use lib.ListN.{length, drop}
use Rattle.twcc.specs.Feedback.{header_bytes}
use Rattle.twcc.specs.Judging.{chunks_from}
use Rattle.twcc.proofs.judge_chunks.Given as goal

abbrev pub invariant-loop-left : goal.invariant-loop-left
invariant-loop-left l =
    (l.at ≤ length l.message) × ((l.bytes + 3 * l.left ≤ 3 * 65535) × (chunks_from l.at l.bytes (drop l.at l.message) l.left ≡ chunks_from header_bytes 0 (drop header_bytes l.message) l.count))

abbrev pub decreases-loop-left : goal.decreases-loop-left
decreases-loop-left l = length l.message - l.at
