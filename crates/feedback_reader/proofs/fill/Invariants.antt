use Rattle.std.proofs.Common.{◌≡◌, ◌-◌, length, drop}
use Rattle.feedback_reader.specs.Reader.{filled}
use Rattle.feedback_reader.proofs.fill.Given as goal

abbrev pub invariant-loop-place : goal.invariant-loop-place
invariant-loop-place l = filled (drop l.place.next_chunk l.message) l.place ≡ filled (drop l.fn.at_hand.next_chunk l.message) l.fn.at_hand

abbrev pub decreases-loop-place : goal.decreases-loop-place
decreases-loop-place l = length l.message - l.place.next_chunk
