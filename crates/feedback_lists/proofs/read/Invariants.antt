use Rattle.std.proofs.Common.{◌-◌}
use Rattle.feedback_lists.specs.Reading.{Reading}
use Rattle.feedback_lists.proofs.read.Given as goal

abbrev pub invariant-loop-packets : goal.invariant-loop-packets
invariant-loop-packets l = Reading l.message l.initial.statuses l.initial.ticks l.initial.cursor l.statuses l.ticks l.packets l.cursor

abbrev pub decreases-loop-packets : goal.decreases-loop-packets
decreases-loop-packets l = l.room - l.packets
