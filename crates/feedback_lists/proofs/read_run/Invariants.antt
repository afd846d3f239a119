use Rattle.feedback_lists.specs.Run.{Running}
use Rattle.feedback_lists.proofs.read_run.Given as goal

abbrev pub invariant-loop-i : goal.invariant-loop-i
invariant-loop-i l = Running l.message l.delta l.initial.sum l.initial.statuses l.initial.ticks l.at l.n l.statuses l.ticks l.sum l.i
