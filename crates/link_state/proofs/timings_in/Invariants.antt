use Prim.Native.Nat.{◌≤◌}
use mathlib.Core.Bool.{◌&&◌}
use mathlib.Core.Path.{◌≡◌}
use lib.ListN.{length, take, drop}
use Rattle.link_state.specs.State as State
use Rattle.link_state.proofs.timings_in.Given as goal

abbrev pub invariant-loop-i : goal.invariant-loop-i
invariant-loop-i l =
    (l.i ≤ l.n)
    × (length l.times ≡ 20)
    × (length l.delays ≡ 20)
    × (
    (l.all && (State.ascends l.low (drop l.i (take l.n l.times)) State.most_time && State.all_within State.most31 (drop l.i (take l.n l.delays))))
    ≡ (State.ascends l.initial.low (take l.n l.times) State.most_time && State.all_within State.most31 (take l.n l.delays))
    )
