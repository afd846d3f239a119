use Rattle.std.proofs.Common.{◌≡◌, length, drop}
use Rattle.link.specs.Link.{acknowledged}
use Rattle.link.proofs.acknowledge.Given as goal

abbrev pub invariant-loop-remote : goal.invariant-loop-remote
invariant-loop-remote l =
    (goal.iterator-loop-remote).can_next l.remote-iterator × (goal.iterator-loop-remote).is_finite l.remote-iterator
    × (acknowledged l.acked (drop (length l.yielded) l.remotes) (drop (length l.yielded) l.sizes) ≡ acknowledged l.initial.acked l.remotes l.sizes)
