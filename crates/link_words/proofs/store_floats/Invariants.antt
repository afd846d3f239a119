use mathlib.Core.Path.{◌≡◌}
use mathlib.Core.List.{map}
use Prim.Native.Nat.{◌+◌}
use lib.ListN.{length, drop}
use lib.Seq.{sets}
use lib.Ieee.{binary64, to_bits}
use Rattle.link_words.proofs.store_floats.Given as goal

abbrev pub invariant-loop-i : goal.invariant-loop-i
invariant-loop-i l = (length l.x-items ≡ 20) × (sets l.words (l.at + l.i) (map (to_bits binary64) (drop l.i l.x-items)) ≡ sets l.initial.words l.at (map (to_bits binary64) l.x-items))
