use Rattle.std.proofs.Common.{◌≡◌, ℕ, Bool, drop}
use mathlib.Core.Bool.{◌&&◌}
use Rattle.questions.specs.Questions.{every}
use Rattle.questions.proofs.every.Given as goal

abbrev pub invariant-loop-x : goal.invariant-loop-x
invariant-loop-x g l =
    (p : ℕ → Bool) → ((x : ℕ) (r : Bool) → goal.F-post g l.test x r → r ≡ p x) → (l.yes && every p (drop l.x-index l.xs)) ≡ every p l.xs
