-- A question's answer after a test whether it was no, and the loop over a report's list.
use Prim.Native.Nat.{ℕ, ◌+◌, ◌<◌, ◌≤◌}
use native.Mathlib.Numerals.{add-one}
use mathlib.Core.Path.{◌≡◌, sym, ◌∙◌}
use mathlib.Core.Bool.{Bool, true, false, ◌&&◌, and_assoc, and-true}
use mathlib.Core.List.{List}
use lib.ListN.{length, drop, drop_of_length-le, get_or}
use lib.Seq.{drop-cons}
use Rattle.questions.specs.Questions.{every}

module _ {answer question : Bool} (e : answer ≡ question) where
  pub was-no : answer ≡ false → question ≡ false
  was-no n = sym e ∙ n

  pub was-yes : answer ≡ true → question ≡ true
  was-yes n = sym e ∙ n

module _ (test : ℕ → Bool) (xs : List ℕ) (i : ℕ) (yet : Bool) where
  pub every-turn : i < length xs → (yet && every test (drop i xs)) ≡ (yet && test (get_or xs i 0) && every test (drop (i + 1) xs))
  unfolding every
  every-turn h = rw (add-one, drop-cons xs i 0) (sym (and_assoc yet _ _))

  pub every-end : length xs ≤ i → (yet && every test (drop i xs)) ≡ yet
  unfolding every
  every-end h = rw (drop_of_length-le xs h) (and-true yet)

pub ruleset every_loop = (every-turn, every-end)
