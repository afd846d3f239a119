-- A fold over a report's packets: a turn of its loop, and where it ends because a list has no more.
use mathlib.Core.Path.{◌≡◌, refl, sym, ◌∙◌}
use mathlib.Core.List.{List, [], ◌∷◌}
use Prim.Native.Nat.{ℕ, ◌+◌, ◌<◌, min}
use native.Mathlib.Numerals.{add-one}
use native.Mathlib.Omega.{arith}
use lib.ListN.{length, drop, drop_of_length-le, get_or}
use lib.Seq.{drop-cons}
use Rattle.time.specs.Laws.{dichotomy}
use Rattle.control.specs.Control.{fold}

module _ {S : Type 0} (f : S → ℕ → ℕ → S) (xs ys : List ℕ) (i : ℕ) {s : S} {r : S} (left : fold f s (drop i xs) (drop i ys) ≡ r) where
  pub fold-turn : {t : S} {x y : ℕ} → (i < length xs) × (i < length ys) × ((d : ℕ) → x ≡ get_or xs i d) × ((d : ℕ) → y ≡ get_or ys i d) → t ≡ f s x y → fold f t (drop (i + 1) xs) (drop (i + 1) ys) ≡ r
  unfolding fold
  fold-turn (h, k, first, second) e = rw (e, first 0, second 0, add-one) (rw (drop-cons xs i 0 h, drop-cons ys i 0 k) at left)

  pub fold_end : i ≡ min (length xs) (length ys) → s ≡ r
  unfolding fold
  fold_end h = dichotomy i (length xs) (λ k. sym (none (drop i xs)) ∙ (rw (drop_of_length-le ys {i = i} (omega arith)) at left)) (λ k. rw (drop_of_length-le xs k) at left)
    where
      none : (l : List ℕ) → fold f s l [] ≡ s
      none [] = refl
      none (x ∷ l) = refl
