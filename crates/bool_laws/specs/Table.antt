-- A table whose rows are tested at once: each row of it passes the test.
use Rattle.std.specs.Prelude.{Bool, true, ◌&&◌, T}
use mathlib.Core.List.{List, [], ◌∷◌, ◌++◌}
use Rattle.std.specs.Float.Ieee.Fits.{and_i, and_l, and_r}

module _ {A : Type 0} where
  pub data Member (r : A) : List A → Type 0 where
    here : {rs : List A} → Member r (r ∷ rs)
    there : {s : A} {rs : List A} → Member r rs → Member r (s ∷ rs)

  module _ (test : A → Bool) where
    unfoldable pub every : List A → Bool
    every [] = true
    every (r ∷ rs) = test r && every rs

    pub of-every : (r : A) (rs : List A) → T (every rs) → Member r rs → T (test r)
    unfolding every
    of-every r [] h m = elim m [ ]
    of-every r (s ∷ rs) h here = and_l (test r) (every rs) h
    of-every r (s ∷ rs) h (there m) = of-every r rs (and_r (test s) (every rs) h) m

    -- a long table in parts
    pub joined : (xs ys : List A) → T (every xs) → T (every ys) → T (every (xs ++ ys))
    unfolding every
    joined [] ys h k = k
    joined (x ∷ xs) ys h k = and_i (test x) (every (xs ++ ys)) (and_l (test x) (every xs) h) (joined xs ys (and_r (test x) (every xs) h) k)
