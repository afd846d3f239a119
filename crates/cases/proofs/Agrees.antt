-- What `==` says of two arrays of six numbers is what the six comparisons say.
use Rattle.std.proofs.Common.{◌≡◌, ℕ, List, [], ◌∷◌, length, get_or, arith, nat_eq}
use Rattle.std.proofs.Math.Bool.{and-true, and_assoc}
use Rattle.std.proofs.lemmas.Cmp.{nat_list_eq_equiv}
use Rattle.std.proofs.lemmas.Grind.{elements}
use Rattle.std.specs.Cmp.Lexicographic.{pointwise}
use Rattle.cases.specs.declared.Case.{Case}
use Rattle.cases.specs.Cases.{agrees}

six : (xs : List ℕ) → length xs ≡ 6 → xs ≡ get_or xs 0 0 ∷ get_or xs 1 0 ∷ get_or xs 2 0 ∷ get_or xs 3 0 ∷ get_or xs 4 0 ∷ get_or xs 5 0 ∷ []
six xs n = grind (arith, elements)

pub six_compared : (c : Case) (xs : List ℕ) → length c.answers ≡ 6 → length xs ≡ 6 → pointwise nat_eq c.answers xs ≡ agrees c xs
six_compared c xs m n = rw (nat_list_eq_equiv.symm c.answers xs, six xs n, six c.answers m) (simp (and-true, and_assoc))
