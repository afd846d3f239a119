-- The floats that calls at 0, 1, .. gave, where each gave the float of its word.
use mathlib.Core.Path.{◌≡◌, refl, ap₂, subst, ◌∙◌}
use mathlib.Core.List.{List, ◌∷◌}
use Prim.Native.Nat.{ℕ, zero, suc, ◌+◌}
use native.Mathlib.Omega.{arith}
use lib.ListN.{length, get_or, drop, drop_of_length-le}
use lib.Seq.{drop-cons}
use lib.Ieee.{Float, binary64, of_bits, nan}
use denote.Param.Members.{Called, Mut}
use Rattle.std.specs.Array.{IsFromFnResult, IsFromFnResultFrom}
use Rattle.link_words.specs.LinkWords.{floats}

module _ {F : Type 0} (g : Mut F (ℕ × Unit {0}) Float) (w : List ℕ) (at : ℕ) (f : F) (turn : (i : ℕ) (x : Float) (h : F) → Called g f (i, tt) x h → (h ≡ f) × (x ≡ of_bits binary64 (get_or w (at + i) 0))) where
  rest : (xs : List Float) (i n : ℕ) (h : F) → h ≡ f → length xs ≡ i + n → IsFromFnResultFrom g h xs i n → drop i xs ≡ floats w (at + i) n
  unfolding floats
  rest xs i zero h e l r = drop_of_length-le xs {i = i} (omega (arith, l))
  rest xs i (suc n) h e l r =
      let one : i + 1 ≡ suc i = omega arith in
      let next : at + suc i ≡ suc (at + i) = omega arith in
      let here = turn i r.1 r.0 (subst (λ (k : F). Called g k (i, tt) r.1 r.0) e r.3) in
      let after : drop (suc i) xs ≡ floats w (suc (at + i)) n = rw (one, next) at (rest xs (i + 1) n r.0 here.0 (omega (arith, l)) r.4) in
      drop-cons xs i nan (omega (arith, l)) ∙ ap₂ (λ (x : Float) (ys : List Float). x ∷ ys) (r.2.1 nan ∙ here.1) after

  pub from-calls : (xs : List Float) (n : ℕ) → IsFromFnResult g f xs n → xs ≡ floats w at n
  from-calls xs n r =
      let first : at + 0 ≡ at = omega arith in
      rw first at (rest xs 0 n f refl (omega (arith, r.long)) r.each)
