-- The loop over the first n timings: what is left at i, and what the definitions say of it. And a float that is no NaN.
use mathlib.Core.Path.{◌≡◌, refl, sym, ap, ◌∙◌}
use mathlib.Core.Bool.{Bool, true, false, not, ◌&&◌, and-true}
use mathlib.Core.List.{List, [], ◌∷◌}
use Prim.Native.Nat.{ℕ, ◌+◌, ◌<◌, ◌≤◌}
use native.Mathlib.Numerals.{add-one}
use native.Mathlib.Omega.{arith}
use lib.ListN.{length, take, drop, drop_of_length-le, get_or}
use lib.Seq.{drop-cons, length-take-le, get_or-take}
use lib.Ieee.{Float, nan, neg, le, eq, ne, is_nan}
use Rattle.float_order.specs.Order.{ne-self}
use Rattle.link_state.specs.State.{ascends, all_within}
use Rattle.float.specs.Float.{within}

rest-cons : (a : List Float) (n i : ℕ) → i < n → n ≤ length a → drop i (take n a) ≡ get_or a i nan ∷ drop (i + 1) (take n a)
rest-cons a n i h k =
    let l : i < length (take n a) = rw length-take-le h in
    rw (add-one, drop-cons (take n a) i nan, get_or-take)

rest_end : (a : List Float) (n i : ℕ) → i ≡ n → n ≤ length a → drop i (take n a) ≡ []
rest_end a n i e k =
    drop_of_length-le (take n a) (omega (arith, length-take-le n a k))

-- ---- one timing: its time, not below the one before, and its delay
regroup : (p l w a b : Bool) → ((p && (l && w)) && (a && b)) ≡ (p && ((l && a) && (w && b)))
regroup false l w a b = refl
regroup true false w a b = refl
regroup true true true a b = refl
regroup true true false true b = refl
regroup true true false false b = refl

module _ (low high most : Float) (times delays : List Float) (n i : ℕ) (few : n ≤ length times) (few-delays : n ≤ length delays) where
  abbrev left : Float → ℕ → Bool
  left from at = ascends from (drop at (take n times)) high && all_within most (drop at (take n delays))

  pub timings-turn : (all : Bool) → i < n
      → ((all && (le low (get_or times i nan) && within (neg most) most (get_or delays i nan))) && left (get_or times i nan) (i + 1)) ≡ (all && left low i)
  unfolding ascends all_within
  timings-turn all h =
      rw (rest-cons times n i, rest-cons delays n i)
      (regroup all (le low (get_or times i nan)) (within (neg most) most (get_or delays i nan)) (ascends (get_or times i nan) (drop (i + 1) (take n times)) high) (all_within most (drop (i + 1) (take n delays))))

  pub timings-end : i ≡ n → left low i ≡ le low high
  unfolding ascends all_within
  timings-end e = rw (rest_end times n i, rest_end delays n i) (and-true (le low high))

-- ---- a float that equals itself
not-not : (b : Bool) → not (not b) ≡ b
not-not true = refl
not-not false = refl

pub no_nan : (x : Float) → not (is_nan x) ≡ eq x x
unfolding ne
no_nan x = ap not (sym (ne-self x)) ∙ not-not (eq x x)

pub ruleset timings_loop = (timings-turn, timings-end)
