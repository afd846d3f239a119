-- Laws of the chunks: bytes two by two, the symbols of a chunk before those of the chunks after it.
use Rattle.std.specs.Prelude.{◌≡◌, refl, ℕ, suc, ◌+◌, ◌≤◌, ◌<◌, Bool, true, false, List, ◌∷◌, ltb, length, get_or, drop}
use Rattle.std.proofs.Common.{sym, arith, add-one, drop-cons, lt-ltb, le-ltb, ltb-true, ltb-false}

-- ---- tests
-- two tests that say the same
pub same_test : (a b c d : ℕ) → (a < b → c < d) → (c < d → a < b) → ltb a b ≡ ltb c d
same_test a b c d f g = go (ltb a b) refl
  where
    go : (t : Bool) → ltb a b ≡ t → t ≡ ltb c d
    go true e = sym (lt-ltb c d (f (ltb-true a b e)))
    go false e = sym (le-ltb c d (let h : b ≤ a = ltb-false a b e in rest h (ltb c d) refl))
      where
        rest : b ≤ a → (u : Bool) → ltb c d ≡ u → d ≤ c
        rest h true k = absurd (let l = g (ltb-true c d k) in omega arith)
        rest h false k = ltb-false c d k

-- ---- bytes
pub drop-two : (bytes : List ℕ) (at : ℕ) → at + 2 ≤ length bytes → drop at bytes ≡ get_or bytes at 0 ∷ get_or bytes (at + 1) 0 ∷ drop (at + 2) bytes
drop-two bytes at h =
    let e : at + 2 ≡ suc (suc at) = omega arith in
    let p : at < length bytes = omega arith in
    let q : suc at < length bytes = omega arith in
    rw (e, add-one, drop-cons bytes at 0 p, drop-cons bytes (suc at) 0 q)
