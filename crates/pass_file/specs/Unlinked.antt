-- Records that are not linked do not matter: two files of one length, with the same records along the chain, have one listing and one answer.
use Rattle.std.specs.Prelude.{ℕ, ◌≡◌}
use Rattle.std.proofs.Math.Path.{refl}
use mathlib.Core.List.Memᴰ
use mathlib.Core.List.{List, [], ◌∷◌}
use Rattle.pass_records.specs.PassRecords.{chain}
use Rattle.pass_records.specs.Agree.{Agree, AllSame, agree-chain, agree-judge}
use Rattle.pass_file.specs.PassFile.{calls, list, listing, output}

module _ (f g : List ℕ) where
  calls_same : (waiting : List (List ℕ)) (ks : List ℕ) → AllSame f g ks → calls f waiting ks ≡ calls g waiting ks
  unfolding calls
  calls_same waiting [] s = refl
  calls_same waiting (k ∷ ks) s =
      let more : (v : List (List ℕ)) → calls f v ks ≡ calls g v ks = λ v. calls_same v ks (λ j m. s j (Memᴰ.tail m)) in
      simp (s k (Memᴰ.head refl), more)

  module _ (a : Agree f g) where
    pub agree-listing : listing f ≡ listing g
    unfolding listing
    agree-listing = rw (← agree-chain f g a, calls_same [] (chain f) a.records)

    pub agree-list : (most room : ℕ) → list most f room ≡ list most g room
    unfolding list
    agree-list most room = rw (agree-judge f g a, agree-listing)

    pub agree-output : (most : ℕ) (out : List ℕ) → output most f out ≡ output most g out
    unfolding output
    agree-output most out = rw (agree-judge f g a, agree-listing)
