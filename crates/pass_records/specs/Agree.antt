-- Files that agree along a chain: records that are not linked do not matter.
use Prim.Native.Nat.{ℕ, zero, suc, ◌-◌}
use Rattle.std.specs.Prelude.{◌≡◌, Option, Some, None, Result, Ok, Err, length}
use Rattle.std.proofs.Math.Path.{refl}
use Rattle.std.proofs.Common.{ap}
use mathlib.Core.List.{List, [], ◌∷◌, Memᴰ}
use Rattle.pass_records.specs.declared.FileRefusal.{FileRefusal}
use Rattle.pass_records.specs.PassRecords.{record_count, record_at, successor, onward, steps, chain_from, chain, judge_along, judge}

module _ (f g : List ℕ) where
  -- the same records at these numbers
  abbrev pub AllSame : List ℕ → Type 0
  AllSame ks = (k : ℕ) → Memᴰ k ks → record_at f k ≡ record_at g k

  -- two files of one length, with the same records along the chain of the first
  pub record Agree : Type 0 where
    pub lengths : length f ≡ length g
    pub records : AllSame (chain f)

  -- ---- the chain
  onward-same : (t : Result (Option ℕ) FileRefusal) (a b : ℕ → List ℕ) → ((n : ℕ) → AllSame (a n) → a n ≡ b n) → AllSame (onward t a) → onward t a ≡ onward t b
  onward-same (Ok (Some n)) a b h s = h n s
  onward-same (Ok None) a b h s = refl
  onward-same (Err refusal) a b h s = refl

  steps-same : (n last k : ℕ) → AllSame (steps n f last k) → steps n f last k ≡ steps n g last k
  unfolding steps
  steps-same zero last k s = refl
  steps-same (suc n) last k s =
      rw (← s k (Memᴰ.head refl))
      (ap
      (λ (ks : List ℕ). k ∷ ks)
      (onward-same (successor (record_at f k) last k) _ _ (λ j. steps-same n last j) (λ j m. s j (Memᴰ.tail m))))

  judge-along-same : (last : ℕ) (ks : List ℕ) → AllSame ks → judge_along f last ks ≡ judge_along g last ks
  unfolding judge_along
  judge-along-same last [] s = refl
  judge-along-same last (k ∷ ks) s = rw (s k (Memᴰ.head refl), judge-along-same last ks (λ j m. s j (Memᴰ.tail m)))

  -- ---- the file
  module _ (a : Agree) where
    count_same : record_count f ≡ record_count g
    count_same = rw a.lengths

    chain_same : chain f ≡ chain_from g (record_count f) 1
    unfolding chain_from
    chain_same = steps-same (suc (record_count f) - 1) (record_count f) 1 a.records

    pub agree-chain : chain f ≡ chain g
    agree-chain = rw (← count_same) chain_same

    pub agree-judge : (most output : ℕ) → judge most f output ≡ judge most g output
    unfolding judge
    agree-judge most output = rw (← a.lengths, ← chain_same, judge-along-same (record_count f) (chain f) a.records)
