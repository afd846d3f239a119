-- Numbers in bytes are those of std's `from_le_bytes`, and zeros after a list change no byte that is read.
use Rattle.std.proofs.Common.{◌≡◌, ◌∙◌, sym, refl, subst, ℕ, zero, suc, ◌+◌, ◌-◌, ◌*◌, ◌^◌, ◌<◌, ◌≤◌, List, [], ◌∷◌, ◌++◌, length, replicate, get_or, add-zero, add-suc, suc-add, arith, length-append}
use Rattle.std.proofs.lemmas.List.{length-replicate}
use Rattle.std.proofs.lemmas.Grind.{same_number_lists}
use denote.Param.Members.{Called, Mut}
use Rattle.std.specs.Array.{IsFromFnResult, IsFromFnResultFrom}
use Rattle.std.specs.Int.{byte_worth, sum_through}
use Rattle.std.specs.Prelude.{slice_index}
use native.Mathlib.Nat.{pow-suc, mul_assoc}
use Rattle.le_bytes.specs.LeBytes.{le}

module _ (s : List ℕ) where
  -- the last byte, above the bytes before it
  le-last : (n at : ℕ) → get_or s (at + n) 0 * 256 ^ n + le n s at ≡ le (suc n) s at
  unfolding le
  le-last zero at = simp add-zero (omega arith)
  le-last (suc n) at = rw (pow-suc, add-suc, ← suc-add, ← mul_assoc) (omega (arith, le-last n (suc at)))

  pub le-from : (bytes : List ℕ) (n at : ℕ) → ((i : ℕ) → i < suc n → get_or bytes i 0 ≡ get_or s (at + i) 0)
      → sum_through (λ i. byte_worth i (slice_index bytes i)) n ≡ le (suc n) s at
  unfolding le
  le-from bytes zero at h = rw add-zero at (h 0 (omega arith)) ∙ omega arith
  le-from bytes (suc n) at h =
      rw (le-from bytes n at (λ i k. h i (omega arith)), h (suc n) (omega arith)) (omega (arith, le-last (suc n) at))

zeros : (k i : ℕ) → get_or {A = ℕ} (replicate k 0) i 0 ≡ 0
zeros zero i = refl
zeros (suc k) zero = refl
zeros (suc k) (suc i) = zeros k i

then-zeros : (s : List ℕ) (k i : ℕ) → get_or (s ++ replicate k 0) i 0 ≡ get_or s i 0
then-zeros [] k i = zeros k i
then-zeros (x ∷ s) k zero = refl
then-zeros (x ∷ s) k (suc i) = then-zeros s k i

pub padded-is : (s bytes : List ℕ) (n : ℕ) → length s ≤ n → length bytes ≡ n → ((i : ℕ) → i < n → get_or bytes i 0 ≡ get_or s i 0) → bytes ≡ s ++ replicate (n - length s) 0
padded-is s bytes n h l e =
    same_number_lists bytes (s ++ replicate (n - length s) 0) (rw (length-append, length-replicate) (omega arith))
    (λ i k. e i (omega arith) ∙ sym (then-zeros s (n - length s) i))

-- calls at 0, 1, .., of which each gives the byte of s there
module _ {F : Type 0} (g : Mut F (ℕ × Unit {0}) ℕ) (s : List ℕ) (f : F) (turn : (i x : ℕ) (h : F) → Called g f (i, tt) x h → (h ≡ f) × (x ≡ get_or s i 0)) where
  rest : (xs : List ℕ) (i n : ℕ) (h : F) → h ≡ f → IsFromFnResultFrom g h xs i n → (k : ℕ) → k < n → get_or xs (i + k) 0 ≡ get_or s (i + k) 0
  rest xs i zero h e r k l = absurd (omega arith)
  rest xs i (suc n) h e r zero l = rw add-zero (r.2.1 0 ∙ (turn i r.1 r.0 (subst (λ (q : F). Called g q (i, tt) r.1 r.0) e r.3)).1)
  rest xs i (suc n) h e r (suc k) l =
      let here = turn i r.1 r.0 (subst (λ (q : F). Called g q (i, tt) r.1 r.0) e r.3) in
      let next : i + suc k ≡ i + 1 + k = omega arith in
      rw next (rest xs (i + 1) n r.0 here.0 r.4 k (omega arith))

  pub from-calls : (xs : List ℕ) (n : ℕ) → IsFromFnResult g f xs n → (i : ℕ) → i < n → get_or xs i 0 ≡ get_or s i 0
  from-calls xs n r i l =
      let first : 0 + i ≡ i = omega arith in
      rw first at (rest xs 0 n f refl r.each i l)
