-- What a reading loop cites: the bytes at the start after one more read, and two reads as one.
use Rattle.std.proofs.Common.{◌≡◌, ℕ, ◌+◌, ◌≤◌, List, ◌++◌, length, take, ap, ◌∙◌, sym, append_assoc}
use Rattle.std.specs.Prelude.{Option, Some, None}
use Rattle.std.proofs.lemmas.List.{length-take-le, take-append-le}
use Rattle.std.proofs.Math.Seq.{take-append-add}
use borrow.Rule.Slice.PartMut.{put_mid}
use Rattle.std.specs.Io.KnownBytes.{Consumes}

pub take-put_mid_within : (a k n : ℕ) (xs ys : List ℕ) → a ≤ length xs → n ≤ length ys → take (a + n) (put_mid a k xs ys) ≡ take a xs ++ take n ys
take-put_mid_within a k n xs ys h i =
    ap (λ (j : ℕ). take (j + n) (put_mid a k xs ys)) (sym (length-take-le a xs h))
    ∙ take-append-add (take a xs) _ n
    ∙ ap (λ (l : List ℕ). take a xs ++ l) (take-append-le n ys _ i)

pub Consumes-trans : (old mid new : Option (List ℕ)) (s t : List ℕ) → Consumes old mid s → Consumes mid new t → Consumes old new (s ++ t)
Consumes-trans None mid new s t h k = tt
Consumes-trans (Some xs) None new s t h k = absurd h
Consumes-trans (Some xs) (Some ys) None s t h k = absurd k
Consumes-trans (Some xs) (Some ys) (Some zs) s t h k = h ∙ ap (λ (l : List ℕ). s ++ l) k ∙ sym (append_assoc s t zs)
