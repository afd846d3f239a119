-- The five lists keep the fields of the records that wait, of the first 1,025 if there are more.
use Rattle.std.specs.Prelude.{◌≡◌, ◌≤◌, ◌+◌, ℕ, min, Bool, true, false, List, [], ◌∷◌, ◌++◌, ltb, length}
use Rattle.std.proofs.Common.{arith, refl, length-append, length-take, take_all, ltb-true, ltb-false}
use Rattle.std.proofs.lemmas.List.{map-append, length-map, take-append-le}
use Rattle.waiting_packets.specs.WaitingPackets.{kept, most_waiting, pushed}

-- how many are kept
pub length_kept : (waiting : List (List ℕ)) → length (kept waiting).sequences ≡ min most_waiting (length waiting)
length_kept waiting = simp (length-map, length-take)

-- a record that comes is kept too where there is room, and else nothing changes
pub pushed-kept : (waiting : List (List ℕ)) (bytes : List ℕ) → pushed (kept waiting) bytes ≡ kept (waiting ++ (bytes ∷ []))
pushed-kept waiting bytes = go (ltb (length (kept waiting).sequences) most_waiting) refl
  where
    go : (t : Bool) → ltb (length (kept waiting).sequences) most_waiting ≡ t → pushed (kept waiting) bytes ≡ kept (waiting ++ (bytes ∷ []))
    go true e =
        let l : length (waiting ++ (bytes ∷ [])) ≡ length waiting + 1 = simp length-append in
        let n = length_kept waiting in
        let few : length waiting ≤ most_waiting = omega (arith, ltb-true _ _ e) in
        let more : length (waiting ++ (bytes ∷ [])) ≤ most_waiting = omega (arith, ltb-true _ _ e) in
        rw (e, take_all most_waiting waiting few, take_all most_waiting (waiting ++ (bytes ∷ [])) more) (simp map-append)
    go false e =
        let n = length_kept waiting in
        rw (e, take-append-le most_waiting waiting (bytes ∷ []) (omega (arith, ltb-false _ _ e)))
