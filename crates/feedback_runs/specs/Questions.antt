-- What each judgement says of a message, questions 14 to 16, and their order: 15 stays whatever follows the chunk with the reserved symbol, and a message cut before it fails 14.
use Rattle.std.specs.Prelude.{◌≡◌, ℕ, zero, suc, ◌≤◌, ◌<◌, Bool, true, false, ◌||◌, List, [], ◌∷◌, ◌++◌, ◌↔◌, ◌≢◌, ◌⊎◌, eqb, ltb, length, get_or, take, drop, Result, Ok, Err}
use Rattle.std.proofs.Math.Path.{refl}
use Rattle.std.proofs.Common.{sym, subst, ◌∙◌, append_assoc, arith, length-append}
use Rattle.std.proofs.Math.Logic.{inl, inr}
use Rattle.std.proofs.Math.ListN.{length-take, get_or-append}
use Rattle.std.proofs.lemmas.List.{drop-append-le}
use borrow.Author.Tests.{lt-ltb, ltb-true, ltb-false, eq-eqb, ne_eqb, eqb-true, eqb-false}
use Rattle.bool_laws.specs.Bools.{cases, chosen}
use Rattle.status_chunk.specs.Chunk.{reserved, any_reserved}
use Rattle.twcc.specs.Feedback.{header_bytes, status_count, read_header, chunk_symbols, symbols, deltas_end, judge}
use Rattle.twcc.specs.Chunks.{same_test}
use Rattle.twcc.specs.declared.Header.{Header}
use Rattle.twcc.specs.declared.Refusal.{Refusal}
use Rattle.twcc.specs.declared.Refusal.TheVariants.{CutShort, Reserved, NoStatus}

-- ---- faults
-- the symbols of the whole chunks behind the header; those at places below the status count are counted
abbrev pub symbols_there : List ℕ → List ℕ
symbols_there message = chunk_symbols (drop header_bytes message)

abbrev pub HeaderCut : List ℕ → Type 0
HeaderCut message = length message < header_bytes

abbrev pub ChunkCut : List ℕ → Type 0
ChunkCut message = length (symbols_there message) < status_count message

abbrev pub DeltaCut : List ℕ → Type 0
DeltaCut message = length message < deltas_end message

-- of symbols that are there one at a place below n is reserved
pub record ReservedBelow (n : ℕ) (ss : List ℕ) : Type 0 where
  pub place : ℕ
  pub counted : place < n
  pub there : place < length ss
  pub is-reserved : get_or ss place 0 ≡ reserved

abbrev pub ReservedCounted : List ℕ → Type 0
ReservedCounted message = ReservedBelow (status_count message) (symbols_there message)

-- ---- what a judgement says
abbrev pub Says : List ℕ → Result Header Refusal → Type 0
Says message (Ok h) = (h ≡ read_header message) × (¬ HeaderCut message) × (status_count message ≢ 0) × (¬ ReservedCounted message) × (¬ ChunkCut message) × (¬ DeltaCut message)
Says message (Err CutShort) = HeaderCut message ⊎ ((status_count message ≢ 0) × (¬ ReservedCounted message) × (ChunkCut message ⊎ DeltaCut message))
Says message (Err Reserved) = (¬ HeaderCut message) × (status_count message ≢ 0) × ReservedCounted message
Says message (Err NoStatus) = (¬ HeaderCut message) × (status_count message ≡ 0)

-- ---- tests
not-true : (t : Bool) → (t ≡ true → ⊥) → t ≡ false
not-true true h = absurd (h refl)
not-true false h = refl

not-ltb : (a b : ℕ) → (¬ (a < b)) → ltb a b ≡ false
not-ltb a b h = not-true (ltb a b) (λ e. h (ltb-true a b e))

not-false : (t : Bool) → (t ≡ false → ⊥) → t ≡ true
not-false true h = refl
not-false false h = absurd (h refl)

unequal : true ≡ false → ⊥
unequal e = let z : ◌≡◌ {A = ℕ} 0 1 = cc in omega arith

-- ---- a reserved symbol among the first n
pub reserved-place : (n : ℕ) (ss : List ℕ) → any_reserved (take n ss) ≡ true → ReservedBelow n ss
unfolding any_reserved
reserved-place zero ss e = absurd (unequal (sym e))
reserved-place (suc n) [] e = absurd (unequal (sym e))
reserved-place (suc n) (s ∷ ss) e = go (eqb s reserved) refl e (reserved-place n ss)
  where
    go : (t : Bool) → eqb s reserved ≡ t → t || any_reserved (take n ss) ≡ true → (any_reserved (take n ss) ≡ true → ReservedBelow n ss) → ReservedBelow (suc n) (s ∷ ss)
    go true f e later = record { place = 0; counted = omega arith; there = omega arith; is-reserved = eqb-true s reserved f }
    go false f e later =
        let r = later e in
        record { place = suc r.place; counted = omega arith; there = omega arith; is-reserved = r.is-reserved }

any-reserved : (n : ℕ) (ss : List ℕ) (i : ℕ) → i < n → i < length ss → get_or ss i 0 ≡ reserved → any_reserved (take n ss) ≡ true
unfolding any_reserved
any-reserved zero ss i h l e = absurd (omega arith)
any-reserved (suc n) [] i h l e = absurd (omega arith)
any-reserved (suc n) (s ∷ ss) zero h l e = rw (eq-eqb s reserved e)
any-reserved (suc n) (s ∷ ss) (suc i) h l e = rw (any-reserved n ss i (omega arith) (omega arith) e) (or-true (eqb s reserved))
  where
    or-true : (t : Bool) → t || true ≡ true
    or-true true = refl
    or-true false = refl

pub place-reserved : {n : ℕ} {ss : List ℕ} → ReservedBelow n ss → any_reserved (take n ss) ≡ true
place-reserved {n} {ss} r = any-reserved n ss r.place r.counted r.there r.is-reserved

none-reserved : (n : ℕ) (ss : List ℕ) → (¬ ReservedBelow n ss) → any_reserved (take n ss) ≡ false
none-reserved n ss none = not-true (any_reserved (take n ss)) (λ e. none (reserved-place n ss e))

-- ---- a judgement is made where what it says holds
module _ (message : List ℕ) where
  says : Says message (judge message)
  unfolding judge
  says =
      let l = length-take (status_count message) (symbols_there message) in
      cases (Says message) (ltb (length message) header_bytes) (λ a. inl (ltb-true (length message) header_bytes a))
      (λ a.
      let long : ¬ HeaderCut message = λ h. absurd (omega (arith, ltb-false (length message) header_bytes a)) in
      cases (Says message) (eqb (status_count message) 0) (λ b. (long, eqb-true (status_count message) 0 b))
      (λ b.
      let some = eqb-false (status_count message) 0 b in
      cases (Says message) (any_reserved (symbols message)) (λ c. (long, some, reserved-place (status_count message) (symbols_there message) c))
      (λ c.
      let none : ¬ ReservedCounted message = λ r. unequal (sym (place-reserved r) ∙ c) in
      cases (Says message) (ltb (length (symbols message)) (status_count message)) (λ d. inr (some, none, inl (omega (arith, ltb-true (length (symbols message)) (status_count message) d))))
      (λ d.
      let whole : ¬ ChunkCut message = λ h. absurd (omega (arith, ltb-false (length (symbols message)) (status_count message) d)) in
      cases (Says message) (ltb (length message) (deltas_end message)) (λ e. inr (some, none, inr (ltb-true (length message) (deltas_end message) e)))
      (λ e. (refl, long, some, none, whole, λ h. absurd (omega (arith, ltb-false (length message) (deltas_end message) e))))))))

  -- the counted symbols are short where those that are there are
  short : ltb (length (symbols message)) (status_count message) ≡ ltb (length (symbols_there message)) (status_count message)
  short =
      let l = length-take (status_count message) (symbols_there message) in
      same_test (length (symbols message)) (status_count message) (length (symbols_there message)) (status_count message) (λ h. omega arith) (λ h. omega arith)

  judged : (j : Result Header Refusal) → Says message j → judge message ≡ j
  unfolding judge
  judged (Ok h) (e, long, some, none, chunks, deltas) =
      rw (not-ltb _ _ long, ne_eqb _ _ some, none-reserved _ _ none, short, not-ltb _ _ chunks, not-ltb _ _ deltas, e)
  judged (Err CutShort) (inl h) = rw (lt-ltb (length message) header_bytes h)
  judged (Err CutShort) (inr (some, none, inl h)) = rw (ne_eqb _ _ some, none-reserved _ _ none, short, lt-ltb _ _ h) (chosen (λ j. j ≡ (Err CutShort)) (ltb (length message) header_bytes) refl refl)
  judged (Err CutShort) (inr (some, none, inr h)) =
      rw (ne_eqb _ _ some, none-reserved _ _ none, lt-ltb _ _ h)
      (chosen (λ j. j ≡ (Err CutShort)) (ltb (length message) header_bytes) refl (chosen (λ j. j ≡ (Err CutShort)) (ltb (length (symbols message)) (status_count message)) refl refl))
  judged (Err Reserved) (long, some, r) = rw (not-ltb _ _ long, ne_eqb _ _ some, place-reserved r)
  judged (Err NoStatus) (long, none) = rw (not-ltb _ _ long, eq-eqb _ _ none)

  pub judgement-says : (j : Result Header Refusal) → (judge message ≡ j) ↔ Says message j
  judgement-says j = (λ e. subst (Says message) e says, judged j)

-- ---- a message by its front
-- the symbols of the chunks behind a front, the first of them with the front's last byte where that is half a chunk
abbrev pub later_symbols : List ℕ → List ℕ → List ℕ
later_symbols [] after = chunk_symbols after
later_symbols (a ∷ []) after = chunk_symbols (a ∷ after)
later_symbols (a ∷ b ∷ front) after = later_symbols front after

pub symbols-append : (front after : List ℕ) → chunk_symbols (front ++ after) ≡ chunk_symbols front ++ later_symbols front after
unfolding chunk_symbols
symbols-append [] after = refl
symbols-append (a ∷ []) after = refl
symbols-append (a ∷ b ∷ front) after = rw (symbols-append front after, append_assoc)

module _ (front after : List ℕ) (long : header_bytes ≤ length front) where
  pub front-count : status_count (front ++ after) ≡ status_count front
  front-count = rw (get_or-append front after 0 2 (omega arith), get_or-append front after 0 3 (omega arith))

  pub front-symbols : symbols_there (front ++ after) ≡ symbols_there front ++ later_symbols (drop header_bytes front) after
  front-symbols = rw (drop-append-le header_bytes front after long) (symbols-append (drop header_bytes front) after)

  reserved-in-front : ReservedCounted front → ReservedCounted (front ++ after)
  reserved-in-front r =
      rw (front-count, front-symbols)
      (record {
        place = r.place;
        counted = r.counted;
        there = rw length-append (omega arith);
        is-reserved = get_or-append (symbols_there front) (later_symbols (drop header_bytes front) after) 0 r.place r.there ∙ r.is-reserved;
      })

  reserved-of-front : ReservedCounted (front ++ after) → status_count front ≤ length (symbols_there front) → ReservedCounted front
  reserved-of-front r h =
      let l : r.place < status_count front = rw front-count at r.counted in
      let e : get_or (symbols_there front ++ later_symbols (drop header_bytes front) after) r.place 0 ≡ reserved = rw front-symbols at r.is-reserved in
      record {
        place = r.place;
        counted = l;
        there = omega arith;
        is-reserved = sym (get_or-append (symbols_there front) (later_symbols (drop header_bytes front) after) 0 r.place (omega arith)) ∙ e;
      }

-- ---- the order of the questions
module _ (front after : List ℕ) where
  pub no-status-stays : judge front ≡ (Err NoStatus) → judge (front ++ after) ≡ (Err NoStatus)
  no-status-stays e =
      let s = (judgement-says front (Err NoStatus)).0 e in
      let long : header_bytes ≤ length front = omega (arith, s.0) in
      (judgement-says (front ++ after) (Err NoStatus)).1 (λ h. absurd (omega (arith, length-append front after)), front-count front after long ∙ s.1)

  pub reserved-stays : judge front ≡ (Err Reserved) → judge (front ++ after) ≡ (Err Reserved)
  reserved-stays e =
      let s = (judgement-says front (Err Reserved)).0 e in
      let long : header_bytes ≤ length front = omega (arith, s.0) in
      (judgement-says (front ++ after) (Err Reserved)).1
      (λ h. absurd (omega (arith, length-append front after)), λ z. s.1 (sym (front-count front after long) ∙ z), reserved-in-front front after long s.2)

  -- the chunk with the first counted reserved symbol is not whole in the front
  pub cut-before-reserved : judge (front ++ after) ≡ (Err Reserved) → (¬ ReservedCounted front) → judge front ≡ (Err CutShort)
  cut-before-reserved e none = (judgement-says front (Err CutShort)).1 (go (ltb (length front) header_bytes) refl)
    where
      s : Says (front ++ after) (Err Reserved)
      s = (judgement-says (front ++ after) (Err Reserved)).0 e

      go : (t : Bool) → ltb (length front) header_bytes ≡ t → Says front (Err CutShort)
      go true t = inl (ltb-true (length front) header_bytes t)
      go false t =
          let long = ltb-false (length front) header_bytes t in
          let l = length (symbols_there front) in
          let n = status_count front in
          let short = not-false (ltb l n) (λ u. none (reserved-of-front front after long s.2 (ltb-false l n u))) in
          inr (λ z. s.1 (front-count front after long ∙ z), none, inl (ltb-true l n short))
