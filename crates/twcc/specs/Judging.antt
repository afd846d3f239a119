-- What judging a message answers beside the judgement, and how it goes from chunk to chunk.
use Rattle.std.specs.Prelude.{◌≡◌, refl, ℕ, zero, suc, ◌+◌, ◌*◌, ◌-◌, ◌≤◌, ◌<◌, min, Bool, true, cond, List, [], ◌∷◌, ◌++◌, ltb, length, take, drop, Result, Ok, Err}
use Rattle.std.proofs.Math.Path.{sym, ap}
use Rattle.std.proofs.Common.{◌∙◌, add-zero}
use Rattle.std.proofs.Math.Bool.{false}
use native.Mathlib.Omega.{arith}
use Rattle.std.proofs.Math.Nat.{zero-add}
use Rattle.std.proofs.Math.Dec.{eqb}
use Rattle.std.proofs.Math.ListN.{length-append, length-drop}
use borrow.Author.Tests.{lt-ltb, le-ltb, eq-eqb, ne_eqb}
use Rattle.status_chunk.specs.Chunk.{symbol_count, symbols_of, delta_bytes, any_reserved}
use Rattle.status_chunk.specs.Laws.{take-length, take_split, take-symbols, take-bytes-most, any_append, bytes-append}
use Rattle.twcc.specs.Feedback.{read_u16, header_bytes, status_count, read_header, chunk_symbols, chunk_bytes, symbols, deltas_at, judge_symbols, judge}
use Rattle.twcc.specs.Chunks.{same_test, drop-two}
use Rattle.twcc.specs.declared.Header.{Header}
use Rattle.twcc.specs.declared.Refusal.{Refusal}
use Rattle.twcc.specs.declared.Refusal.TheVariants.{CutShort, Reserved, NoStatus}
use Rattle.twcc.specs.declared.Judgement.{Judgement}
use Rattle.twcc.specs.declared.Deltas.{Deltas}

-- ---- the judgement with the place of the deltas
abbrev pub judgement : Result Header Refusal → ℕ → Result Judgement Refusal
judgement (Ok h) at = Ok (record { header = h; deltas = at })
judgement (Err r) at = Err r

unfoldable pub judge_with_deltas : List ℕ → Result Judgement Refusal
judge_with_deltas message = judgement (judge message) (deltas_at message)

-- ---- chunk by chunk
-- by the chunks that are to cover n statuses: a symbol of those that are there is reserved; else a chunk is cut short; else they are whole
abbrev pub by_chunks : {A : Type 0} → A → A → A → List ℕ → ℕ → A
by_chunks reserved short whole chunks n = cond (any_reserved (take n (chunk_symbols chunks))) reserved (cond (ltb (length (take n (chunk_symbols chunks))) n) short whole)

-- what the chunks at a place say, where the deltas of those before them have so many bytes
unfoldable pub chunks_from : ℕ → ℕ → List ℕ → ℕ → Result Deltas Refusal
chunks_from at bytes chunks n = by_chunks (Err Reserved) (Err CutShort) (Ok (record { at = at + chunk_bytes chunks n; bytes = bytes + delta_bytes (take n (chunk_symbols chunks)) })) chunks n

module _ (at bytes a b : ℕ) (chunks : List ℕ) (n : ℕ) where
  abbrev chunk : ℕ
  chunk = a * 256 + b

  -- the counted symbols of the chunk, and how many they are
  abbrev here : List ℕ
  here = take n (symbols_of chunk)

  abbrev c : ℕ
  c = min (symbol_count chunk) n

  abbrev later : List ℕ
  later = take (n - c) (chunk_symbols chunks)

  pub counted-first : take n (chunk_symbols (a ∷ b ∷ chunks)) ≡ here ++ later
  unfolding chunk_symbols
  counted-first = take_split chunk 0 (symbol_count chunk) n (chunk_symbols chunks) ∙ rw (← take-symbols chunk n)

  -- c is at most n
  shifted : ltb (c + length later) n ≡ ltb (length later) (n - c)
  shifted = same_test (c + length later) n (length later) (n - c) (λ l. omega arith) (λ l. omega arith)

  pub chunks-reserved : any_reserved here ≡ true → Err Reserved ≡ chunks_from at bytes (a ∷ b ∷ chunks) n
  unfolding chunks_from
  chunks-reserved e = rw (counted-first, any_append, e)

  pub chunks-turn : 0 < n → any_reserved here ≡ false → chunks_from at bytes (a ∷ b ∷ chunks) n ≡ chunks_from (at + 2) (bytes + delta_bytes here) chunks (n - c)
  unfolding chunks_from chunk_bytes
  chunks-turn h e =
      let z : eqb n 0 ≡ false = ne_eqb n 0 (λ q. omega arith) in
      let m : n - symbol_count chunk ≡ n - c = omega arith in
      let x : at + (2 + chunk_bytes chunks (n - c)) ≡ at + 2 + chunk_bytes chunks (n - c) = omega arith in
      let y : bytes + (delta_bytes here + delta_bytes later) ≡ bytes + delta_bytes here + delta_bytes later = omega arith in
      simp (counted-first, any_append, e, length-append, take-length, bytes-append, shifted, z, m, x, y)

-- the same where the chunk is at a place of a message, and the chunks from there on say what all say
module _
    (message : List ℕ) (at bytes n chunk c : ℕ) {whole : Result Deltas Refusal} (there : at + 2 ≤ length message) (read : chunk ≡ read_u16 message at) (first : c ≡ min (symbol_count chunk) n)
    (goes : chunks_from at bytes (drop at message) n ≡ whole) where
  pub reserved-at : any_reserved (take n (symbols_of chunk)) ≡ true → Err Reserved ≡ whole
  reserved-at e = chunks-reserved at bytes _ _ (drop (at + 2) message) n (rw read at e) ∙ (rw (drop-two message at there) at goes)

  pub turn_at : 0 < n → any_reserved (take n (symbols_of chunk)) ≡ false → chunks_from (at + 2) (bytes + delta_bytes (take n (symbols_of chunk))) (drop (at + 2) message) (n - c) ≡ whole
  turn_at h e = rw (first, read) (sym (chunks-turn at bytes _ _ (drop (at + 2) message) n h (rw read at e)) ∙ (rw (drop-two message at there) at goes))

pub chunks-short : (at bytes : ℕ) (chunks : List ℕ) (n : ℕ) → length chunks < 2 → 0 < n → Err CutShort ≡ chunks_from at bytes chunks n
unfolding chunks_from chunk_symbols any_reserved
chunks-short at bytes [] zero h l = absurd (omega arith)
chunks-short at bytes [] (suc n) h l = rw (lt-ltb 0 (suc n) (omega arith))
chunks-short at bytes (a ∷ []) zero h l = absurd (omega arith)
chunks-short at bytes (a ∷ []) (suc n) h l = rw (lt-ltb 0 (suc n) (omega arith))
chunks-short at bytes (a ∷ b ∷ chunks) n h l = absurd (omega arith)

pub chunks-end : (at bytes : ℕ) (chunks : List ℕ) → Ok (record { at = at; bytes = bytes }) ≡ chunks_from at bytes chunks 0
unfolding chunks_from chunk_bytes any_reserved delta_bytes
chunks-end at bytes [] = simp add-zero
chunks-end at bytes (a ∷ []) = simp add-zero
chunks-end at bytes (a ∷ b ∷ chunks) = simp add-zero

-- ---- a law a case
-- the judgement by what the chunks say
abbrev pub judgement_by : List ℕ → Header → Result Deltas Refusal → Result Judgement Refusal
judgement_by message h (Ok d) = judgement (cond (ltb (length message) (d.at + d.bytes)) (Err CutShort) (Ok h)) d.at
judgement_by message h (Err r) = Err r

module _ (message : List ℕ) where
  pub judged-short : length message < header_bytes → Err CutShort ≡ judge_with_deltas message
  unfolding judge_with_deltas judge
  judged-short l = rw (lt-ltb _ _ l)

  pub judged-none : header_bytes ≤ length message → status_count message ≡ 0 → Err NoStatus ≡ judge_with_deltas message
  unfolding judge_with_deltas judge
  judged-none l z = rw (le-ltb _ _ l, eq-eqb _ _ z)

  by : (h : Header) (x y : Bool) (e b : ℕ) →
      judgement_by message h (cond x (Err Reserved) (cond y (Err CutShort) (Ok (record { at = e; bytes = b }))))
      ≡ judgement (cond x (Err Reserved) (cond y (Err CutShort) (cond (ltb (length message) (e + b)) (Err CutShort) (Ok h)))) e
  by h true y e b = refl
  by h false true e b = refl
  by h false false e b = refl

  chunks-say : judgement_by message (read_header message) (chunks_from header_bytes 0 (drop header_bytes message) (status_count message)) ≡ judgement (judge_symbols message) (deltas_at message)
  unfolding chunks_from
  chunks-say =
      let z : 0 + delta_bytes (symbols message) ≡ delta_bytes (symbols message) = zero-add _ in
      rw z
      (by (read_header message) (any_reserved (symbols message)) (ltb (length (symbols message)) (status_count message)) (deltas_at message) (delta_bytes (symbols message)))

  pub judged-by :
      (h : Header) (r t : Result Deltas Refusal) → h ≡ read_header message → header_bytes ≤ length message → (h.status_count ≡ 0 → ⊥) →
      r ≡ chunks_from header_bytes 0 (drop header_bytes message) h.status_count → r ≡ t → judgement_by message h t ≡ judge_with_deltas message
  unfolding judge_with_deltas judge
  judged-by h r t e l z c f =
      let n : h.status_count ≡ status_count message = ap (λ (k : Header). k.status_count) e in
      let m : eqb (status_count message) 0 ≡ false = ne_eqb (status_count message) 0 (λ q. z (n ∙ q)) in
      let g : t ≡ chunks_from header_bytes 0 (drop header_bytes message) (status_count message) = sym f ∙ c ∙ ap (λ (k : ℕ). chunks_from header_bytes 0 (drop header_bytes message) k) n in
      rw (le-ltb (length message) header_bytes l, m, g, e) chunks-say

-- the judgement alone
abbrev pub header_of : Result Judgement Refusal → Result Header Refusal
header_of (Ok j) = Ok j.header
header_of (Err r) = Err r

pub judged-is : (message : List ℕ) → header_of (judge_with_deltas message) ≡ judge message
unfolding judge_with_deltas
judged-is message = go (judge message)
  where
    go : (j : Result Header Refusal) → header_of (judgement j (deltas_at message)) ≡ j
    go (Ok h) = refl
    go (Err r) = refl

-- what the functions go by
pub ruleset judging = (chunks-short, turn_at, take-bytes-most, length-drop, judged-short, judged-none)
