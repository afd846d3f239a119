-- The judgement is the first fault met when a message is read in order: the header, the chunks one by one and their counted symbols one by one, then the recv deltas one by one.
use Rattle.std.specs.Prelude.{◌≡◌, refl, ℕ, zero, suc, ◌+◌, ◌*◌, ◌-◌, ◌≤◌, ◌<◌, min, Bool, true, false, ◌||◌, cond, List, [], ◌∷◌, ◌++◌, eqb, ltb, length, take, drop, Result, Ok, Err}
use Rattle.std.proofs.Common.{append_assoc, append-nil, arith, length-append, length-drop, drop-drop, lt-ltb, le-ltb, ltb-true, ltb-false, ne_eqb}
use Rattle.bool_laws.specs.Bools.{cases, chosen}
use Rattle.status_chunk.specs.Chunk.{reserved, symbol_count, symbols_of, delta_bytes, any_reserved}
use Rattle.status_chunk.specs.Laws.{take-length, any_append}
use Rattle.twcc.specs.Feedback.{header_bytes, status_count, read_header, chunk_symbols, chunk_bytes, symbols, deltas_at, deltas_end, judge_symbols, judge}
use Rattle.twcc.specs.Chunks.{same_test}
use Rattle.twcc.specs.Judging.{by_chunks, counted-first}
use Rattle.twcc.specs.declared.Header.{Header}
use Rattle.twcc.specs.declared.Refusal.{Refusal}
use Rattle.twcc.specs.declared.Refusal.TheVariants.{CutShort, Reserved, NoStatus}

-- ---- reading in order
-- symbols one by one, and then what follows
abbrev pub symbols_in_order : List ℕ → Result Header Refusal → Result Header Refusal
symbols_in_order [] next = next
symbols_in_order (s ∷ ss) next = cond (eqb s reserved) (Err Reserved) (symbols_in_order ss next)

-- the recv deltas of symbols one by one, and then what follows
abbrev pub deltas_in_order : List ℕ → List ℕ → Result Header Refusal → Result Header Refusal
deltas_in_order [] deltas next = next
deltas_in_order (s ∷ ss) deltas next = cond (ltb (length deltas) s) (Err CutShort) (deltas_in_order ss (drop s deltas) next)

-- chunks one by one until they cover n statuses, and then what follows for the symbols read and the bytes left
abbrev pub chunks_in_order : List ℕ → ℕ → List ℕ → (List ℕ → List ℕ → Result Header Refusal) → Result Header Refusal
chunks_in_order [] n read next = cond (eqb n 0) (next read []) (Err CutShort)
chunks_in_order (a ∷ []) n read next = cond (eqb n 0) (next read (a ∷ [])) (Err CutShort)
chunks_in_order (a ∷ b ∷ rest) n read next =
    cond (eqb n 0) (next read (a ∷ b ∷ rest))
    (symbols_in_order (take n (symbols_of (a * 256 + b))) (chunks_in_order rest (n - symbol_count (a * 256 + b)) (read ++ take n (symbols_of (a * 256 + b))) next))

abbrev pub judge_in_order : List ℕ → Result Header Refusal
judge_in_order message =
    cond (ltb (length message) header_bytes) (Err CutShort)
    (cond (eqb (status_count message) 0) (Err NoStatus)
    (chunks_in_order (drop header_bytes message) (status_count message) [] (λ read deltas. deltas_in_order read deltas (Ok (read_header message)))))

-- ---- symbols and deltas
or-reserved : (s t : Bool) (next : Result Header Refusal) → cond s (Err Reserved) (cond t (Err Reserved) next) ≡ cond (s || t) (Err Reserved) next
or-reserved true t next = refl
or-reserved false t next = refl

symbols-met : (ss : List ℕ) (next : Result Header Refusal) → symbols_in_order ss next ≡ cond (any_reserved ss) (Err Reserved) next
unfolding any_reserved
symbols-met [] next = refl
symbols-met (s ∷ ss) next = rw (symbols-met ss next) (or-reserved (eqb s reserved) (any_reserved ss) next)

deltas-met : (ss deltas : List ℕ) (next : Result Header Refusal) → deltas_in_order ss deltas next ≡ cond (ltb (length deltas) (delta_bytes ss)) (Err CutShort) next
unfolding delta_bytes
deltas-met [] deltas next = rw (le-ltb (length deltas) 0 (omega arith))
deltas-met (s ∷ ss) deltas next =
    cases (λ (j : Result Header Refusal). j ≡ cond (ltb (length deltas) (s + delta_bytes ss)) (Err CutShort) next) (ltb (length deltas) s)
    (λ t. let l = ltb-true (length deltas) s t in rw (lt-ltb (length deltas) (s + delta_bytes ss) (omega arith)))
    (λ t.
    let l = ltb-false (length deltas) s t in
    rw (deltas-met ss (drop s deltas) next, length-drop, same_test (length deltas - s) (delta_bytes ss) (length deltas) (s + delta_bytes ss) (λ k. omega arith) (λ k. omega arith)))

-- ---- chunks
-- the counted symbols of a chunk, and those of the chunks after it
pub chunk-symbols-turn :
    (a b : ℕ) (chunks : List ℕ) (n : ℕ) →
    take n (chunk_symbols (a ∷ b ∷ chunks)) ≡ take n (symbols_of (a * 256 + b)) ++ take (n - symbol_count (a * 256 + b)) (chunk_symbols chunks)
chunk-symbols-turn a b chunks n =
    let e : n - min (symbol_count (a * 256 + b)) n ≡ n - symbol_count (a * 256 + b) = omega arith in
    rw e at (counted-first 0 0 a b chunks n)

pub chunk-bytes-turn : (a b : ℕ) (chunks : List ℕ) (n : ℕ) → 0 < n → chunk_bytes (a ∷ b ∷ chunks) n ≡ suc (suc (chunk_bytes chunks (n - symbol_count (a * 256 + b))))
unfolding chunk_bytes
chunk-bytes-turn a b chunks n some = rw (ne_eqb n 0 (λ q. omega arith)) (omega arith)

pub chunk-bytes-most : (chunks : List ℕ) (n : ℕ) → chunk_bytes chunks n ≤ length chunks
unfolding chunk_bytes
chunk-bytes-most [] n = omega arith
chunk-bytes-most (a ∷ []) n = omega arith
chunk-bytes-most (a ∷ b ∷ chunks) n =
    let h = chunk-bytes-most chunks (n - symbol_count (a * 256 + b)) in
    chosen (λ k. k ≤ suc (suc (length chunks))) (eqb n 0) (omega arith) (omega arith)

-- the first fault of the chunks, or what follows them
abbrev by_all : List ℕ → ℕ → List ℕ → (List ℕ → List ℕ → Result Header Refusal) → Result Header Refusal
by_all chunks n read next = by_chunks (Err Reserved) (Err CutShort) (next (read ++ take n (chunk_symbols chunks)) (drop (chunk_bytes chunks n) chunks)) chunks n

no_more : (chunks : List ℕ) (read : List ℕ) (next : List ℕ → List ℕ → Result Header Refusal) → next read chunks ≡ by_all chunks 0 read next
unfolding any_reserved chunk_bytes
no_more [] read next = rw append-nil
no_more (a ∷ []) read next = rw append-nil
no_more (a ∷ b ∷ chunks) read next = rw append-nil

module _ (a b : ℕ) (chunks : List ℕ) (n : ℕ) (read : List ℕ) (next : List ℕ → List ℕ → Result Header Refusal) (some : 0 < n) where
  abbrev chunk : ℕ
  chunk = a * 256 + b

  abbrev here : List ℕ
  here = take n (symbols_of chunk)

  abbrev later : List ℕ
  later = take (n - symbol_count chunk) (chunk_symbols chunks)

  shifted : ltb (length (here ++ later)) n ≡ ltb (length later) (n - symbol_count chunk)
  shifted =
      let l = take-length chunk n in
      rw length-append (same_test (length here + length later) n (length later) (n - symbol_count chunk) (λ k. omega arith) (λ k. omega arith))

  chunk-met : symbols_in_order here (by_all chunks (n - symbol_count chunk) (read ++ here) next) ≡ by_all (a ∷ b ∷ chunks) n read next
  chunk-met = rw (symbols-met, chunk-symbols-turn a b chunks n, chunk-bytes-turn a b chunks n some, shifted, any_append, append_assoc) (or-reserved (any_reserved here) (any_reserved later) _)

chunks-met : (chunks : List ℕ) (n : ℕ) (read : List ℕ) (next : List ℕ → List ℕ → Result Header Refusal) → chunks_in_order chunks n read next ≡ by_all chunks n read next
unfolding any_reserved chunk_symbols
chunks-met [] zero read next = no_more [] read next
chunks-met [] (suc n) read next = rw (lt-ltb 0 (suc n) (omega arith), ne_eqb (suc n) 0 (λ e. omega arith))
chunks-met (a ∷ []) zero read next = no_more (a ∷ []) read next
chunks-met (a ∷ []) (suc n) read next = rw (lt-ltb 0 (suc n) (omega arith), ne_eqb (suc n) 0 (λ e. omega arith))
chunks-met (a ∷ b ∷ chunks) zero read next = no_more (a ∷ b ∷ chunks) read next
chunks-met (a ∷ b ∷ chunks) (suc n) read next =
    rw (ne_eqb (suc n) 0 (λ e. omega arith), chunks-met chunks (suc n - symbol_count (a * 256 + b)) (read ++ take (suc n) (symbols_of (a * 256 + b))) next)
    (chunk-met a b chunks (suc n) read next (omega arith))

-- ---- the message
module _ (message : List ℕ) (long : header_bytes ≤ length message) where
  -- the deltas are whole where the bytes behind the chunks are enough
  pub deltas-test : ltb (length (drop (deltas_at message) message)) (delta_bytes (symbols message)) ≡ ltb (length message) (deltas_end message)
  deltas-test =
      let l : length (drop header_bytes message) ≡ length message - header_bytes = length-drop header_bytes message in
      let m = chunk-bytes-most (drop header_bytes message) (status_count message) in
      rw length-drop (same_test (length message - deltas_at message) (delta_bytes (symbols message)) (length message) (deltas_end message) (λ k. omega arith) (λ k. omega arith))

  symbols-judged : chunks_in_order (drop header_bytes message) (status_count message) [] (λ read deltas. deltas_in_order read deltas (Ok (read_header message))) ≡ judge_symbols message
  symbols-judged =
      rw (chunks-met (drop header_bytes message) (status_count message) [] (λ read deltas. deltas_in_order read deltas (Ok (read_header message))), deltas-met, drop-drop, deltas-test)

pub judged-in-order : (message : List ℕ) → judge_in_order message ≡ judge message
unfolding judge
judged-in-order message = go (ltb (length message) header_bytes) refl
  where
    go : (t : Bool) → ltb (length message) header_bytes ≡ t → judge_in_order message ≡ cond t (Err CutShort) (cond (eqb (status_count message) 0) (Err NoStatus) (judge_symbols message))
    go true e = rw e
    go false e = rw (e, symbols-judged message (ltb-false (length message) header_bytes e))
