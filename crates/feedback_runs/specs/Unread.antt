-- Messages that are alike in what is read have the same judgement and the same packets. Symbols beyond the status count and bytes after the last recv delta are not read.
use Rattle.std.specs.Prelude.{◌≡◌, ℕ, zero, suc, ◌+◌, ◌*◌, ◌-◌, ◌%◌, ◌^◌, ◌≤◌, ◌<◌, min, Bool, ℤ, pos, ◌+ℤ◌, length, get_or, take, drop, Result, Ok, Err}
use Rattle.std.proofs.Math.Path.{refl, ap}
use Rattle.std.proofs.Common.{sym, ◌∙◌, arith, length-append, length-take, length-drop, take-take, drop-drop, get_or-take}
use Rattle.std.proofs.Math.Bool.{true, false, cond}
use mathlib.Core.List.{List, [], ◌∷◌, ◌++◌}
use Rattle.std.proofs.Math.Dec.{eqb, ltb}
use Rattle.std.proofs.Math.Seq.{take-nil}
use Rattle.std.proofs.lemmas.List.{take-append-le, drop-append-le}
use borrow.Author.Tests.{ltb-false, eqb-true}
use Rattle.status_chunk.specs.Chunk.{small_delta, large_delta, symbol_count, symbols_of, delta_bytes, any_reserved}
use Rattle.status_chunk.specs.Laws.{symbols-length, take-length}
use Rattle.twcc.specs.Feedback.{read_u16, signed, header_bytes, base_seq, status_count, read_header, chunk_symbols, chunk_bytes, symbols, deltas_at, deltas_end, judge, recv_delta, packet, packets_from, packets_of, packets}
use Rattle.twcc.specs.Chunks.{same_test}
use Rattle.twcc.specs.declared.Header.{Header}
use Rattle.twcc.specs.declared.Refusal.{Refusal}
use Rattle.twcc.specs.declared.Packet.{Packet}
use Rattle.feedback_runs.specs.Packets.{accepted}
use Rattle.feedback_runs.specs.InOrder.{chunk-symbols-turn, chunk-bytes-turn, deltas-test}
use Rattle.feedback_runs.specs.Questions.{symbols_there, front-count}

-- ---- alike in what is read
-- the header, the counted symbols and the bytes of their deltas, which may stand at another place
pub record ReadAlike (message other : List ℕ) : Type 0 where
  pub header : take header_bytes other ≡ take header_bytes message
  pub counted : symbols other ≡ symbols message
  pub deltas : take (delta_bytes (symbols message)) (drop (deltas_at other) other) ≡ take (delta_bytes (symbols message)) (drop (deltas_at message) message)

-- chunks that are to cover n statuses, and what lies behind them: chunks with the same counted symbols one by one, and from some place on the same bytes
pub data ChunksAlike : ℕ → List ℕ → List ℕ → Type 0 where
  same : {n : ℕ} {xs : List ℕ} → ChunksAlike n xs xs
  chunk : {n a b c d : ℕ} {xs ys : List ℕ} →
      0 < n → take n (symbols_of (c * 256 + d)) ≡ take n (symbols_of (a * 256 + b)) → ChunksAlike (n - symbol_count (a * 256 + b)) xs ys → ChunksAlike n (a ∷ b ∷ xs) (c ∷ d ∷ ys)

-- how many statuses a header and chunks leave for the chunks after them
abbrev pub statuses_left : List ℕ → ℕ
statuses_left front = status_count front - length (symbols_there front)

-- the same judgement, and the same packets
abbrev pub SameReading : List ℕ → List ℕ → Type 0
SameReading message other = (judge other ≡ judge message) × (packets other ≡ packets message)

-- ---- lists with the same beginning
drop-take : (n k : ℕ) (l : List ℕ) → drop n (take (n + k) l) ≡ take k (drop n l)
drop-take zero k l =
    let e : 0 + k ≡ k = omega arith in
    rw e
drop-take (suc n) k [] = rw (take-nil (suc n + k), take-nil k)
drop-take (suc n) k (x ∷ l) =
    let e : suc n + k ≡ suc (n + k) = omega arith in
    rw e (drop-take n k l)

module _ (xs ys : List ℕ) (most : ℕ) (begin : take most ys ≡ take most xs) where
  length-same : ltb (length ys) most ≡ ltb (length xs) most
  length-same =
      let e : min most (length ys) ≡ min most (length xs) = sym (length-take most ys) ∙ ap length begin ∙ length-take most xs in
      same_test (length ys) most (length xs) most (λ h. omega arith) (λ h. omega arith)

  byte-same : (i : ℕ) → i < most → get_or ys i 0 ≡ get_or xs i 0
  byte-same i h = sym (get_or-take most ys i 0 h) ∙ ap (λ (l : List ℕ). get_or l i 0) begin ∙ get_or-take most xs i 0 h

  part_same : (n k : ℕ) → n + k ≤ most → take k (drop n ys) ≡ take k (drop n xs)
  part_same n k h = sym (drop-take n k ys) ∙ ap (drop n) (sym (take-take (n + k) most ys h) ∙ ap (take (n + k)) begin ∙ take-take (n + k) most xs h) ∙ drop-take n k xs

  -- a recv delta is read from as many bytes as its symbol says
  delta-same : (s : ℕ) → s ≤ most → recv_delta s ys ≡ recv_delta s xs
  unfolding recv_delta
  delta-same s h = go (eqb s large_delta) (eqb s small_delta) refl refl
    where
      go :
          (t u : Bool) → eqb s large_delta ≡ t → eqb s small_delta ≡ u →
          cond t (signed 0x8000 (read_u16 ys 0)) (cond u (pos (get_or ys 0 0)) (pos 0)) ≡ cond t (signed 0x8000 (read_u16 xs 0)) (cond u (pos (get_or xs 0 0)) (pos 0))
      go true u e f =
          let l = eqb-true s large_delta e in
          rw (byte-same 0 (omega arith), byte-same 1 (omega arith))
      go false true e f =
          let l = eqb-true s small_delta f in
          rw (byte-same 0 (omega arith))
      go false false e f = refl

packets-same : (xs ys : List ℕ) (q : ℕ) (t : ℤ) (ss : List ℕ) → take (delta_bytes ss) ys ≡ take (delta_bytes ss) xs → packets_from q t ss ys ≡ packets_from q t ss xs
unfolding packets_from delta_bytes
packets-same xs ys q t [] e = refl
packets-same xs ys q t (s ∷ ss) e =
    rw (delta-same xs ys (s + delta_bytes ss) e s (omega arith))
    (ap
    (λ (l : List Packet). packet s q (t +ℤ recv_delta s xs) ∷ l)
    (packets-same (drop s xs) (drop s ys) ((q + 1) % 2 ^ 16) (t +ℤ recv_delta s xs) ss (part_same xs ys (s + delta_bytes ss) e s (delta_bytes ss) (omega arith))))

-- ---- messages that are alike in what is read
module _ (message other : List ℕ) (begin : take header_bytes other ≡ take header_bytes message) where
  header-byte : (i : ℕ) → i < header_bytes → get_or other i 0 ≡ get_or message i 0
  header-byte i h = byte-same message other header_bytes begin i h

  count_same : status_count other ≡ status_count message
  count_same = rw (header-byte 2 (omega arith), header-byte 3 (omega arith))

  header-same : read_header other ≡ read_header message
  header-same =
      rw (
        header-byte 0 (omega arith),
        header-byte 1 (omega arith),
        header-byte 2 (omega arith),
        header-byte 3 (omega arith),
        header-byte 4 (omega arith),
        header-byte 5 (omega arith),
        header-byte 6 (omega arith),
        header-byte 7 (omega arith),
      )

module _ (message other : List ℕ) (alike : ReadAlike message other) where
  deltas-same : header_bytes ≤ length message → header_bytes ≤ length other → ltb (length other) (deltas_end other) ≡ ltb (length message) (deltas_end message)
  deltas-same h k =
      sym (deltas-test other k)
      ∙ ap (λ (ss : List ℕ). ltb (length (drop (deltas_at other) other)) (delta_bytes ss)) alike.counted
      ∙ length-same (drop (deltas_at message) message) (drop (deltas_at other) other) (delta_bytes (symbols message)) alike.deltas
      ∙ deltas-test message h

  alike-judged : judge other ≡ judge message
  unfolding judge
  alike-judged = go (ltb (length message) header_bytes) refl
    where
      short : ltb (length other) header_bytes ≡ ltb (length message) header_bytes
      short = length-same message other header_bytes alike.header

      go : (t : Bool) → ltb (length message) header_bytes ≡ t → judge other ≡ judge message
      go true e = rw (short, e)
      go false e =
          let none : eqb (status_count other) 0 ≡ eqb (status_count message) 0 = ap (λ (n : ℕ). eqb n 0) (count_same message other alike.header) in
          let any : any_reserved (symbols other) ≡ any_reserved (symbols message) = ap any_reserved alike.counted in
          let covered : ltb (length (symbols other)) (status_count other) ≡ ltb (length (symbols message)) (status_count message) =
          ap (λ (ss : List ℕ). ltb (length ss) (status_count other)) alike.counted ∙ ap (ltb (length (symbols message))) (count_same message other alike.header) in
          rw (short, e, none, any, covered, deltas-same (ltb-false (length message) header_bytes e) (ltb-false (length other) header_bytes (short ∙ e)), header-same message other alike.header)

  alike-packets : packets other ≡ packets message
  unfolding packets
  alike-packets = rw alike-judged (go (judge message))
    where
      go : (j : Result Header Refusal) → packets_of j other ≡ packets_of j message
      go (Ok h) =
          ap (λ (ss : List ℕ). packets_from (base_seq other) (pos 0) ss (drop (deltas_at other) other)) alike.counted
          ∙ ap (λ (k : Header). packets_from k.base_seq (pos 0) (symbols message) (drop (deltas_at other) other)) (header-same message other alike.header)
          ∙ packets-same (drop (deltas_at message) message) (drop (deltas_at other) other) (base_seq message) (pos 0) (symbols message) alike.deltas
      go (Err r) = refl

  pub same-reading : SameReading message other
  same-reading = (alike-judged, alike-packets)

-- ---- chunks with the same counted symbols, in as many bytes
record SameChunks (n : ℕ) (xs ys : List ℕ) : Type 0 where
  covers : take n (chunk_symbols ys) ≡ take n (chunk_symbols xs)
  bytes : chunk_bytes ys n ≡ chunk_bytes xs n

no-chunk-bytes : (chunks : List ℕ) → chunk_bytes chunks 0 ≡ 0
unfolding chunk_bytes
no-chunk-bytes [] = refl
no-chunk-bytes (a ∷ []) = refl
no-chunk-bytes (a ∷ b ∷ chunks) = refl

none-same : (xs ys : List ℕ) → SameChunks 0 xs ys
none-same xs ys = record { covers = refl; bytes = no-chunk-bytes ys ∙ sym (no-chunk-bytes xs) }

module _ (n a b c d : ℕ) (some : 0 < n) (e : take n (symbols_of (c * 256 + d)) ≡ take n (symbols_of (a * 256 + b))) where
  left-same : n - symbol_count (c * 256 + d) ≡ n - symbol_count (a * 256 + b)
  left-same = omega (arith, sym (take-length (c * 256 + d) n) ∙ ap length e ∙ take-length (a * 256 + b) n)

  same_turn : (xs ys : List ℕ) → SameChunks (n - symbol_count (a * 256 + b)) xs ys → SameChunks n (a ∷ b ∷ xs) (c ∷ d ∷ ys)
  same_turn xs ys r =
      record {
        covers = rw (chunk-symbols-turn c d ys n, chunk-symbols-turn a b xs n, left-same, e, r.covers);
        bytes = rw (chunk-bytes-turn c d ys n some, chunk-bytes-turn a b xs n some, left-same, r.bytes);
      }

chunk-length : (a b : ℕ) (chunks : List ℕ) → length (chunk_symbols (a ∷ b ∷ chunks)) ≡ symbol_count (a * 256 + b) + length (chunk_symbols chunks)
unfolding chunk_symbols
chunk-length a b chunks = rw (length-append, symbols-length (a * 256 + b) 0 (symbol_count (a * 256 + b)))

-- bytes that are the same as far as the chunks go that cover n statuses
begin-same : (xs ys : List ℕ) (n : ℕ) → n ≤ length (chunk_symbols xs) → take (chunk_bytes xs n) ys ≡ take (chunk_bytes xs n) xs → SameChunks n xs ys
unfolding chunk_symbols
begin-same [] ys zero h e = none-same [] ys
begin-same [] ys (suc n) h e = absurd (omega arith)
begin-same (a ∷ []) ys zero h e = none-same (a ∷ []) ys
begin-same (a ∷ []) ys (suc n) h e = absurd (omega arith)
begin-same (a ∷ b ∷ xs) ys zero h e = none-same (a ∷ b ∷ xs) ys
begin-same (a ∷ b ∷ xs) [] (suc n) h e = absurd (omega (arith, ap length (rw (chunk-bytes-turn a b xs (suc n) (omega arith)) at e)))
begin-same (a ∷ b ∷ xs) (c ∷ []) (suc n) h e = absurd (omega (arith, ap length (rw (chunk-bytes-turn a b xs (suc n) (omega arith)) at e)))
begin-same (a ∷ b ∷ xs) (c ∷ d ∷ ys) (suc n) h e =
    let m = suc n - symbol_count (a * 256 + b) in
    let f : c ∷ d ∷ take (chunk_bytes xs m) ys ≡ a ∷ b ∷ take (chunk_bytes xs m) xs = rw (chunk-bytes-turn a b xs (suc n) (omega arith)) at e in
    let p : c ≡ a = cc in
    let q : d ≡ b = cc in
    same_turn (suc n) a b c d (omega arith) (rw (p, q)) xs ys (begin-same xs ys m (omega (arith, chunk-length a b xs)) (cc))

alike_same : (n : ℕ) (xs ys : List ℕ) → ChunksAlike n xs ys → SameChunks n xs ys × (drop (chunk_bytes ys n) ys ≡ drop (chunk_bytes xs n) xs)
alike_same n xs ys same = (record { covers = refl; bytes = refl }, refl)
alike_same n (a ∷ b ∷ xs) (c ∷ d ∷ ys) (chunk some e r) =
    let s = alike_same (n - symbol_count (a * 256 + b)) xs ys r in
    (same_turn n a b c d some e xs ys s.0, rw (chunk-bytes-turn c d ys n some, chunk-bytes-turn a b xs n some, left-same n a b c d some e) s.1)

-- ---- the messages
module _
    (message other : List ℕ) (begin : take header_bytes other ≡ take header_bytes message) (chunks : SameChunks (status_count message) (drop header_bytes message) (drop header_bytes other)) where
  counted_same : symbols other ≡ symbols message
  counted_same = ap (λ (n : ℕ). take n (chunk_symbols (drop header_bytes other))) (count_same message other begin) ∙ chunks.covers

  place_same : deltas_at other ≡ deltas_at message
  place_same = ap (λ (n : ℕ). header_bytes + chunk_bytes (drop header_bytes other) n) (count_same message other begin) ∙ ap (λ (k : ℕ). header_bytes + k) chunks.bytes

-- bytes after the last recv delta of a good message may be changed, cut or added
pub after-last-delta :
    (message other : List ℕ) (h : Header) → judge message ≡ Ok h → take (deltas_end message) other ≡ take (deltas_end message) message → SameReading message other
after-last-delta message other h good e =
    let a = accepted message h good in
    let n = status_count message in
    let begin : take header_bytes other ≡ take header_bytes message = part_same message other (deltas_end message) e 0 header_bytes (omega arith) in
    let chunks : SameChunks n (drop header_bytes message) (drop header_bytes other) =
    begin-same (drop header_bytes message) (drop header_bytes other) n (omega (arith, a.covered, length-take n (chunk_symbols (drop header_bytes message))))
    (part_same message other (deltas_end message) e header_bytes (chunk_bytes (drop header_bytes message) n) (omega arith)) in
    same-reading message other
    (record {
      header = begin;
      counted = counted_same message other begin chunks;
      deltas =
          ap (λ (k : ℕ). take (delta_bytes (symbols message)) (drop k other)) (place_same message other begin chunks)
          ∙ part_same message other (deltas_end message) e (deltas_at message) (delta_bytes (symbols message)) (omega arith);
    })

-- other chunks with the same counted symbols, of a message that is good or not
pub same-counted-symbols :
    (message other : List ℕ) → take header_bytes other ≡ take header_bytes message → ChunksAlike (status_count message) (drop header_bytes message) (drop header_bytes other) →
    SameReading message other
same-counted-symbols message other begin alike =
    let s = alike_same (status_count message) (drop header_bytes message) (drop header_bytes other) alike in
    same-reading message other
    (record {
      header = begin;
      counted = counted_same message other begin s.0;
      deltas =
          ap (take (delta_bytes (symbols message)))
          (ap (λ (n : ℕ). drop (header_bytes + chunk_bytes (drop header_bytes other) n) other) (count_same message other begin)
          ∙ sym (drop-drop (chunk_bytes (drop header_bytes other) (status_count message)) header_bytes other)
          ∙ s.1
          ∙ drop-drop (chunk_bytes (drop header_bytes message) (status_count message)) header_bytes message);
    })

front-alike :
    (front xs ys : List ℕ) (n : ℕ) → length front % 2 ≡ 0 → 0 < n - length (chunk_symbols front) → ChunksAlike (n - length (chunk_symbols front)) xs ys →
    ChunksAlike n (front ++ xs) (front ++ ys)
unfolding chunk_symbols
front-alike [] xs ys n even some alike =
    let e : n - 0 ≡ n = omega arith in
    rw e at alike
front-alike (a ∷ []) xs ys n even some alike = absurd (omega arith)
front-alike (a ∷ b ∷ front) xs ys n even some alike =
    let l = chunk-length a b front in
    let e : n - length (chunk_symbols (a ∷ b ∷ front)) ≡ n - symbol_count (a * 256 + b) - length (chunk_symbols front) = omega arith in
    let p : 0 < n = omega arith in
    chunk p refl (front-alike front xs ys (n - symbol_count (a * 256 + b)) (omega arith) (omega arith) (rw e at alike))

-- After the header and whole chunks that leave n statuses, n not 0, a chunk may be replaced by any other with the same first n symbols: spare symbols are not read.
pub spare-symbols :
    (front rest : List ℕ) (a b c d : ℕ) → header_bytes ≤ length front → length front % 2 ≡ 0 → 0 < statuses_left front →
    take (statuses_left front) (symbols_of (c * 256 + d)) ≡ take (statuses_left front) (symbols_of (a * 256 + b)) →
    SameReading (front ++ a ∷ b ∷ rest) (front ++ c ∷ d ∷ rest)
spare-symbols front rest a b c d long even some e =
    same-counted-symbols (front ++ a ∷ b ∷ rest) (front ++ c ∷ d ∷ rest)
    (take-append-le header_bytes front (c ∷ d ∷ rest) long ∙ sym (take-append-le header_bytes front (a ∷ b ∷ rest) long))
    (rw (front-count front (a ∷ b ∷ rest) long, drop-append-le header_bytes front (a ∷ b ∷ rest) long, drop-append-le header_bytes front (c ∷ d ∷ rest) long)
    (front-alike (drop header_bytes front) (a ∷ b ∷ rest) (c ∷ d ∷ rest) (status_count front) (omega (arith, length-drop header_bytes front)) some (chunk some e same)))
