-- What a yes says of a message, and the packets of a good message: as many as its status count, in sequence order modulo 65,536. A message that is turned down has none.
use Rattle.std.specs.Prelude.{◌≡◌, ℕ, zero, suc, ◌+◌, ◌%◌, ◌^◌, ◌≤◌, ◌<◌, Bool, true, false, cond, List, [], ◌∷◌, ◌⊎◌, eqb, ltb, ℤ, pos, ◌+ℤ◌, length, get_or, drop, None, Result, Ok, Err}
use Rattle.std.proofs.Math.Path.{refl}
use Rattle.std.proofs.Common.{ap, ◌∙◌, arith, length-take, ltb-false}
use Rattle.std.proofs.Math.Logic.{inl, inr}
use Rattle.std.proofs.lemmas.Bool.{eqb-false}
use Rattle.status_chunk.specs.Chunk.{any_reserved}
use Rattle.twcc.specs.Feedback.{header_bytes, base_seq, status_count, read_header, chunk_symbols, symbols, deltas_at, deltas_end, judge, recv_delta, packet, packets_from, packets_of, packets}
use Rattle.twcc.specs.declared.Header.{Header}
use Rattle.twcc.specs.declared.Packet.{Packet}
use Rattle.twcc.specs.declared.Refusal.{Refusal}

-- ---- a yes
pub record Accepted (message : List ℕ) (h : Header) : Type 0 where
  pub told : h ≡ read_header message
  pub long : header_bytes ≤ length message
  pub some : status_count message ≡ 0 → ⊥
  pub unreserved : any_reserved (symbols message) ≡ false
  pub covered : length (symbols message) ≡ status_count message
  pub deltas : deltas_end message ≤ length message

-- a test between a refusal and what follows, that comes to a yes
passed : (t : Bool) {x y : Result Header Refusal} {h : Header} → (x ≡ Ok h → ⊥) → cond t x y ≡ Ok h → (t ≡ false) × (y ≡ Ok h)
passed true no-yes e = absurd (no-yes e)
passed false no-yes e = (refl, e)

pub refused-no-yes : {r : Refusal} {h : Header} → Err r ≡ Ok h → ⊥
refused-no-yes e = let z : ◌≡◌ {A = ℕ} 0 1 = cc in omega arith

pub accepted : (message : List ℕ) (h : Header) → judge message ≡ Ok h → Accepted message h
unfolding judge
accepted message h good =
    let a = passed (ltb (length message) header_bytes) refused-no-yes good in
    let b = passed (eqb (status_count message) 0) refused-no-yes a.1 in
    let c = passed (any_reserved (symbols message)) refused-no-yes b.1 in
    let d = passed (ltb (length (symbols message)) (status_count message)) refused-no-yes c.1 in
    let e = passed (ltb (length message) (deltas_end message)) refused-no-yes d.1 in
    let f = ltb-false (length (symbols message)) (status_count message) d.0 in
    record {
      told = let g = e.1 in cc;
      long = ltb-false (length message) header_bytes a.0;
      some = eqb-false (status_count message) 0 b.0;
      unreserved = c.0;
      covered = omega (arith, length-take (status_count message) (chunk_symbols (drop header_bytes message)));
      deltas = ltb-false (length message) (deltas_end message) e.0;
    }

-- ---- the packets
pub packets-good :
    (message : List ℕ) (h : Header) → judge message ≡ Ok h →
    packets message ≡ packets_from (base_seq message) (pos 0) (symbols message) (drop (deltas_at message) message)
unfolding packets
packets-good message h good = rw good

pub packets-refused : (message : List ℕ) → ((h : Header) → judge message ≡ Ok h → ⊥) → packets message ≡ []
unfolding packets
packets-refused message no-yes = go (judge message) no-yes
  where
    go : (j : Result Header Refusal) → ((h : Header) → j ≡ Ok h → ⊥) → packets_of j message ≡ []
    go (Ok h) no-yes = absurd (no-yes h refl)
    go (Err r) no-yes = refl

count-from : (q : ℕ) (t : ℤ) (ss deltas : List ℕ) → length (packets_from q t ss deltas) ≡ length ss
unfolding packets_from
count-from q t [] deltas = refl
count-from q t (s ∷ ss) deltas = ap suc (count-from ((q + 1) % 2 ^ 16) (t +ℤ recv_delta s deltas) ss (drop s deltas))

module _ (message : List ℕ) where
  count-good : (h : Header) → judge message ≡ Ok h → length (packets_from (base_seq message) (pos 0) (symbols message) (drop (deltas_at message) message)) ≡ status_count message
  count-good h good = count-from (base_seq message) (pos 0) (symbols message) (drop (deltas_at message) message) ∙ (accepted message h good).covered

  pub packets-count : (h : Header) → judge message ≡ Ok h → length (packets message) ≡ status_count message
  packets-count h good = rw (packets-good message h good) (count-good h good)

  pub packets-none-or-all : (length (packets message) ≡ 0) ⊎ (length (packets message) ≡ status_count message)
  unfolding packets
  packets-none-or-all = go (judge message) refl
    where
      go : (j : Result Header Refusal) → judge message ≡ j → (length (packets_of j message) ≡ 0) ⊎ (length (packets_of j message) ≡ status_count message)
      go (Ok h) e = inr (count-good h e)
      go (Err r) e = inl refl

-- ---- their sequence numbers
-- past the last
abbrev pub missing : Packet
missing = record { sequence = 0; ticks = None }

sequence-is : (s q : ℕ) (t : ℤ) → (packet s q t).sequence ≡ q
unfolding packet
sequence-is s q t = refl

sequence-from : (i q : ℕ) (t : ℤ) (ss deltas : List ℕ) → q < 2 ^ 16 → i < length ss → (get_or (packets_from q t ss deltas) i missing).sequence ≡ (q + i) % 2 ^ 16
unfolding packets_from
sequence-from i q t [] deltas h l = absurd (omega arith)
sequence-from zero q t (s ∷ ss) deltas h l = sequence-is s q (t +ℤ recv_delta s deltas) ∙ omega arith
sequence-from (suc i) q t (s ∷ ss) deltas h l = sequence-from i ((q + 1) % 2 ^ 16) (t +ℤ recv_delta s deltas) ss (drop s deltas) (omega arith) (omega arith) ∙ omega arith

-- packet i, in a message of bytes
pub packets-sequence :
    (message : List ℕ) (h : Header) → ((i : ℕ) → get_or message i 0 < 256) → judge message ≡ Ok h →
    (i : ℕ) → i < status_count message → (get_or (packets message) i missing).sequence ≡ (base_seq message + i) % 2 ^ 16
packets-sequence message h bytes good i l =
    rw (packets-good message h good)
    (sequence-from i (base_seq message) (pos 0) (symbols message) (drop (deltas_at message) message) (omega (arith, bytes 0, bytes 1)) (omega (arith, (accepted message h good).covered)))
