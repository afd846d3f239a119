-- A feedback message of draft-holmer-rmcat-transport-wide-cc-extensions-01, section 3.1, after the media source identifier: the header, the packet status chunks, the recv deltas. What lies past a list's end counts as 0.
use Rattle.std.specs.Prelude.{ℕ, ◌+◌, ◌*◌, ◌-◌, ◌%◌, ◌^◌, cond, List, [], ◌∷◌, ◌++◌, eqb, ltb, ℤ, pos, ◌+ℤ◌, length, get_or, take, drop, Some, None, Result, Ok, Err}
use Rattle.std.proofs.Math.IntN.{sub_ℕ}
use Rattle.status_chunk.specs.Chunk.{not_received, small_delta, large_delta, symbol_count, symbols_of, delta_bytes, any_reserved}
use Rattle.twcc.specs.declared.Header.{Header}
use Rattle.twcc.specs.declared.Packet.{Packet}
use Rattle.twcc.specs.declared.Refusal.{Refusal}
use Rattle.twcc.specs.declared.Refusal.TheVariants.{CutShort, Reserved, NoStatus}

-- ---- numbers
-- 16 and 24 bits at a place, the most significant byte first
abbrev pub read_u16 : List ℕ → ℕ → ℕ
read_u16 bytes at = get_or bytes at 0 * 256 + get_or bytes (at + 1) 0

abbrev pub read_u24 : List ℕ → ℕ → ℕ
read_u24 bytes at = read_u16 bytes at * 256 + get_or bytes (at + 2) 0

-- bits as a signed number, where `half` has the top bit alone
unfoldable pub signed : ℕ → ℕ → ℤ
signed half bits = sub_ℕ bits (cond (ltb bits half) 0 (2 * half))

-- ---- the header
abbrev pub header_bytes : ℕ
header_bytes = 8

abbrev pub base_seq : List ℕ → ℕ
base_seq message = read_u16 message 0

abbrev pub status_count : List ℕ → ℕ
status_count message = read_u16 message 2

-- the reference time is in units of 64 ms
abbrev pub read_header : List ℕ → Header
read_header message =
    record {
      base_seq = base_seq message;
      status_count = status_count message;
      reference_time = signed 0x80_0000 (read_u24 message 4);
      feedback_count = get_or message 7 0;
    }

-- ---- the chunks
-- the symbols of bytes that are all chunks, one chunk after another
unfoldable pub chunk_symbols : List ℕ → List ℕ
chunk_symbols [] = []
chunk_symbols (a ∷ []) = []
chunk_symbols (a ∷ b ∷ rest) = symbols_of (a * 256 + b) ++ chunk_symbols rest

-- how many bytes the chunks have that cover n statuses
unfoldable pub chunk_bytes : List ℕ → ℕ → ℕ
chunk_bytes [] n = 0
chunk_bytes (a ∷ []) n = 0
chunk_bytes (a ∷ b ∷ rest) n = cond (eqb n 0) 0 (2 + chunk_bytes rest (n - symbol_count (a * 256 + b)))

-- the symbols that the status count counts, fewer where the chunks are cut short
abbrev pub symbols : List ℕ → List ℕ
symbols message = take (status_count message) (chunk_symbols (drop header_bytes message))

-- where the deltas start, behind the last chunk, and where they end
abbrev pub deltas_at : List ℕ → ℕ
deltas_at message = header_bytes + chunk_bytes (drop header_bytes message) (status_count message)

abbrev pub deltas_end : List ℕ → ℕ
deltas_end message = deltas_at message + delta_bytes (symbols message)

-- ---- the questions
-- 15, a counted symbol that is there is reserved; then 14, a chunk or a delta is cut short: the chunks stand before the deltas, and a chunk that is missing after all symbols that are there
abbrev pub judge_symbols : List ℕ → Result Header Refusal
judge_symbols message =
    cond (any_reserved (symbols message)) (Err Reserved)
    (cond (ltb (length (symbols message)) (status_count message)) (Err CutShort)
    (cond (ltb (length message) (deltas_end message)) (Err CutShort) (Ok (read_header message))))

-- before them 14 of the header, and 16 straight after it
unfoldable pub judge : List ℕ → Result Header Refusal
judge message = cond (ltb (length message) header_bytes) (Err CutShort) (cond (eqb (status_count message) 0) (Err NoStatus) (judge_symbols message))

abbrev pub refusal_number : Refusal → ℕ
refusal_number CutShort = 14
refusal_number Reserved = 15
refusal_number NoStatus = 16

-- 0 of a good message
abbrev pub number : Result Header Refusal → ℕ
number (Ok h) = 0
number (Err r) = refusal_number r

-- ---- the packets
-- the recv delta of a symbol at the front of the deltas, in ticks of 250 µs: a byte, or two bytes and signed
unfoldable pub recv_delta : ℕ → List ℕ → ℤ
recv_delta symbol deltas = cond (eqb symbol large_delta) (signed 0x8000 (read_u16 deltas 0)) (cond (eqb symbol small_delta) (pos (get_or deltas 0 0)) (pos 0))

unfoldable pub packet : ℕ → ℕ → ℤ → Packet
packet symbol sequence ticks = record { sequence = sequence; ticks = cond (eqb symbol not_received) None (Some ticks) }

-- the packets of symbols and deltas, from a sequence number and the time of the packet before on
unfoldable pub packets_from : ℕ → ℤ → List ℕ → List ℕ → List Packet
packets_from sequence ticks [] deltas = []
packets_from sequence ticks (s ∷ ss) deltas =
    packet s sequence (ticks +ℤ recv_delta s deltas) ∷ packets_from ((sequence + 1) % 2 ^ 16) (ticks +ℤ recv_delta s deltas) ss (drop s deltas)

-- the packets that a message tells of: those of its symbols, the first from the base sequence and the reference on; none of a message that is turned down
abbrev pub packets_of : Result Header Refusal → List ℕ → List Packet
packets_of (Ok h) message = packets_from (base_seq message) (pos 0) (symbols message) (drop (deltas_at message) message)
packets_of (Err r) message = []

unfoldable pub packets : List ℕ → List Packet
packets message = packets_of (judge message) message
