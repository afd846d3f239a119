-- Chunks and messages by hand, computed from the definitions.
use Rattle.std.specs.Prelude.{◌≡◌, refl, ℕ, ◌/◌, ◌%◌, ◌^◌, List, [], ◌∷◌, ◌++◌, map, ℤ, pos, negsuc, take, replicate, Some, None, Result, Ok, Err}
use Rattle.bool_laws.specs.Table.{Member, here, there}
use Rattle.status_chunk.specs.Chunk.{not_received, reserved, symbol_count, symbol, symbols_from, symbols_of, delta_bytes, any_reserved}
use Rattle.twcc.specs.Feedback.{signed, chunk_symbols, chunk_bytes, judge, recv_delta, packet, packets_from, packets}
use Rattle.twcc.specs.declared.Header.{Header}
use Rattle.twcc.specs.declared.Refusal.{Refusal}
use Rattle.twcc.specs.declared.Refusal.TheVariants.{CutShort, Reserved, NoStatus}
use Rattle.twcc.specs.declared.Packet.{Packet}

-- ---- rows
-- a chunk and its symbols
pub record ChunkRow : Type 0 where
  pub chunk : ℕ
  pub stands-for : List ℕ

-- a message, its judgement and its packets
pub record MessageRow : Type 0 where
  pub message : List ℕ
  pub judged : Result Header Refusal
  pub tells : List Packet

abbrev bytes : List ℕ → List ℕ
bytes [] = []
bytes (word ∷ words) = word / 2 ^ 8 ∷ word % 2 ^ 8 ∷ bytes words

-- base sequence, status count, reference time in 24 bits, feedback count, chunks, and the bytes behind them
abbrev pub laid : ℕ → ℕ → ℕ → ℕ → List ℕ → List ℕ → List ℕ
laid base count reference feedback chunks rest = bytes (base ∷ count ∷ reference / 2 ^ 8 ∷ []) ++ reference % 2 ^ 8 ∷ feedback ∷ bytes chunks ++ rest

abbrev pub good : ℕ → ℕ → ℤ → ℕ → Result Header Refusal
good base count reference feedback = Ok (record { base_seq = base; status_count = count; reference_time = reference; feedback_count = feedback })

-- a packet that was not received, and one that was
abbrev pub unreceived : ℕ → Packet
unreceived sequence = record { sequence = sequence; ticks = None }

abbrev pub received : ℕ → ℤ → Packet
received sequence ticks = record { sequence = sequence; ticks = Some ticks }

abbrev pub row : List ℕ → Result Header Refusal → List Packet → MessageRow
row message judged tells = record { message = message; judged = judged; tells = tells }

-- ---- the chunks of the draft's sections 3.1.3 and 3.1.4
abbrev pub chunks : List ChunkRow
chunks =
    -- a run of 221 packets not received
    record { chunk = 0x00dd; stands-for = replicate 221 not_received }
    -- a run of 24 packets received without a recv delta in the draft's words, here reserved
    ∷ record { chunk = 0x6018; stands-for = replicate 24 reserved }
    -- one packet not received, five received, three not received, three received, two not received
    ∷ record { chunk = 0x9f1c; stands-for = 0 ∷ 1 ∷ 1 ∷ 1 ∷ 1 ∷ 1 ∷ 0 ∷ 0 ∷ 0 ∷ 1 ∷ 1 ∷ 1 ∷ 0 ∷ 0 ∷ [] }
    -- one not received, one reserved, three with a small delta, two not received
    ∷ record { chunk = 0xcd50; stands-for = 0 ∷ 3 ∷ 1 ∷ 1 ∷ 1 ∷ 0 ∷ 0 ∷ [] }
    ∷ []

-- ---- messages
abbrev pub messages : List MessageRow
messages =
    -- an empty run, then large, small, none, small, large; sequence numbers wrap; a byte after the last delta
    row (laid 0xfffe 5 0xfffffe 7 (0x2000 ∷ 0xe460 ∷ []) (0xff ∷ 0xf0 ∷ 4 ∷ 5 ∷ 1 ∷ 0 ∷ 99 ∷ [])) (good 65534 5 (negsuc 1) 7)
    (received 65534 (negsuc 15) ∷ received 65535 (negsuc 11) ∷ unreceived 0 ∷ received 1 (negsuc 6) ∷ received 2 (pos 249) ∷ [])
    -- the reference time is -1
    ∷ row (laid 0 1 0xffffff 0 (0x2001 ∷ []) (5 ∷ [])) (good 0 1 (negsuc 0) 0) (received 0 (pos 5) ∷ [])
    -- a large delta, then a small one
    ∷ row (laid 0 2 0 0 (0x4001 ∷ 0x2001 ∷ []) (5 ∷ 6 ∷ 7 ∷ [])) (good 0 2 (pos 0) 0) (received 0 (pos 1286) ∷ received 1 (pos 1293) ∷ [])
    -- a run past the status count
    ∷ row (laid 0 1 0 0 (0x2002 ∷ []) (5 ∷ [])) (good 0 1 (pos 0) 0) (received 0 (pos 5) ∷ [])
    -- empty runs, one of the reserved symbol
    ∷ row (laid 0 1 0 0 (0x0000 ∷ 0x2001 ∷ []) (5 ∷ [])) (good 0 1 (pos 0) 0) (received 0 (pos 5) ∷ [])
    ∷ row (laid 0 1 0 0 (0x4000 ∷ 0x2001 ∷ []) (5 ∷ [])) (good 0 1 (pos 0) 0) (received 0 (pos 5) ∷ [])
    ∷ row (laid 0 1 0 0 (0x6000 ∷ 0x2001 ∷ []) (5 ∷ [])) (good 0 1 (pos 0) 0) (received 0 (pos 5) ∷ [])
    -- a reserved symbol beyond the status count
    ∷ row (laid 1 1 0 0 (0xcc00 ∷ []) []) (good 1 1 (pos 0) 0) (unreceived 1 ∷ [])
    -- what follows the last chunk is a delta and no chunk, and what follows the last delta is not read
    ∷ row (laid 0 1 0 0 (0x2001 ∷ []) (0x60 ∷ 0x01 ∷ 0xff ∷ [])) (good 0 1 (pos 0) 0) (received 0 (pos 96) ∷ [])
    -- a header of 7 bytes, a chunk of one byte, a large delta of one byte, a small delta that is missing
    ∷ row (take 7 (laid 0 0 0 0 [] [])) (Err CutShort) []
    ∷ row (laid 0 1 0 0 [] (0x60 ∷ [])) (Err CutShort) []
    ∷ row (laid 0 1 0 0 (0x4001 ∷ []) (9 ∷ [])) (Err CutShort) []
    ∷ row (laid 0 2 0 0 (0x4001 ∷ 0x2001 ∷ []) (5 ∷ 6 ∷ [])) (Err CutShort) []
    -- a reserved symbol, though a delta is missing; though the next chunk is missing; though it has one byte
    ∷ row (laid 0 2 0 0 (0x2001 ∷ 0x6001 ∷ []) []) (Err Reserved) []
    ∷ row (laid 0 2 0 0 (0x6001 ∷ []) []) (Err Reserved) []
    ∷ row (laid 0 2 0 0 (0x6001 ∷ []) (0x20 ∷ [])) (Err Reserved) []
    -- 8 bytes, and the status count is 0
    ∷ row (laid 0 0 0 0 [] []) (Err NoStatus) []
    ∷ []

-- ---- every row is what the definitions give
each : {A B : Type 0} (f g : A → B) (r : A) (rs : List A) → map f rs ≡ map g rs → Member r rs → f r ≡ g r
each f g r [] e m = elim m [ ]
each f g r (s ∷ rs) e here = cc
each f g r (s ∷ rs) e (there m) = each f g r rs (cc) m

pub chunk-rows : (r : ChunkRow) → Member r chunks → symbols_of r.chunk ≡ r.stands-for
unfolding symbol_count symbol symbols_from
chunk-rows r m = each (λ (q : ChunkRow). symbols_of q.chunk) (λ (q : ChunkRow). q.stands-for) r chunks refl m

pub judged-rows : (r : MessageRow) → Member r messages → judge r.message ≡ r.judged
unfolding judge symbol_count symbol symbols_from delta_bytes any_reserved signed chunk_symbols chunk_bytes
judged-rows r m = each (λ (q : MessageRow). judge q.message) (λ (q : MessageRow). q.judged) r messages refl m

pub packet-rows : (r : MessageRow) → Member r messages → packets r.message ≡ r.tells
unfolding packets judge symbol_count symbol symbols_from delta_bytes any_reserved signed chunk_symbols chunk_bytes recv_delta packet packets_from
packet-rows r m = each (λ (q : MessageRow). packets q.message) (λ (q : MessageRow). q.tells) r messages refl m
