-- A reader of a feedback message: where it starts, and what a step gives.
use Rattle.std.specs.Prelude.{ℕ, ◌+◌, ◌-◌, ◌*◌, ◌%◌, ◌^◌, cond, List, [], ◌∷◌, length, drop, ◌==◌, nat_lt, slice_index, Option, Some, None, Result, Ok, Err}
use Rattle.std.specs.Borrow.{Bor}
use Rattle.status_chunk.specs.Chunk.{small_delta, large_delta, reserved, symbol_count, symbol_left}
use Rattle.twcc.specs.Feedback.{read_u16, signed, header_bytes, packet}
use Rattle.twcc.specs.Numbers.{sign_extend}
use Rattle.twcc.specs.Judging.{judge_with_deltas}
use Rattle.twcc.specs.declared.Judgement.{Judgement}
use Rattle.twcc.specs.declared.Packet.{Packet}
use Rattle.twcc.specs.declared.Refusal.{Refusal}
use Rattle.feedback_reader.specs.declared.Place.{Place}
use Rattle.feedback_reader.specs.declared.Cursor.{Cursor}
use Rattle.feedback_reader.specs.declared.Started.{Started}
use Rattle.feedback_reader.specs.declared.FeedbackReader.{FeedbackReader}

-- ---- the start
-- the chunk before the first is a run of no symbols
abbrev pub cursor_at : ℕ → ℕ → ℕ → Cursor
cursor_at delta packets base =
    record { place = record { next_chunk = header_bytes; chunk = 0; symbols_left = 0 }; next_delta = delta; packets_left = packets; next_sequence = base; ticks = 0 }

abbrev pub start_by : Result Judgement Refusal → Result Started Refusal
start_by (Ok j) = Ok (record { header = j.header; cursor = cursor_at j.deltas j.header.status_count j.header.base_seq })
start_by (Err r) = Err r

unfoldable pub start : List ℕ → Result Started Refusal
start message = start_by (judge_with_deltas message)

-- ---- a step
-- what it gives, and the cursor after it
pub record Step : Type 0 where
  pub packet : Option Packet
  pub cursor : Cursor

abbrev pub gives : Option Packet → Cursor → Step
gives packet cursor = record { packet = packet; cursor = cursor }

-- the first chunk with a symbol left: the one at hand, or one of those after it
unfoldable pub filled : List ℕ → Place → Place
filled [] place = place
filled (a ∷ []) place = place
filled (a ∷ b ∷ chunks) place =
    cond (place.symbols_left == 0)
    (filled chunks (record { next_chunk = place.next_chunk + 2; chunk = a * 256 + b; symbols_left = symbol_count (a * 256 + b) }))
    place

-- the recv delta of a symbol at a place, in 32 bits
unfoldable pub delta_bits : ℕ → List ℕ → ℕ → ℕ
delta_bits symbol message at = cond (symbol == large_delta) (sign_extend 0x8000 (read_u16 message at)) (cond (symbol == small_delta) (slice_index message at) 0)

abbrev pub ticks_after : List ℕ → Cursor → ℕ → ℕ
ticks_after message cursor symbol = (cursor.ticks + delta_bits symbol message cursor.next_delta) % 2 ^ 32

-- the packet of a symbol, and the cursor after it
unfoldable pub taken : List ℕ → Place → Cursor → ℕ → Step
taken message place cursor symbol =
    record {
      packet = Some (packet symbol cursor.next_sequence (signed 0x8000_0000 (ticks_after message cursor symbol)));
      cursor =
          record {
            place = record { next_chunk = place.next_chunk; chunk = place.chunk; symbols_left = place.symbols_left - 1 };
            next_delta = cursor.next_delta + symbol;
            packets_left = cursor.packets_left - 1;
            next_sequence = (cursor.next_sequence + 1) % 2 ^ 16;
            ticks = ticks_after message cursor symbol;
          };
    }

abbrev pub none : Cursor → Step
none cursor = gives None cursor

-- the packet of a symbol that has its delta
unfoldable pub taken_if : List ℕ → Place → Cursor → ℕ → Step
taken_if message place cursor s =
    cond (s == reserved) (none cursor) (cond (nat_lt (length message) (cursor.next_delta + s)) (none cursor) (taken message place cursor s))

unfoldable pub step_in : List ℕ → Place → Cursor → Step
step_in message place cursor =
    cond (place.symbols_left == 0) (none cursor) (taken_if message place cursor (symbol_left place.chunk place.symbols_left))

-- the next packet; none where none is left, or where the message has no more
unfoldable pub step : List ℕ → Cursor → Step
step message cursor = cond (cursor.packets_left == 0) (none cursor) (step_in message (filled (drop cursor.place.next_chunk message) cursor.place) cursor)

-- ---- a reader that holds the message
pub record ReaderStep : Type 0 where
  pub packet : Option Packet
  pub reader : FeedbackReader

abbrev pub started : Bor (List ℕ) → Result Started Refusal → Result FeedbackReader Refusal
started message (Ok s) = Ok (record { message = message; cursor = s.cursor })
started message (Err r) = Err r

abbrev pub reader_start : Bor (List ℕ) → Result FeedbackReader Refusal
reader_start message = started message (start message.now)

abbrev pub reader_next : FeedbackReader → ReaderStep
reader_next r = record { packet = (step r.message.now r.cursor).packet; reader = record { message = r.message; cursor = (step r.message.now r.cursor).cursor } }
