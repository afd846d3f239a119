-- A feedback reader as C has it: seven words that the caller lends, answers as signed numbers, and lent places.
use Rattle.std.specs.Prelude.{ℕ, ◌%◌, ◌^◌, List, [], ◌∷◌, ℤ, pos, neg_ℤ, get_or, Result, Ok, Err}
use Rattle.twcc.specs.Feedback.{number}
use Rattle.twcc.specs.declared.Header.{Header}
use Rattle.twcc.specs.declared.Packet.{Packet}
use Rattle.twcc.specs.declared.Refusal.{Refusal}
use Rattle.feedback_reader.specs.declared.Cursor.{Cursor}
use Rattle.feedback_reader.specs.declared.Started.{Started}
use Rattle.feedback_lists.specs.Lists.{next_packets, cursor_after, room}

-- ---- the words
-- the cursor's numbers in the order of its fields
abbrev pub to_words : Cursor → List ℕ
to_words cursor =
    cursor.place.next_chunk ∷ cursor.place.chunk ∷ cursor.place.symbols_left ∷ cursor.next_delta ∷ cursor.packets_left ∷ cursor.next_sequence ∷ cursor.ticks ∷ []

-- each word modulo the size of its number's type
abbrev pub cursor_of : List ℕ → Cursor
cursor_of words =
    record {
      place = record { next_chunk = get_or words 0 0; chunk = get_or words 1 0 % 2 ^ 16; symbols_left = get_or words 2 0 % 2 ^ 16 };
      next_delta = get_or words 3 0;
      packets_left = get_or words 4 0 % 2 ^ 16;
      next_sequence = get_or words 5 0 % 2 ^ 16;
      ticks = get_or words 6 0 % 2 ^ 32;
    }

-- ---- a start
-- 0, or the opposite of the number of the question that fails
abbrev pub code : Result Header Refusal → ℤ
code judged = neg_ℤ (pos (number judged))

-- a lent place: what a yes stores, or as it was
abbrev pub stored : {A B : Type 0} → Result A Refusal → (A → B) → B → B
stored (Ok x) new old = new x
stored (Err r) new old = old

abbrev pub words_started : Result Started Refusal → List ℕ → List ℕ
words_started started old = stored started (λ s. to_words s.cursor) old

abbrev pub base_seq : Result Header Refusal → ℕ → ℕ
base_seq judged old = stored judged (λ h. h.base_seq) old

abbrev pub status_count : Result Header Refusal → ℕ → ℕ
status_count judged old = stored judged (λ h. h.status_count) old

abbrev pub reference_time : Result Header Refusal → ℤ → ℤ
reference_time judged old = stored judged (λ h. h.reference_time) old

abbrev pub feedback_count : Result Header Refusal → ℕ → ℕ
feedback_count judged old = stored judged (λ h. h.feedback_count) old

-- ---- the next packets
-- those of lent words that both lists have room for
abbrev pub packets_to : List ℕ → List ℤ → List ℕ → List ℕ → List Packet
packets_to statuses ticks message words = next_packets (room statuses ticks) message (cursor_of words)

-- a lent place where packets are handed out, or as it was
abbrev pub if_some : {A : Type 0} → List Packet → A → A → A
if_some [] new old = old
if_some (p ∷ packets) new old = new

abbrev pub words_after : List ℕ → List ℤ → List ℕ → List ℕ → List ℕ
words_after statuses ticks message words =
    if_some (packets_to statuses ticks message words)
    (to_words (cursor_after (room statuses ticks) message (cursor_of words)))
    words

-- the sequence number of the first
abbrev pub sequence_after : List Packet → ℕ → ℕ
sequence_after [] old = old
sequence_after (p ∷ packets) old = p.sequence
