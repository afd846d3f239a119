-- Laws of lent words and places.
use Rattle.std.specs.Prelude.{◌≡◌, refl, ℕ, ◌^◌, ◌≤◌, ◌<◌, List, [], ◌∷◌, ℤ, length, Result}
use Rattle.std.proofs.Math.Path.{sym, ap}
use Rattle.std.proofs.Common.{◌∙◌, mod-eq_of_lt, arith}
use Rattle.twcc.specs.Feedback.{judge}
use Rattle.twcc.specs.declared.Packet.{Packet}
use Rattle.twcc.specs.declared.Refusal.{Refusal}
use Rattle.feedback_reader.specs.Reader.{start}
use Rattle.feedback_reader.specs.Starting.{judged_of, start-judged}
use Rattle.feedback_reader.specs.declared.Cursor.{Cursor}
use Rattle.feedback_reader.specs.declared.Started.{Started}
use Rattle.feedback_lists.specs.Lists.{next_packets, cursor_after, room}
use Rattle.feedback_lists.specs.Laws.{first-number, packets-most}
use Rattle.c_feedback.specs.CFeedback.{to_words, cursor_of, packets_to, if_some, words_after, sequence_after}

-- ---- a start
pub judged : (message : List ℕ) {r s : Result Started Refusal} → r ≡ start message → r ≡ s → judge message ≡ judged_of s
judged message is told = sym (start-judged message) ∙ ap judged_of (sym is ∙ told)

-- ---- the next packets
no-packets : (l : List Packet) → length l ≡ 0 → l ≡ []
no-packets [] e = refl
no-packets (p ∷ l) e = absurd (omega arith)

if_some_lem : {A : Type 0} (l : List Packet) (new old : A) → (length l ≡ 0 → ⊥) → new ≡ if_some l new old
if_some_lem [] new old some = absurd (some refl)
if_some_lem (p ∷ l) new old some = refl

-- of loaded words, what `feedback_lists::read` gives
module _ (statuses : List ℕ) (ticks : List ℤ) (message words : List ℕ) {cursor after : Cursor} {n : ℕ} (loaded : cursor ≡ cursor_of words)
    (told : n ≡ length (next_packets (room statuses ticks) message cursor)) (moved : after ≡ cursor_after (room statuses ticks) message cursor) where
  abbrev packets : List Packet
  packets = packets_to statuses ticks message words

  count : n ≡ length packets
  count = told ∙ ap (λ c. length (next_packets (room statuses ticks) message c)) loaded

  none : n ≡ 0 → packets ≡ []
  none e = no-packets packets (sym count ∙ e)

  module _ (some : n ≡ 0 → ⊥) where
    has_some : length packets ≡ 0 → ⊥
    has_some e = some (count ∙ e)

    words-stored : to_words after ≡ words_after statuses ticks message words
    words-stored = ap to_words (moved ∙ ap (cursor_after (room statuses ticks) message) loaded) ∙ if_some_lem packets _ words has_some

    first-told : (old : ℕ) (l : List Packet) → packets ≡ l → (cursor_of words).next_sequence ≡ sequence_after l old
    first-told old [] e = absurd (has_some (ap length e))
    first-told old (p ∷ l) e = sym (first-number message (cursor_of words) (room statuses ticks) e)

  pub record Next : Type 0 where
    pub count-is : n ≡ length packets
    pub few : n ≤ length ticks
    pub words-kept : n ≡ 0 → words ≡ words_after statuses ticks message words
    pub sequence-kept : n ≡ 0 → (old : ℕ) → old ≡ sequence_after packets old
    pub words_are : (n ≡ 0 → ⊥) → to_words after ≡ words_after statuses ticks message words
    pub sequence-is : (n ≡ 0 → ⊥) → (old : ℕ) → cursor.next_sequence ≡ sequence_after packets old
    pub packets-are : next_packets (room statuses ticks) message cursor ≡ packets

  pub next : Next
  next =
      record {
        count-is = count;
        few = omega (arith, count, packets-most (room statuses ticks) message (cursor_of words));
        words-kept = λ e. rw (none e);
        sequence-kept = λ e old. rw (none e);
        words_are = words-stored;
        sequence-is = λ some old. ap (λ (c : Cursor). c.next_sequence) loaded ∙ first-told some old packets refl;
        packets-are = ap (next_packets (room statuses ticks) message) loaded;
      }

-- ---- the words
-- a cursor's numbers are of their types
pub record Typed (cursor : Cursor) : Type 0 where
  pub chunk : cursor.place.chunk < 2 ^ 16
  pub symbols-left : cursor.place.symbols_left < 2 ^ 16
  pub packets-left : cursor.packets_left < 2 ^ 16
  pub next-sequence : cursor.next_sequence < 2 ^ 16
  pub ticks : cursor.ticks < 2 ^ 32

-- the place is of any cursor
pub place-words : (cursor : Cursor) → (cursor_of (to_words cursor)).place.next_chunk ≡ cursor.place.next_chunk
place-words cursor = refl

pub cursor-words : (cursor : Cursor) → Typed cursor → cursor_of (to_words cursor) ≡ cursor
cursor-words cursor t = simp (mod-eq_of_lt t.chunk, mod-eq_of_lt t.symbols-left, mod-eq_of_lt t.packets-left, mod-eq_of_lt t.next-sequence, mod-eq_of_lt t.ticks)
