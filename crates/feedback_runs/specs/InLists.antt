-- Packets handed out to lists are those of the message: n from a started reader are its first n packets, and readings with any rooms, one after another, go on where the one before ended (`packets-add`, crate feedback_lists).
use Rattle.std.specs.Prelude.{◌≡◌, refl, ℕ, zero, suc, ◌<◌, List, [], ◌∷◌, get_or, take, None, Result, Ok, Err}
use Rattle.std.proofs.Common.{sym, ap, ◌∙◌, arith, eq-eqb}
use Rattle.twcc.specs.Feedback.{packets}
use Rattle.twcc.specs.declared.Packet.{Packet}
use Rattle.twcc.specs.declared.Refusal.{Refusal}
use Rattle.feedback_reader.specs.Reader.{start, step}
use Rattle.feedback_reader.specs.declared.Started.{Started}
use Rattle.feedback_reader.specs.declared.Cursor.{Cursor}
use Rattle.feedback_lists.specs.Lists.{next_packets}
use Rattle.feedback_lists.specs.Laws.{packets-none, packets-some}
use Rattle.feedback_runs.specs.Handing.{Sound, to_come, nothing-to-come, packet_now, handed-now, to-come-step, sound-step, start-cursor, start-sound, all-to-come, no_packets, cursor_of, none-started}

-- ---- from any reader that has all it needs
no-packet : (message : List ℕ) (cursor : Cursor) → cursor.packets_left ≡ 0 → (step message cursor).packet ≡ None
unfolding step
no-packet message cursor e = rw (eq-eqb cursor.packets_left 0 e)

pub next-packets : (n : ℕ) (message : List ℕ) (cursor : Cursor) → Sound message cursor → next_packets n message cursor ≡ take n (to_come message cursor)
unfolding next_packets
next-packets zero message cursor sound = refl
next-packets (suc n) message cursor sound =
    go cursor.packets_left refl (λ some. next-packets n message (step message cursor).cursor (sound-step message cursor sound some))
  where
    go : (k : ℕ) → cursor.packets_left ≡ k →
        (0 < cursor.packets_left → next_packets n message (step message cursor).cursor ≡ take n (to_come message (step message cursor).cursor)) →
        next_packets (suc n) message cursor ≡ take (suc n) (to_come message cursor)
    go zero e others = packets-none message cursor (no-packet message cursor e) (suc n) ∙ sym (ap (take (suc n)) (nothing-to-come message cursor e))
    go (suc k) e others =
        let some : 0 < cursor.packets_left = omega arith in
        packets-some message cursor (handed-now message cursor sound some) n
        ∙ rw (to-come-step message cursor sound some) (ap (λ (l : List Packet). packet_now message cursor sound some ∷ l) (others some))

-- ---- from a started one
pub good-first : (n : ℕ) (message : List ℕ) → ((i : ℕ) → get_or message i 0 < 256) → (s : Started) → start message ≡ Ok s → next_packets n message s.cursor ≡ take n (packets message)
good-first n message bytes s e =
    rw (start-cursor message bytes s e) (next-packets n message _ (start-sound message bytes s e) ∙ ap (take n) (all-to-come message bytes s e))

nil : (n : ℕ) → ◌≡◌ {A = List Packet} (take n []) []
nil zero = refl
nil (suc n) = refl

pub first-packets : (n : ℕ) (message : List ℕ) → ((i : ℕ) → get_or message i 0 < 256) → next_packets n message (cursor_of (start message)) ≡ take n (packets message)
first-packets n message bytes = go (start message) refl
  where
    go : (started : Result Started Refusal) → start message ≡ started → next_packets n message (cursor_of started) ≡ take n (packets message)
    go (Ok s) e = good-first n message bytes s e
    go (Err r) e = packets-none message no_packets (no-packet message no_packets refl) n ∙ sym (ap (take n) (none-started message r e) ∙ nil n)
