-- What C gets from a feedback reader in lent words: `words_started`, `packets_to` and `words_after` are the definitions that the contracts of `hornetpewter_feedback_start` and `hornetpewter_feedback_next` cite (crate c_feedback), `packets` that of a message (crate twcc).
use Rattle.std.proofs.Math.Path.{◌≡◌, refl, ap}
use Rattle.std.proofs.Common.{◌∙◌, arith}
use Prim.Native.Nat.{ℕ, zero, suc, ◌+◌, ◌<◌}
use mathlib.Core.List.{List, [], ◌∷◌, ◌++◌}
use Rattle.std.specs.Prelude.{ℤ, get_or, take, Option, Some, None, Result, Ok, Err}
use Rattle.twcc.specs.Feedback.{judge, packets}
use Rattle.twcc.specs.declared.Header.{Header}
use Rattle.twcc.specs.declared.Refusal.{Refusal}
use Rattle.twcc.specs.declared.Packet.{Packet}
use Rattle.feedback_reader.specs.Reader.{start, step}
use Rattle.feedback_reader.specs.declared.Cursor.{Cursor}
use Rattle.feedback_reader.specs.Starting.{started_at, start-good, start-refused}
use Rattle.feedback_lists.specs.Lists.{next_packets, cursor_after, room}
use Rattle.feedback_lists.specs.Laws.{cursor-none, packets-some, packets-add}
use Rattle.feedback_runs.specs.InLists.{good-first}
use Rattle.c_feedback.specs.CFeedback.{to_words, words_started, packets_to, if_some, words_after}
use Rattle.c_feedback.specs.Laws.{Typed, cursor-words}
use Rattle.lent_feedback.specs.Typed.{after-typed, start-typed}

-- the lists that are lent to a call
pub record Lists : Type 0 where
  pub statuses : List ℕ
  pub ticks : List ℤ

-- the packets that calls hand out one after another, each on the words that the one before left
unfoldable pub handed_out : List Lists → List ℕ → List ℕ → List Packet
handed_out [] message words = []
handed_out (l ∷ ls) message words = packets_to l.statuses l.ticks message words ++ handed_out ls message (words_after l.statuses l.ticks message words)

-- how many packets the calls have room for
unfoldable pub rooms : List Lists → ℕ
rooms [] = 0
rooms (l ∷ ls) = room l.statuses l.ticks + rooms ls

pub record Calls (message : List ℕ) : Type 0 where
  -- from the words of a reader that was started on a good message, whatever they held, calls with any lists hand out the message's packets, in order, each once, and then none
  pub handed : (h : Header) → judge message ≡ Ok h → (words : List ℕ) (ls : List Lists) → handed_out ls message (words_started (start message) words) ≡ take (rooms ls) (packets message)
  -- a message that is turned down leaves the words
  pub refused : ((h : Header) → judge message ≡ Ok h → ⊥) → (words : List ℕ) → words_started (start message) words ≡ words

-- ---- calls on words
-- where no packet is handed out, nothing moves
module _ (message : List ℕ) (cursor : Cursor) where
  stays : (n : ℕ) → next_packets n message cursor ≡ [] → cursor_after n message cursor ≡ cursor
  unfolding cursor_after
  stays zero e = refl
  stays (suc n) e = go (step message cursor).packet refl
    where
      go : (o : Option Packet) → (step message cursor).packet ≡ o → cursor_after (suc n) message cursor ≡ cursor
      go None f = cursor-none message cursor f (suc n)
      go (Some p) f = absurd (let g = packets-some message cursor f n in let z : ◌≡◌ {A = ℕ} 0 1 = cc in omega arith)

module _ (message : List ℕ) (bytes : (i : ℕ) → get_or message i 0 < 256) where
  calls-on-words : (ls : List Lists) (cursor : Cursor) → Typed cursor → handed_out ls message (to_words cursor) ≡ next_packets (rooms ls) message cursor
  unfolding handed_out rooms next_packets
  calls-on-words [] cursor t = refl
  calls-on-words (l ∷ ls) cursor t =
      let n = room l.statuses l.ticks in
      let others = calls-on-words ls (cursor_after n message cursor) (after-typed message bytes n cursor t) in
      rw (cursor-words cursor t, packets-add n (rooms ls) message cursor) (go n (next_packets n message cursor) refl others (calls-on-words ls cursor t))
    where
      go : (n : ℕ) (ps : List Packet) → next_packets n message cursor ≡ ps →
          handed_out ls message (to_words (cursor_after n message cursor)) ≡ next_packets (rooms ls) message (cursor_after n message cursor) →
          handed_out ls message (to_words cursor) ≡ next_packets (rooms ls) message cursor →
          ps ++ handed_out ls message (if_some ps (to_words (cursor_after n message cursor)) (to_words cursor)) ≡ ps ++ next_packets (rooms ls) message (cursor_after n message cursor)
      go n [] e others same = rw (stays message cursor n e) same
      go n (p ∷ ps) e others same = ap (λ (q : List Packet). (p ∷ ps) ++ q) others

-- ---- the claim
module _ (message : List ℕ) (bytes : (i : ℕ) → get_or message i 0 < 256) where
  good-handed : (h : Header) → judge message ≡ Ok h → (words : List ℕ) (ls : List Lists) → handed_out ls message (words_started (start message) words) ≡ take (rooms ls) (packets message)
  good-handed h good words ls =
      let e = start-good message h good in
      let s = started_at message h in
      rw e (calls-on-words message bytes ls s.cursor (start-typed message bytes s e) ∙ good-first (rooms ls) message bytes s e)

  bad-kept : (j : Result Header Refusal) → judge message ≡ j → ((h : Header) → judge message ≡ Ok h → ⊥) → (words : List ℕ) → words_started (start message) words ≡ words
  bad-kept (Ok h) e none words = absurd (none h e)
  bad-kept (Err r) e none words = rw (start-refused message r e)

pub calls : (message : List ℕ) → ((i : ℕ) → get_or message i 0 < 256) → Calls message
calls message bytes = record { handed = good-handed message bytes; refused = λ none words. bad-kept message bytes (judge message) refl none words }
