-- What a reader of feedback messages does, over whole messages and any number of steps. `start` and `next` below are the definitions that the contracts of the functions of crates/feedback_reader cite,
-- `judge` and `packets` those of crates/twcc (specs/Feedback.antt).
use Rattle.std.specs.Prelude.{◌≡◌, refl, ℕ, zero, suc, ◌+◌, ◌%◌, ◌^◌, ◌<◌, List, [], ◌∷◌, ◌++◌, map, ◌↔◌, length, get_or, take, drop, replicate, Option, Some, None, Result, Ok, Err}
use Rattle.std.proofs.Common.{sym, ap, ◌∙◌}
use Rattle.std.specs.Borrow.{Bor}
use Rattle.twcc.specs.Feedback.{header_bytes, status_count, read_header, deltas_end, judge, packets}
use Rattle.twcc.specs.declared.Header.{Header}
use Rattle.twcc.specs.declared.Packet.{Packet}
use Rattle.twcc.specs.declared.Refusal.{Refusal}
use Rattle.feedback_reader.specs.Reader.{start, started, reader_start, reader_next}
use Rattle.feedback_reader.specs.Starting.{start-good, start-refused}
use Rattle.feedback_reader.specs.declared.Started.{Started}
use Rattle.feedback_reader.specs.declared.FeedbackReader.{FeedbackReader}
use Rattle.feedback_lists.specs.Lists.{next_packets}
use Rattle.feedback_runs.specs.Packets.{missing, accepted, packets-refused, packets-count, packets-sequence}
use Rattle.feedback_runs.specs.InOrder.{judge_in_order, judged-in-order}
use Rattle.feedback_runs.specs.Questions.{Says, judgement-says}
use Rattle.feedback_runs.specs.Unread.{SameReading, ChunksAlike, after-last-delta, same-counted-symbols}
use Rattle.feedback_runs.specs.Handing.{no_packets, cursor_of, answers_at, all-handed}
use Rattle.feedback_runs.specs.InLists.{first-packets}

-- the first n answers of a reader, each step taking the reader that the step before gave back
unfoldable pub answers : ℕ → FeedbackReader → List (Option Packet)
answers zero r = []
answers (suc n) r = (reader_next r).packet ∷ answers n (reader_next r).reader

-- the header that a started reader tells, or the refusal
abbrev pub told_by : Result FeedbackReader Refusal → Result Header Refusal
told_by (Ok r) = Ok (read_header r.message.now)
told_by (Err e) = Err e

-- the reader that was started; a message that is turned down starts none, and this one has no packets left
abbrev pub reader_of : Bor (List ℕ) → Result FeedbackReader Refusal → FeedbackReader
reader_of message (Ok r) = r
reader_of message (Err e) = record { message = message; cursor = no_packets }

-- a started reader, where m is what the lent bytes hold
pub record Reading (message : Bor (List ℕ)) (m : List ℕ) : Type 0 where
  -- a reader is started by judging: what its header says, or why there is none
  pub judged : told_by (reader_start message) ≡ judge m
  -- its answers are the packets of the message, each once, in order, and then that none is left, for ever
  pub handed : (k : ℕ) → answers (length (packets m) + k) (reader_of message (reader_start message)) ≡ map Some (packets m) ++ replicate k None
  -- and n of them handed out to lists are the first n
  pub in-lists : (n : ℕ) → next_packets n m (cursor_of (start m)) ≡ take n (packets m)
  -- a good message tells its header's numbers, and has as many packets as its status count, in sequence order modulo 65,536
  pub header : (h : Header) → judge m ≡ Ok h → h ≡ read_header m
  pub count : (h : Header) → judge m ≡ Ok h → length (packets m) ≡ h.status_count
  pub sequence : (h : Header) → judge m ≡ Ok h → (i : ℕ) → i < h.status_count → (get_or (packets m) i missing).sequence ≡ (h.base_seq + i) % 2 ^ 16
  -- a message that is turned down has none
  pub refused : ((h : Header) → judge m ≡ Ok h → ⊥) → packets m ≡ []
  -- the judgement is the first fault that is met in reading order; what each says
  pub in_order : judge m ≡ judge_in_order m
  pub meaning : (j : Result Header Refusal) → (judge m ≡ j) ↔ Says m j
  -- what is not read does not matter: the bytes behind the last delta, and the spare symbols of chunks whose counted symbols are the same
  pub behind : (h : Header) → judge m ≡ Ok h → (other : List ℕ) → take (deltas_end m) other ≡ take (deltas_end m) m → SameReading m other
  pub spare : (other : List ℕ) → take header_bytes other ≡ take header_bytes m → ChunksAlike (status_count m) (drop header_bytes m) (drop header_bytes other) → SameReading m other

-- ---- the proof
reader-answers : (n : ℕ) (r : FeedbackReader) → answers n r ≡ answers_at n r.message.now r.cursor
unfolding answers answers_at
reader-answers zero r = refl
reader-answers (suc n) r = ap (λ (l : List (Option Packet)). (reader_next r).packet ∷ l) (reader-answers n (reader_next r).reader)

module _ (message : Bor (List ℕ)) where
  abbrev m : List ℕ
  m = message.now

  reader-judged : told_by (reader_start message) ≡ judge m
  reader-judged = go (judge m) refl
    where
      go : (j : Result Header Refusal) → judge m ≡ j → told_by (reader_start message) ≡ j
      go (Ok h) e = rw (start-good m h e) (ap Ok (sym (accepted m h e).told))
      go (Err r) e = rw (start-refused m r e)

  -- a reader holds the message, and the cursor of the start
  holds : (s : Result Started Refusal) → reader_of message (started message s) ≡ record { message = message; cursor = cursor_of s }
  holds (Ok s) = refl
  holds (Err r) = refl

  reader-handed : ((i : ℕ) → get_or m i 0 < 256) → (k : ℕ) → answers (length (packets m) + k) (reader_of message (reader_start message)) ≡ map Some (packets m) ++ replicate k None
  reader-handed bytes k =
      rw (holds (start m)) (reader-answers (length (packets m) + k) (record { message = message; cursor = cursor_of (start m) }) ∙ all-handed m k bytes)

-- for every slice of bytes
pub reading : (message : Bor (List ℕ)) → ((i : ℕ) → get_or message.now i 0 < 256) → Reading message message.now
reading message bytes =
    let m = message.now in
    record {
      judged = reader-judged message;
      handed = reader-handed message bytes;
      in-lists = λ n. first-packets n m bytes;
      header = λ h good. (accepted m h good).told;
      count = λ h good. packets-count m h good ∙ ap (λ (x : Header). x.status_count) (sym (accepted m h good).told);
      sequence = λ h good i l. rw (accepted m h good).told (packets-sequence m h bytes good i (rw (accepted m h good).told at l));
      refused = packets-refused m;
      in_order = sym (judged-in-order m);
      meaning = judgement-says m;
      behind = λ h good other e. after-last-delta m other h good e;
      spare = same-counted-symbols m;
    }
