-- Laws of a start: it judges the message, and of a good one its cursor stands before the first packet.
use Rattle.std.specs.Prelude.{◌≡◌, refl, ℕ, List, Result, Ok, Err}
use Rattle.std.proofs.Common.{sym, ap, ◌∙◌}
use Rattle.twcc.specs.Feedback.{deltas_at, judge}
use Rattle.twcc.specs.Judging.{header_of, judge_with_deltas, judged-is}
use Rattle.twcc.specs.declared.Header.{Header}
use Rattle.twcc.specs.declared.Judgement.{Judgement}
use Rattle.twcc.specs.declared.Refusal.{Refusal}
use Rattle.feedback_reader.specs.Reader.{cursor_at, start, start_by}
use Rattle.feedback_reader.specs.declared.Started.{Started}

-- its judgement alone
abbrev pub judged_of : Result Started Refusal → Result Header Refusal
judged_of (Ok s) = Ok s.header
judged_of (Err r) = Err r

pub start-judged : (message : List ℕ) → judged_of (start message) ≡ judge message
unfolding start
start-judged message = go (judge_with_deltas message) ∙ judged-is message
  where
    go : (j : Result Judgement Refusal) → judged_of (start_by j) ≡ header_of j
    go (Ok j) = refl
    go (Err r) = refl

abbrev pub started_at : List ℕ → Header → Started
started_at message h = record { header = h; cursor = cursor_at (deltas_at message) h.status_count h.base_seq }

pub start-good : (message : List ℕ) (h : Header) → judge message ≡ Ok h → start message ≡ Ok (started_at message h)
unfolding start judge_with_deltas
start-good message h good = rw good

pub start-refused : (message : List ℕ) (r : Refusal) → judge message ≡ Err r → start message ≡ Err r
unfolding start judge_with_deltas
start-refused message r bad = rw bad

pub started-good : (message : List ℕ) (s : Started) → start message ≡ Ok s → judge message ≡ Ok s.header
started-good message s e = sym (start-judged message) ∙ ap judged_of e

pub started-is : (message : List ℕ) (s : Started) → start message ≡ Ok s → s ≡ started_at message s.header
started-is message s e =
    let f : Ok s ≡ Ok (started_at message s.header) = sym e ∙ start-good message s.header (started-good message s e) in
    cc
