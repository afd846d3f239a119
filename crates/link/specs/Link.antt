-- The calls of a link: opening, report and timeout (document 01, "Link" and "The questions"). Instants, durations and windows are ns.
use Rattle.std.specs.Prelude.{ℕ, zero, suc, ◌^◌, ◌-◌, min, Bool, true, ◌&&◌, List, [], ◌∷◌, ◌++◌, pos, Float, Option, Some, None, Result, Ok, Err, cond}
use Rattle.bandwidth.specs.Bandwidth.{bytes}
use Rattle.bandwidth.specs.declared.Bitrate.{Bitrate}
use Rattle.bandwidth.specs.declared.DataSize.{DataSize}
use Rattle.bandwidth.specs.declared.BandwidthUsage.{BandwidthUsage}
use Rattle.acked_bitrate_estimator.specs.AckedBitrateEstimator as Acked
use Rattle.acked_bitrate_estimator.specs.declared.AckedBitrateEstimator.{AckedBitrateEstimator}
use Rattle.control.specs.Control as Control
use Rattle.questions.specs.Questions.{Question, Report, bytes_in, first_no, number, of_opening, of_report, of_timeout, ordered, question}
use Rattle.link_state.specs.State.{in_range}
use Rattle.link_state.specs.declared.Link.{Link}
use Rattle.link.specs.declared.Opening.{Opening}
use Rattle.link.specs.declared.Estimate.{Estimate}
use Rattle.link.specs.declared.Called.{Called}
use Rattle.questions.specs.declared.Refusal.{Refusal}

-- ---- opening
abbrev pub new : Bitrate → ℕ → ℕ → Link
new start initial window = record { acked = Acked.new initial window; control = Control.new start }

-- the link that an accepted opening stands for
unfoldable pub link : Opening → Link
link o = new o.start_bitrate o.initial_window o.window

-- a link, or the number of the first no
pub data Started : Type 0 where
  opened : Link → Started
  turned_down : ℕ → Started

abbrev pub started : Result Opening Refusal → Started
started (Ok o) = opened (link o)
started (Err q) = turned_down (number q)

-- the number of the question that turned an opening down, or 0
abbrev pub started_number : Started → ℕ
started_number (opened l) = 0
started_number (turned_down n) = n

abbrev pub started_unless : ℕ → Link → Started
started_unless zero l = opened l
started_unless (suc n) l = turned_down (suc n)

unfoldable pub opening : Bitrate → ℕ → ℕ → Started
opening start initial window = started_unless (first_no (of_opening start initial window)) (new start initial window)

-- ---- what a call gives
-- estimate, hypothesis and next timeout; or the number of the first no
pub data Reply : Type 0 where
  accepted : Float → BandwidthUsage → ℕ → Reply
  refused : ℕ → Reply

abbrev pub reply : Result Estimate Refusal → Reply
reply (Ok e) = accepted e.bitrate.0 e.hypothesis e.next_timeout
reply (Err q) = refused (number q)

-- the number of the question that turned a call down, or 0
abbrev pub refusal : Reply → ℕ
refusal (accepted e u t) = 0
refusal (refused n) = n

pub record Outcome : Type 0 where
  pub reply : Reply
  pub link : Link

abbrev pub outcome : Called → Outcome
outcome c = record { reply = reply c.answer; link = c.link }

-- the estimate after a call is that of the link handed back
abbrev pub estimate : Link → Float
estimate l = l.control.rate_control.estimated_bitrate.0

abbrev pub hypothesis : Link → BandwidthUsage
hypothesis l = l.control.trendline_estimator.hypothesis

abbrev pub next_timeout : Link → ℕ
next_timeout l = l.control.next_timeout

unfoldable pub accepted_with : Link → Outcome
accepted_with after = record { reply = accepted (estimate after) (hypothesis after) (next_timeout after); link = after }

-- a no leaves the link as it came in
abbrev pub refused_by : ℕ → Link → Outcome
refused_by n before = record { reply = refused n; link = before }

unfoldable pub outcome_unless : ℕ → Link → Link → Outcome
outcome_unless zero before after = accepted_with after
outcome_unless (suc n) before after = refused_by (suc n) before

-- ---- report
-- a size in bytes; past an i64 it is its end
abbrev pub data_size : ℕ → DataSize
data_size n = bytes (pos (min n (2 ^ 63 - 1)))

-- the acknowledged-rate estimator after packets in the order of receipt
unfoldable pub acknowledge : AckedBitrateEstimator → List ℕ → List ℕ → AckedBitrateEstimator
acknowledge a [] sizes = a
acknowledge a (t ∷ remotes) [] = a
acknowledge a (t ∷ remotes) (n ∷ sizes) = acknowledge (Acked.update a t (data_size n)) remotes sizes

-- 9: does the window's byte sum stay at or below 2,147,483,647 after each packet?
unfoldable pub sums_in : AckedBitrateEstimator → List ℕ → List ℕ → Bool
sums_in a [] sizes = true
sums_in a (t ∷ remotes) [] = true
sums_in a (t ∷ remotes) (n ∷ sizes) =
    let next = Acked.update a t (data_size n) in
    bytes_in next.sum && sums_in next remotes sizes

-- the estimator after packets in the order of receipt, if 9 is answered with yes
unfoldable pub acknowledged : AckedBitrateEstimator → List ℕ → List ℕ → Option AckedBitrateEstimator
unfolding acknowledge sums_in
acknowledged a remotes sizes = cond (sums_in a remotes sizes) (Some (acknowledge a remotes sizes)) None

-- of a report's packets in the order of receipt
abbrev pub question9 : AckedBitrateEstimator → Report → Question
question9 a r = question 9 (sums_in a r.remotes r.sizes)

-- to the acknowledged rate, then to the delay controller with the current acknowledged rate
unfoldable pub updated : Link → Report → Link
updated l r =
    let acked = acknowledge l.acked r.remotes r.sizes in
    record { acked = acked; control = Control.update l.control r.sends r.remotes r.receives acked.estimate r.probe r.now }

unfoldable pub report_questions : Link → Report → List Question
report_questions l r = question 1 (in_range l) ∷ (of_report r ++ (question9 l.acked (ordered r) ∷ []))

unfoldable pub report : Link → Report → Outcome
report l r = outcome_unless (first_no (report_questions l r)) l (updated l (ordered r))

-- ---- a report whose packets are in the order of receipt, from question 4 on
unfoldable pub first_no_in_order : AckedBitrateEstimator → Report → ℕ
first_no_in_order a r = first_no (of_report r ++ (question9 a r ∷ []))

-- the number of the first no, or 0, and the acknowledged-rate estimator, which a no leaves as it was
pub record Judgement : Type 0 where
  pub number : ℕ
  pub acked : AckedBitrateEstimator

abbrev pub judged : AckedBitrateEstimator → Result AckedBitrateEstimator Refusal → Judgement
judged before (Ok after) = record { number = zero; acked = after }
judged before (Err q) = record { number = number q; acked = before }

abbrev pub judged_by : ℕ → AckedBitrateEstimator → AckedBitrateEstimator → Judgement
judged_by zero before after = record { number = zero; acked = after }
judged_by (suc n) before after = record { number = suc n; acked = before }

unfoldable pub judge_report : AckedBitrateEstimator → Report → Judgement
judge_report a r = judged_by (first_no_in_order a r) a (acknowledge a r.remotes r.sizes)

abbrev pub report_in_order : Link → Report → Outcome
report_in_order l r = outcome_unless (first_no_in_order l.acked r) l (updated l r)

-- ---- timeout
unfoldable pub timed_out : Link → ℕ → Link
timed_out l now = record { acked = l.acked; control = Control.handle_timeout l.control l.acked.estimate now }

unfoldable pub timeout_questions : Link → ℕ → List Question
timeout_questions l now = question 1 (in_range l) ∷ of_timeout now

unfoldable pub timeout : Link → ℕ → Outcome
timeout l now = outcome_unless (first_no (timeout_questions l now)) l (timed_out l now)
