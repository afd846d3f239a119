-- Demand 3: a link's estimate cannot be jammed. The statement, in document 01's terms ("Runs of a link"); its proof is proofs/Demand3.antt.
use Rattle.std.specs.Prelude.{◌≡◌, cond, List, [], ◌∷◌, ◌++◌, ℕ, ◌*◌, ◌^◌, ◌<◌, T, Float, Option, Some, None}
use Rattle.std.specs.Float.Ieee.{le}
use Rattle.std.specs.Float.Ieee.Scale.{finite}
use Rattle.float_order.specs.Ops.{zero₊}
use Rattle.float_order.specs.Range.{In, nat}
use Rattle.bandwidth.specs.declared.Bitrate.{Bitrate}
use Rattle.bandwidth.specs.declared.BandwidthUsage.{BandwidthUsage}
use Rattle.recovery.specs.Recovery.{Change, Each, Reached, Steady, updates}
use Rattle.recovery.specs.Recovery.Change.{update, probe, nothing}
use Rattle.control.specs.Control.{get_smoothed_rtt, trendline_hypothesis_valid}
use Rattle.questions.specs.Questions.{Report}
use Rattle.link_state.specs.declared.Link.{Link}
use Rattle.link.specs.Link as L
use Rattle.link.specs.Link.{Reply, Outcome, opening, opened, accepted, refused, estimate, hypothesis}

-- ---- a run: an accepted opening, then a list of calls, each of which gets the link that the one before handed back
pub data Call : Type 0 where
  report : Report → Call
  timeout : ℕ → Call

-- what the contracts of `report` and `timeout` cite
abbrev pub call : Link → Call → Outcome
call l (report r) = L.report l r
call l (timeout now) = L.timeout l now

abbrev pub run : Link → List Call → Link
run l [] = l
run l (k ∷ ks) = run (call l k).link ks

-- the delay threshold by which overuse is judged, in ms
abbrev pub threshold : Link → Float
threshold l = l.control.trendline_estimator.delays.delay_threshold

-- ---- what a call hands to the rate control
-- an accepted probe; or a rate update, whose observed rate is the acknowledged rate that it hands on, with the hypothesis handed along; or nothing
abbrev pub handed_on : Option Bitrate → Option Bitrate → BandwidthUsage → Option ℕ → ℕ → Change
handed_on (Some p) acked h rtt now = probe p now
handed_on None None h rtt now = nothing
handed_on None (Some b) h rtt now = update (record { hypothesis = h; observed = b; rtt = rtt; moment = now })

abbrev pub unless_refused : Reply → Change → Change
unless_refused (refused n) x = nothing
unless_refused (accepted e u t) x = x

-- a report hands on its probe, or the acknowledged rate after its packets; a timeout the current one, where the hypothesis is not too old
abbrev pub report_hands : Outcome → Report → Change
report_hands after r =
    unless_refused after.reply (handed_on r.probe after.link.acked.estimate (hypothesis after.link) (get_smoothed_rtt after.link.control) r.now)

abbrev pub timeout_hands : Outcome → Link → ℕ → Change
timeout_hands after l now =
    unless_refused after.reply
    (cond (trendline_hypothesis_valid l.control now) (handed_on None l.acked.estimate (hypothesis l) (get_smoothed_rtt l.control) now) nothing)

abbrev pub handed : Link → Call → Change
handed l (report r) = report_hands (L.report l r) r
handed l (timeout now) = timeout_hands (L.timeout l now) l now

abbrev pub handed_all : Link → List Call → List Change
handed_all l [] = []
handed_all l (k ∷ ks) = handed l k ∷ handed_all (call l k).link ks

-- ---- the claim, in terms of crates/recovery/specs/Recovery.antt: how many of the changes are rate updates, which are steady for R, and what is reached
-- Of a list of calls: after it the estimate is from 40,000 to 10^10 and the threshold from 6 to 600. And from any point of it on: if the calls that follow,
-- up to any later point, hand on n + 1 rate updates or more, and are steady for R, then at that later point the estimate is at least the smallest of
-- E + 999 × n, where E is the estimate at the first point, 1.5 × R and 10^10.
pub record RangeAndRecovery (l : Link) (calls : List Call) : Type 0 where
  pub estimate-in : In (nat 40000) (nat (10 ^ 10)) (estimate (run l calls))
  pub threshold-in : In (nat 6) (nat 600) (threshold (run l calls))
  pub recovery : (before next rest : List Call) → calls ≡ before ++ (next ++ rest)
      → (n : ℕ) (R : Float) → T (finite R) → T (le zero₊ R)
      → Each (Steady R) (handed_all (run l before) next) → n < updates (handed_all (run l before) next)
      → Reached (estimate (run l before)) (999 * n) R (estimate (run l (before ++ next)))

-- for every accepted opening and every list of calls, refused ones included
abbrev pub Demand3 : Type 0
Demand3 = (start : Bitrate) (initial window : ℕ) (l : Link) → opening start initial window ≡ opened l → (calls : List Call) → RangeAndRecovery l calls
