-- What is claimed of a link that is lent as words, as C and Rust hold one: calls on its words are a run of the link, its estimate cannot be jammed (demand 3), whatever
-- the words hold a call meets question 1 first, is one of the link that they hold and leaves them where it is refused, and words that are not read tell nothing. The proofs are proofs/Demand3.antt and proofs/AnyWords.antt.
use Rattle.std.specs.Prelude.{◌≡◌, true, false, ◌&&◌, List, [], ◌∷◌, ◌++◌, ℕ, ◌*◌, ◌^◌, ◌<◌, T, pos, get_or, length, Float}
use Rattle.std.specs.Float.Ieee.{le}
use Rattle.std.specs.Float.{nan}
use Rattle.std.specs.Float.Ieee.Scale.{finite}
use Rattle.float_order.specs.Ops.{zero₊}
use Rattle.float_order.specs.Range.{In, nat}
use Rattle.bandwidth.specs.declared.Bitrate.{Bitrate}
use Rattle.recovery.specs.Recovery.{Change, Each, Reached, Steady, updates}
use Rattle.link_state.specs.State.{in_range}
use Rattle.link_state.specs.declared.Link.{Link}
use Rattle.link_words.specs.Laws.{Held, RateHeld}
use Rattle.link_words.specs.LinkWords.{formed, of_words, to_words}
use Rattle.link_words.specs.Reading.{Agree}
use Rattle.link.specs.Link.{accepted, estimate, hypothesis, next_timeout, opened, opening, refused}
use Rattle.link_runs.specs.Statement as Runs
use Rattle.link_runs.specs.Statement.{Call, call, run, threshold}
use Rattle.link_runs.specs.Statement.Call.{report, timeout}
use Rattle.lent_calls.specs.LentCalls.{after, bitrate_after, open_code, open_words, read, reply_to, threshold_after}

-- ---- a run: the words of an accepted opening, then a list of calls, each on the words that the one before left
abbrev pub run_words : List ℕ → List Call → List ℕ
run_words w [] = w
run_words w (k ∷ ks) = run_words (after w k) ks

-- a probe's rate is a binary64, as any double of C and any f64 of Rust is
abbrev pub CallHeld : Call → Type 0
CallHeld (report r) = RateHeld r.probe
CallHeld (timeout now) = Unit {0}

abbrev pub CallsHeld : List Call → Type 0
CallsHeld [] = Unit {0}
CallsHeld (k ∷ ks) = CallHeld k × CallsHeld ks

-- ---- what reading leaves in a lent place that holds a NaN: a refusal would leave the NaN, which is in no range
abbrev pub estimate_read : List ℕ → Float
estimate_read w = bitrate_after (read w) nan

abbrev pub threshold_read : List ℕ → Float
threshold_read w = threshold_after (read w) w nan

-- ---- a run of calls on words is a run of the link
-- After it the words are those of the link, and the next call gets the link's reply. Reading is accepted, and tells the link's estimate, hypothesis, next timeout and
-- threshold.
pub record IsRun (l : Link) (calls : List Call) : Type 0 where
  pub words : run_words (to_words l) calls ≡ to_words (run l calls)
  pub reply : (k : Call) → reply_to (run_words (to_words l) calls) k ≡ (call (run l calls) k).reply
  pub reading : read (run_words (to_words l) calls) ≡ accepted (estimate (run l calls)) (hypothesis (run l calls)) (next_timeout (run l calls))
  pub threshold-reading : threshold_read (run_words (to_words l) calls) ≡ threshold (run l calls)

abbrev pub RunsOfTheLink : Type 0
RunsOfTheLink =
    (start : Bitrate) (initial window : ℕ) (l : Link) → Held start.0 → opening start initial window ≡ opened l → (calls : List Call) → CallsHeld calls → IsRun l calls

-- ---- demand 3, as crates/link_runs/specs/Statement.antt has it of a link
-- what each call hands to the rate control of the link that the words stand for
abbrev pub handed_all : List ℕ → List Call → List Change
handed_all w [] = []
handed_all w (k ∷ ks) = Runs.handed (of_words w) k ∷ handed_all (after w k) ks

-- Of a list of calls on words: after it the estimate that reading tells is from 40,000 to 10^10 and the threshold from 6 to 600. And from any point of it on: if the
-- calls that follow, up to any later point, hand on n + 1 rate updates or more, and are steady for R, then at that later point the estimate is at least the smallest
-- of E + 999 × n, where E is the estimate at the first point, 1.5 × R and 10^10.
pub record RangeAndRecovery (w : List ℕ) (calls : List Call) : Type 0 where
  pub estimate-in : In (nat 40000) (nat (10 ^ 10)) (estimate_read (run_words w calls))
  pub threshold-in : In (nat 6) (nat 600) (threshold_read (run_words w calls))
  pub recovery : (before next rest : List Call) → calls ≡ before ++ (next ++ rest)
      → (n : ℕ) (R : Float) → T (finite R) → T (le zero₊ R)
      → Each (Steady R) (handed_all (run_words w before) next) → n < updates (handed_all (run_words w before) next)
      → Reached (estimate_read (run_words w before)) (999 * n) R (estimate_read (run_words w (before ++ next)))

-- for every opening that gives 0, whatever the lent words were, and every list of calls, refused ones included
abbrev pub Demand3 : Type 0
Demand3 =
    (start : Bitrate) (initial window : ℕ) (lent : List ℕ) → Held start.0 → open_code (opening start initial window) ≡ pos 0 → (calls : List Call) → CallsHeld calls
    → RangeAndRecovery (open_words (opening start initial window) lent) calls

-- ---- any words
-- of another format, with an unknown tag or of a link out of range: every call and reading give question 1's number
abbrev pub Question1 : Type 0
Question1 = (w : List ℕ) → (formed w && in_range (of_words w)) ≡ false → ((k : Call) → reply_to w k ≡ refused 1) × (read w ≡ refused 1)

-- else a call is one of the link that they hold, for 100 words of 64 bits
pub record Lent (w : List ℕ) : Type 0 where
  pub size : length w ≡ 100
  pub below : (i : ℕ) → get_or w i 0 < 2 ^ 64

abbrev pub CallsOfTheLink : Type 0
CallsOfTheLink =
    (w : List ℕ) (k : Call) → Lent w → CallHeld k → formed w ≡ true → (reply_to w k ≡ (call (of_words w) k).reply) × (of_words (after w k) ≡ (call (of_words w) k).link)

-- a refusal leaves them
abbrev pub Refusals : Type 0
Refusals = (w : List ℕ) (k : Call) (n : ℕ) → reply_to w k ≡ refused n → after w k ≡ w

-- ---- words that are not read
-- 100 words each, of one format, and the same wherever a word is read: as a stored link's words, and others that differ from them in no field that is read
pub record Alike (v w : List ℕ) : Type 0 where
  pub first-size : length v ≡ 100
  pub second-size : length w ≡ 100
  pub format : get_or v 0 0 ≡ get_or w 0 0
  pub agree : Agree v w

-- the same reply to a call, the same link after it, the same read
pub record SameAnswers (v w : List ℕ) : Type 0 where
  pub reply : (k : Call) → reply_to v k ≡ reply_to w k
  pub link : (k : Call) → of_words (after v k) ≡ of_words (after w k)
  pub reading : read v ≡ read w
  pub threshold-reading : threshold_read v ≡ threshold_read w

-- at every point of a run
abbrev pub UnreadWords : Type 0
UnreadWords = (v w : List ℕ) → Alike v w → (calls : List Call) → SameAnswers (run_words v calls) (run_words w calls)
