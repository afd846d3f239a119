-- The proof of demand 3. A link is a machine that holds a rate control, and what a call does to that is what the statement says is handed on.
use Rattle.bandwidth.specs.declared.Bitrate.{Bitrate}
use Rattle.std.specs.Prelude.{ℕ, ◌≡◌, refl, Bool, true, false, cond, List, [], ◌∷◌, ◌++◌, Option, Some, None}
use Rattle.bandwidth.specs.declared.BandwidthUsage.{BandwidthUsage}
use Rattle.time.specs.Time.{saturating_add}
use Rattle.bool_laws.specs.Bools.{cases}
use Rattle.recovery.specs.Recovery.{Change, Finite, after}
use Rattle.recovery.specs.Recovery.Change.{nothing}
use Rattle.recovery.specs.Runs as Runs
use Rattle.recovery.specs.Runs.{Machine}
use Rattle.recovery.proofs.Runs.{holds}
use Rattle.acked_bitrate_estimator.specs.Laws.{ValidEstimate}
use Rattle.control.specs.Control as Control
use Rattle.control.specs.Control.{get_smoothed_rtt, handle_timeout, rate_after, trendline_hypothesis_valid, update_estimate, wait, with_packets, with_rate}
use Rattle.control.specs.declared.DelayController.{DelayController}
use Rattle.questions.specs.Questions.{Report, in_order, ordered}
use Rattle.link_state.specs.declared.Link.{Link}
use Rattle.link.specs.Link as L
use Rattle.link.specs.Link.{Outcome, Reply, accepted_with, accepted, hypothesis, refused, report_questions, timed_out, timeout_questions, updated}
use Rattle.link_runs.specs.Statement.{Call, Demand3, call, handed, handed_all, handed_on, report_hands, run, threshold, timeout_hands, unless_refused}
use Rattle.link_runs.specs.Statement.Call.{report, timeout}
use Rattle.link_runs.specs.Answered.{Answered, report-answered, timeout-answered}
use Rattle.link_runs.specs.Answered.Answered.{turned_down, taken}
use Rattle.link_runs.specs.Good.{FiniteIfAny, Good, call-good, good-report, opening-good, rate-finite}

abbrev machine : Machine Link Call
machine = record { step = λ l k. (call l k).link; control = λ l. l.control.rate_control; threshold = threshold; change = handed }

-- ---- the rate control goes by it
rate-after : (probe acked : Option Bitrate) (c : DelayController) (now : ℕ)
    → rate_after probe acked c now ≡ after c.rate_control (handed_on probe acked c.trendline_estimator.hypothesis (get_smoothed_rtt c) now)
rate-after (Some p) acked c now = refl
rate-after None None c now = refl
rate-after None (Some b) c now = refl

timeout-rate : (c : DelayController) (acked : Option Bitrate) (now : ℕ)
    → (handle_timeout c acked now).rate_control
    ≡ after c.rate_control (cond (trendline_hypothesis_valid c now) (handed_on None acked c.trendline_estimator.hypothesis (get_smoothed_rtt c) now) nothing)
unfolding handle_timeout update_estimate with_rate
timeout-rate c acked now = go (trendline_hypothesis_valid c now)
  where
    go : (t : Bool) → (cond t (update_estimate c acked None now) (with_rate c c.rate_control (saturating_add now (wait c)))).rate_control
        ≡ after c.rate_control (cond t (handed_on None acked c.trendline_estimator.hypothesis (get_smoothed_rtt c) now) nothing)
    go true = rate-after None acked c now
    go false = refl

control-after : (l : Link) (k : Call) → (call l k).link.control.rate_control ≡ after l.control.rate_control (handed l k)
unfolding accepted_with updated timed_out Control.update update_estimate with_rate with_packets get_smoothed_rtt
control-after l (report r) = go (report-answered l r)
  where
    go : {o : Outcome} → Answered (report_questions l r) l (updated l (ordered r)) o → o.link.control.rate_control ≡ after l.control.rate_control (report_hands o r)
    go turned_down = refl
    go (taken y) = rate-after r.probe _ (with_packets l.control (in_order r r.sends) (in_order r r.remotes) (in_order r r.receives) r.now) r.now
control-after l (timeout now) = go (timeout-answered l now)
  where
    go : {o : Outcome} → Answered (timeout_questions l now) l (timed_out l now) o → o.link.control.rate_control ≡ after l.control.rate_control (timeout_hands o l now)
    go turned_down = refl
    go (taken y) = timeout-rate l.control l.acked.estimate now

-- ---- rates that are handed on are finite
change-finite : (probe acked : Option Bitrate) (h : BandwidthUsage) (rtt : Option ℕ) (now : ℕ) → FiniteIfAny probe → ValidEstimate acked → Finite (handed_on probe acked h rtt now)
change-finite (Some p) acked h rtt now f v = f
change-finite None None h rtt now f v = tt
change-finite None (Some b) h rtt now f v = rate-finite v

unless-finite : (r : Reply) (x : Change) → Finite x → Finite (unless_refused r x)
unless-finite (refused n) x f = tt
unless-finite (accepted e u t) x f = f

report-finite : (l : Link) (r : Report) {o : Outcome} → Answered (report_questions l r) l (updated l (ordered r)) o → Good o.link → Finite (report_hands o r)
unfolding accepted_with
report-finite l r turned_down g = tt
report-finite l r (taken y) g = change-finite r.probe (updated l (ordered r)).acked.estimate _ _ r.now (good-report l r y).probe-in g.acked.reached.estimate

good-finite : (l : Link) (k : Call) → Good l → Finite (handed l k)
good-finite l (report r) g = report-finite l r (report-answered l r) (call-good l (report r) g)
good-finite l (timeout now) g =
    unless-finite (L.timeout l now).reply _
    (cases Finite (trendline_hypothesis_valid l.control now)
    (λ e. change-finite None l.acked.estimate (hypothesis l) (get_smoothed_rtt l.control) now tt g.acked.reached.estimate) (λ e. tt))

keeps : Runs.Keeps machine Good
keeps =
    record {
      control-after = control-after;
      good-after = call-good;
      good-finite = good-finite;
      good-sound = λ l g. g.rate.sound;
      good-threshold = λ l g. g.packets.trendline.sound.delays.threshold;
    }

-- ---- the theorem
run_is : (l : Link) (ks : List Call) → run l ks ≡ Runs.run machine l ks
run_is l [] = refl
run_is l (k ∷ ks) = run_is (call l k).link ks

handed-is : (l : Link) (ks : List Call) → handed_all l ks ≡ Runs.changes machine l ks
handed-is l [] = refl
handed-is l (k ∷ ks) = rw (handed-is (call l k).link ks)

pub demand-3 : Demand3
demand-3 start initial window l e calls =
    let g = opening-good start initial window l e in
    let whole = holds machine keeps l g calls in
    record {
      estimate-in = rw (run_is l calls) whole.estimate-in;
      threshold-in = rw (run_is l calls) whole.threshold-in;
      recovery = λ before next rest p n R f z s u.
          rw (run_is l before, run_is l (before ++ next))
          ((holds machine keeps l g (before ++ next)).recovery before next refl n R f
          (rw (run_is l before, handed-is (Runs.run machine l before) next) at s)
          (rw (run_is l before, handed-is (Runs.run machine l before) next) at u));
    }
