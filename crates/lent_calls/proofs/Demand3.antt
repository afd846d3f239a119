-- The proof of demand 3 over words: of words that a link was stored to, each call is that of the link, and what it leaves are again a link's.
use Rattle.std.specs.Prelude.{ℕ, zero, suc, ◌≡◌, true, pos}
use Rattle.std.proofs.Common.{arith, ap, ap₂, ◌∙◌}
use Rattle.std.proofs.Math.Path.{refl}
use mathlib.Core.List.{List, [], ◌∷◌, ◌++◌}
use Rattle.bool_laws.specs.Bools.{chosen}
use Rattle.bandwidth.specs.declared.Bitrate.{Bitrate}
use Rattle.recovery.specs.Recovery.{Change}
use Rattle.control.specs.Control as Control
use Rattle.control.specs.declared.DelayController.{DelayController}
use Rattle.questions.specs.Questions.{Question, first_no, of_opening}
use Rattle.link_state.specs.State.{in_range}
use Rattle.link_state.specs.declared.Link.{Link}
use Rattle.link_words.specs.Laws.{Held, LinkHeld, with_timeout, words-formed, words-load, words-timeout}
use Rattle.link_words.specs.LinkWords.{to_words}
use Rattle.link.specs.Link as L
use Rattle.link.specs.Link.{Outcome, accepted, estimate, hypothesis, next_timeout, opened, opening, started_unless}
use Rattle.link_runs.specs.Statement as Runs
use Rattle.link_runs.specs.Statement.{Call, call, run, threshold}
use Rattle.link_runs.specs.Statement.Call.{report, timeout}
use Rattle.link_runs.specs.Answered.{Answered, report-answered, timeout-answered}
use Rattle.link_runs.specs.Answered.Answered.{turned_down, taken}
use Rattle.link_runs.proofs.Demand3.{demand-3}
use Rattle.link_runs.specs.InRange.{reached-in-range}
use Rattle.lent_calls.specs.LentCalls.{after, open_code, open_words, read, reply_to, stored, words_after}
use Rattle.lent_calls.proofs.Held.{call-held, opened-held}
use Rattle.lent_calls.specs.Statement.{CallsHeld, Demand3, IsRun, RangeAndRecovery, RunsOfTheLink, estimate_read, handed_all, run_words, threshold_read}

-- a timeout changes the rate control and the next timeout only
pub timeout-changes : (l : Link) (now : ℕ) → with_timeout (L.timed_out l now).control l ≡ L.timed_out l now
unfolding L.timed_out Control.handle_timeout Control.update_estimate Control.with_rate
timeout-changes l now =
    chosen (λ (c : DelayController). with_timeout c l ≡ record { acked = l.acked; control = c }) (Control.trendline_hypothesis_valid l.control now) refl refl

-- ---- one call on a stored link
module _ (l : Link) (h : LinkHeld l) where
  pub stored-reply : (k : Call) → reply_to (to_words l) k ≡ (call l k).reply
  unfolding reply_to
  stored-reply k = rw (words-formed l h.trendline.sized, words-load l h)

  pub stored-after : (k : Call) → after (to_words l) k ≡ to_words (call l k).link
  unfolding after L.accepted_with
  stored-after k = rw (stored-reply k, words-load l h) (go k)
    where
      by : {qs : List Question} {next : Link} {o : Outcome} (k : Call) → Answered qs l next o → stored k next (to_words l) ≡ to_words next
          → words_after o.reply (stored k o.link (to_words l)) (to_words l) ≡ to_words o.link
      by k turned_down e = refl
      by k (taken y) e = e

      go : (k : Call) → words_after (call l k).reply (stored k (call l k).link (to_words l)) (to_words l) ≡ to_words (call l k).link
      go (report r) = by (report r) (report-answered l r) refl
      go (timeout now) = by (timeout now) (timeout-answered l now) (words-timeout l _ h.trendline.sized ∙ ap to_words (timeout-changes l now))

  pub stored-read : in_range l ≡ true → read (to_words l) ≡ accepted (estimate l) (hypothesis l) (next_timeout l)
  unfolding read
  stored-read i = rw (words-formed l h.trendline.sized, words-load l h, i)

-- ---- a run
run-held : (l : Link) (ks : List Call) → CallsHeld ks → LinkHeld l → LinkHeld (run l ks)
run-held l [] c h = h
run-held l (k ∷ ks) c h = run-held (call l k).link ks c.1 (call-held l k c.0 h)

run-words : (l : Link) (ks : List Call) → CallsHeld ks → LinkHeld l → run_words (to_words l) ks ≡ to_words (run l ks)
run-words l [] c h = refl
run-words l (k ∷ ks) c h = ap (λ (w : List ℕ). run_words w ks) (stored-after l h k) ∙ run-words (call l k).link ks c.1 (call-held l k c.0 h)

handed-words : (l : Link) (ks : List Call) → CallsHeld ks → LinkHeld l → handed_all (to_words l) ks ≡ Runs.handed_all l ks
handed-words l [] c h = refl
handed-words l (k ∷ ks) c h =
    ap₂ (λ (x : Change) (xs : List Change). x ∷ xs) (ap (λ (m : Link). Runs.handed m k) (words-load l h))
    (ap (λ (w : List ℕ). handed_all w ks) (stored-after l h k) ∙ handed-words (call l k).link ks c.1 (call-held l k c.0 h))

split : (xs ys : List Call) → CallsHeld (xs ++ ys) → CallsHeld xs × CallsHeld ys
split [] ys c = (tt, c)
split (x ∷ xs) ys c = let r = split xs ys c.1 in ((c.0, r.0), r.1)

join : (xs ys : List Call) → CallsHeld xs → CallsHeld ys → CallsHeld (xs ++ ys)
join [] ys c d = d
join (x ∷ xs) ys c d = (c.0, join xs ys c.1 d)

module _ (start : Bitrate) (initial window : ℕ) (l : Link) (f : Held start.0) (e : opening start initial window ≡ opened l) where
  held : LinkHeld l
  held = opened-held start initial window l f e

  reading : (ks : List Call) → CallsHeld ks → read (run_words (to_words l) ks) ≡ accepted (estimate (run l ks)) (hypothesis (run l ks)) (next_timeout (run l ks))
  reading ks c = rw (run-words l ks c held) (stored-read (run l ks) (run-held l ks c held) (reached-in-range start initial window l e ks))

  estimate-read : (ks : List Call) → CallsHeld ks → estimate_read (run_words (to_words l) ks) ≡ estimate (run l ks)
  estimate-read ks c = rw (reading ks c)

  threshold-read : (ks : List Call) → CallsHeld ks → threshold_read (run_words (to_words l) ks) ≡ threshold (run l ks)
  threshold-read ks c = rw (reading ks c, run-words l ks c held, words-load (run l ks) (run-held l ks c held))

  handed-run : (before next : List Call) → CallsHeld before → CallsHeld next → handed_all (run_words (to_words l) before) next ≡ Runs.handed_all (run l before) next
  handed-run before next b c = ap (λ (w : List ℕ). handed_all w next) (run-words l before b held) ∙ handed-words (run l before) next c (run-held l before b held)

  is-run : (ks : List Call) → CallsHeld ks → IsRun l ks
  is-run ks c =
      record {
        words = run-words l ks c held;
        reply = λ k. rw (run-words l ks c held) (stored-reply (run l ks) (run-held l ks c held) k);
        reading = reading ks c;
        threshold-reading = threshold-read ks c;
      }

  recovers : (ks : List Call) → CallsHeld ks → RangeAndRecovery (to_words l) ks
  recovers ks c =
      let whole = demand-3 start initial window l e ks in
      record {
        estimate-in = rw (estimate-read ks c) whole.estimate-in;
        threshold-in = rw (threshold-read ks c) whole.threshold-in;
        recovery = λ before next rest p n R g z s u.
            let parts = split before (next ++ rest) (rw p at c) in
            let b = parts.0 in
            let d = (split next rest parts.1).0 in
            rw (estimate-read before b, estimate-read (before ++ next) (join before next b d))
            (whole.recovery before next rest p n R g z (rw (handed-run before next b d) at s) (rw (handed-run before next b d) at u));
      }

-- ---- the theorems
pub runs-of-the-link : RunsOfTheLink
runs-of-the-link start initial window l f e calls c = is-run start initial window l f e calls c

pub demand-3-over-words : Demand3
unfolding opening
demand-3-over-words start initial window lent f z calls c = go (first_no (of_opening start initial window)) refl z
  where
    new : Link
    new = L.new start initial window

    go : (n : ℕ) → first_no (of_opening start initial window) ≡ n → open_code (started_unless n new) ≡ pos 0 → RangeAndRecovery (open_words (started_unless n new) lent) calls
    go zero e z = recovers start initial window new f (rw e) calls c
    go (suc n) e z = absurd (let s : ◌≡◌ {A = ℕ} 0 1 = cc in omega arith)
