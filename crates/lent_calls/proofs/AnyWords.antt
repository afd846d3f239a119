-- Calls on any words: question 1, calls of the link that they hold, refusals, and words that are not read.
use Rattle.std.specs.Prelude.{ℕ, ◌≡◌, refl, Bool, true, false, cond, ◌&&◌, List, [], ◌∷◌, ◌⊎◌, Float, length}
use Rattle.std.proofs.Common.{arith, sym, ap, ◌∙◌, inl, inr, ⊎_elim}
use Rattle.std.specs.Float.{nan}
use Rattle.bandwidth.specs.declared.BandwidthUsage.{BandwidthUsage}
use Rattle.control.specs.declared.DelayController.{DelayController}
use Rattle.link_state.specs.State.{in_range}
use Rattle.link_state.specs.declared.Link.{Link}
use Rattle.link_words.specs.Laws.{LinkHeld, loaded-held, timeout-alike, timeout-formed, timeout-length, timeout-loads, words-load}
use Rattle.link_words.specs.LinkWords.{formed, of_words, timeout_words}
use Rattle.link_words.specs.Reading.{formed-alike, words-alike}
use Rattle.questions.specs.Questions.{Question, ordered}
use Rattle.link.specs.Link as L
use Rattle.link.specs.Laws.{report-1, timeout-1}
use Rattle.link.specs.Link.{Outcome, Reply, accepted, refused, refused_by}
use Rattle.link_runs.specs.Statement.{Call, call, threshold}
use Rattle.link_runs.specs.Statement.Call.{report, timeout}
use Rattle.link_runs.specs.Answered.{Answered, report-answered, timeout-answered}
use Rattle.link_runs.specs.Answered.Answered.{turned_down, taken}
use Rattle.lent_calls.proofs.Demand3.{timeout-changes}
use Rattle.lent_calls.proofs.Held.{timed-out-held, updated-held}
use Rattle.lent_calls.specs.LentCalls.{after, read, reply_to, stored, threshold_after, words_after}
use Rattle.lent_calls.specs.Statement.{CallHeld, CallsOfTheLink, Question1, Refusals, SameAnswers, UnreadWords, run_words, threshold_read}

-- ---- question 1
call-1 : (l : Link) (k : Call) → in_range l ≡ false → call l k ≡ refused_by 1 l
call-1 l (report r) n1 = report-1 l r n1
call-1 l (timeout now) n1 = timeout-1 l now n1

unread : (t s : Bool) (r : Reply) → (t && s) ≡ false → cond t (cond s r (refused 1)) (refused 1) ≡ refused 1
unread true s r n1 = rw n1
unread false s r n1 = refl

uncalled : (t s : Bool) (r : Reply) → (s ≡ false → r ≡ refused 1) → (t && s) ≡ false → cond t r (refused 1) ≡ refused 1
uncalled true s r h n1 = h n1
uncalled false s r h n1 = refl

pub question-1 : Question1
unfolding reply_to read
question-1 w n1 =
    let l = of_words w in
    (λ k. uncalled (formed w) (in_range l) (call l k).reply (λ e. rw (call-1 l k e)) n1, unread (formed w) (in_range l) _ n1)

-- ---- a call of the link that they hold
pub calls-of-the-link : CallsOfTheLink
unfolding after reply_to L.accepted_with
calls-of-the-link w k lent h form = (rw form, rw form (go k h))
  where
    held : LinkHeld (of_words w)
    held = loaded-held w (lent.below 6)

    by : {qs : List Question} {next : Link} {o : Outcome} (k : Call) → Answered qs (of_words w) next o → of_words (stored k next w) ≡ next → of_words (words_after o.reply (stored k o.link w) w) ≡ o.link
    by k turned_down e = refl
    by k (taken y) e = e

    go : (k : Call) → CallHeld k → of_words (words_after (call (of_words w) k).reply (stored k (call (of_words w) k).link w) w) ≡ (call (of_words w) k).link
    go (report r) p = by (report r) (report-answered (of_words w) r) (words-load _ (updated-held (of_words w) (ordered r) p held))
    go (timeout now) p =
        by (timeout now) (timeout-answered (of_words w) now)
        (timeout-loads _ w lent.size (timed-out-held (of_words w) now held).rate-control ∙ timeout-changes (of_words w) now)

pub refusals : Refusals
unfolding after
refusals w k n e = rw e

-- ---- words that are not read
-- 100 words each that have the format alike and load alike
record Same (v w : List ℕ) : Type 0 where
  first-size : length v ≡ 100
  second-size : length w ≡ 100
  form : formed v ≡ formed w
  link : of_words v ≡ of_words w

module _ (v w : List ℕ) (form : formed v ≡ formed w) (link : of_words v ≡ of_words w) where
  reply-same : (k : Call) → reply_to v k ≡ reply_to w k
  unfolding reply_to
  reply-same k = rw (form, link)

  read_same : read v ≡ read w
  unfolding read
  read_same = rw (form, link)

  threshold-same : threshold_read v ≡ threshold_read w
  threshold-same = rw read_same (go (read w))
    where
      go : (r : Reply) → threshold_after r v nan ≡ threshold_after r w nan
      go (accepted e h t) = ap threshold link
      go (refused n) = refl

-- an accepted timeout sets the same words in both
timeout-same : (c : DelayController) (v w : List ℕ) → Same v w → formed v ≡ true → Same (timeout_words c v) (timeout_words c w)
timeout-same c v w s f =
    record {
      first-size = timeout-length c v ∙ s.first-size;
      second-size = timeout-length c w ∙ s.second-size;
      form = timeout-formed c v s.first-size f ∙ sym (timeout-formed c w s.second-size (sym s.form ∙ f));
      link = timeout-alike c v w s.first-size s.second-size s.link;
    }

-- an accepted call's words are formed
accepted-formed : (w : List ℕ) (k : Call) {e : Float} {h : BandwidthUsage} {t : ℕ} → reply_to w k ≡ accepted e h t → formed w ≡ true
unfolding reply_to
accepted-formed w k {e} {h} {t} a = go (formed w) a
  where
    go : (b : Bool) → cond b (call (of_words w) k).reply (refused 1) ≡ accepted e h t → b ≡ true
    go true a = refl
    go false a = absurd (let s : ◌≡◌ {A = ℕ} 0 1 = cc in omega arith)

-- a refused call leaves both; an accepted report stores one link
after_same : (v w : List ℕ) → Same v w → (k : Call) → (after v k ≡ after w k) ⊎ Same (after v k) (after w k)
unfolding after
after_same v w s k = rw (← reply-same v w s.form s.link k, ← s.link) (go k (reply_to v k) refl)
  where
    go : (k : Call) (r : Reply) → reply_to v k ≡ r
        → let l = (call (of_words v) k).link in (words_after r (stored k l v) v ≡ words_after r (stored k l w) w) ⊎ Same (words_after r (stored k l v) v) (words_after r (stored k l w) w)
    go k (refused n) e = inr s
    go (report r) (accepted e h t) a = inl refl
    go (timeout now) (accepted e h t) a = inr (timeout-same _ v w s (accepted-formed v (timeout now) a))

same-answers : (v w : List ℕ) → Same v w → SameAnswers v w
same-answers v w s =
    record {
      reply = reply-same v w s.form s.link;
      link = λ k. ⊎_elim (λ e. ap of_words e) (λ (t : Same (after v k) (after w k)). t.link) (after_same v w s k);
      reading = read_same v w s.form s.link;
      threshold-reading = threshold-same v w s.form s.link;
    }

equal-answers : (w : List ℕ) → SameAnswers w w
equal-answers w = record { reply = λ k. refl; link = λ k. refl; reading = refl; threshold-reading = refl }

run-same : (calls : List Call) (v w : List ℕ) → Same v w → SameAnswers (run_words v calls) (run_words w calls)
run-same [] v w s = same-answers v w s
run-same (k ∷ ks) v w s =
    ⊎_elim (λ e. rw e (equal-answers (run_words (after w k) ks))) (λ (t : Same (after v k) (after w k)). run-same ks (after v k) (after w k) t) (after_same v w s k)

pub unread-words : UnreadWords
unread-words v w a calls =
    run-same calls v w
    (record {
      first-size = a.first-size;
      second-size = a.second-size;
      form = formed-alike v w a.agree a.format;
      link = words-alike v w a.agree;
    })
