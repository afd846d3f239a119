-- Laws of a link's calls: what they give where a question is the first that is answered with no, and where none is. Of question k, nk says that its answer is
-- no, yk that it is yes.
use Rattle.std.specs.Prelude.{ℕ, zero, suc, ◌<◌, ◌≡◌, refl, Bool, true, false, ◌&&◌, List, [], ◌∷◌, ◌++◌, Option}
use Rattle.std.proofs.Common.{arith, sym, ◌∙◌}
use Rattle.bandwidth.specs.declared.Bitrate.{Bitrate}
use Rattle.acked_bitrate_estimator.specs.declared.AckedBitrateEstimator.{AckedBitrateEstimator}
use Rattle.control.specs.Control as Control
use Rattle.control.specs.declared.DelayController.{DelayController}
use Rattle.receive_order.specs.ReceiveOrder.{is_sorted}
use Rattle.questions.specs.Questions.{Report, first_no, in_order, lists_in, of_opening, of_report, of_timeout, ordered, report-of, start_in, window_in}
use Rattle.questions.specs.Laws.{lists-refused, ordered-questions, ordered_same}
use Rattle.link_state.specs.State.{in_range}
use Rattle.link_state.specs.declared.Link.{Link}
use Rattle.link.specs.Link.{
  accepted_with,
  acknowledge,
  first_no_in_order,
  judge_report,
  judged_by,
  new,
  opened,
  opening,
  outcome_unless,
  question9,
  refused_by,
  report,
  report_in_order,
  report_questions,
  timed_out,
  timeout,
  timeout_questions,
  updated,
}

-- ---- opening
pub opening-yes : (start : Bitrate) (initial window : ℕ) → start_in start ≡ true → (window_in initial && window_in window) ≡ true
    → opening start initial window ≡ opened (new start initial window)
unfolding opening of_opening first_no
opening-yes start initial window y2 y3 = rw (y2, y3)

-- a number that is not 0 refuses a call
pub outcome-refused : (before after : Link) (n : ℕ) → 0 < n → outcome_unless n before after ≡ refused_by n before
unfolding outcome_unless
outcome-refused before after zero h = absurd (omega arith)
outcome-refused before after (suc n) h = refl

-- ---- report
module _ (l : Link) (r : Report) where
  pub report-1 : in_range l ≡ false → report l r ≡ refused_by 1 l
  unfolding report report_questions first_no outcome_unless
  report-1 n1 = rw n1

  module _ (y1 : in_range l ≡ true) where
    from-4 : report l r ≡ outcome_unless (first_no (of_report r ++ (question9 l.acked (ordered r) ∷ []))) l (updated l (ordered r))
    unfolding report report_questions first_no
    from-4 = rw y1

    pub report-4 : lists_in r.sequences r.sizes r.sends r.remotes r.receives ≡ false → report l r ≡ refused_by 4 l
    unfolding outcome_unless
    report-4 n4 = from-4 ∙ rw (lists-refused r (question9 l.acked (ordered r) ∷ []) n4)

    -- packets that are put in order
    pub report-ordered : lists_in r.sequences r.sizes r.sends r.remotes r.receives ≡ true → {sizes sends remotes receives : List ℕ}
        → sizes ≡ in_order r r.sizes → sends ≡ in_order r r.sends → remotes ≡ in_order r r.remotes → receives ≡ in_order r r.receives
        → report_in_order l (report-of r.sequences sizes sends remotes receives r.probe r.now) ≡ report l r
    unfolding first_no_in_order
    report-ordered y4 ez es er ev = rw (ez, es, er, ev, ordered-questions r y4) (sym from-4)

    -- lists that question 4 turns down, whatever stands in them
    pub report-refused : (s : Report) → lists_in r.sequences r.sizes r.sends r.remotes r.receives ≡ false
        → lists_in s.sequences s.sizes s.sends s.remotes s.receives ≡ false → report_in_order l s ≡ report l r
    unfolding outcome_unless first_no_in_order
    report-refused s n4 m4 = rw (lists-refused s (question9 l.acked s ∷ []) m4) (sym (report-4 n4))

    -- packets that came in order
    pub report-sorted : is_sorted r.remotes r.sends r.sequences ≡ true → report_in_order l r ≡ report l r
    report-sorted sorted = go (lists_in r.sequences r.sizes r.sends r.remotes r.receives) refl
      where
        go : (t : Bool) → lists_in r.sequences r.sizes r.sends r.remotes r.receives ≡ t → report_in_order l r ≡ report l r
        go true y4 = rw (ordered_same r y4 sorted) at (report-ordered y4 refl refl refl refl)
        go false n4 = report-refused r n4 n4

-- ---- a judgement: its number is that of the first no, and with 0 the packets are acknowledged
module _ (a : AckedBitrateEstimator) (r : Report) where
  by_number : (n : ℕ) (after : AckedBitrateEstimator) → (judged_by n a after).number ≡ n
  by_number zero after = refl
  by_number (suc n) after = refl

  pub judged-number : (judge_report a r).number ≡ first_no_in_order a r
  unfolding judge_report
  judged-number = by_number (first_no_in_order a r) (acknowledge a r.remotes r.sizes)

  pub judged-taken : first_no_in_order a r ≡ 0 → (judge_report a r).acked ≡ acknowledge a r.remotes r.sizes
  unfolding judge_report
  judged-taken e = rw e

  pub judged-refused : {n : ℕ} → first_no_in_order a r ≡ suc n → (judge_report a r).acked ≡ a
  unfolding judge_report
  judged-refused e = rw e

-- a report in the order of receipt by its judgement
module _ (l : Link) (r : Report) where
  pub in-order-refused : {n : ℕ} → first_no_in_order l.acked r ≡ n → 0 < n → report_in_order l r ≡ refused_by n l
  in-order-refused {n} e h = rw e (outcome-refused l (updated l r) n h)

  pub in-order-taken : {acked : AckedBitrateEstimator} {control : DelayController} {rate : Option Bitrate} → first_no_in_order l.acked r ≡ 0
      → acked ≡ acknowledge l.acked r.remotes r.sizes → rate ≡ acked.estimate
      → control ≡ Control.update l.control r.sends r.remotes r.receives rate r.probe r.now
      → report_in_order l r ≡ accepted_with (record { acked = acked; control = control })
  unfolding outcome_unless updated
  in-order-taken e ea er ec = rw (e, ec, er, ea)

-- ---- timeout
module _ (l : Link) (now : ℕ) where
  pub timeout-1 : in_range l ≡ false → timeout l now ≡ refused_by 1 l
  unfolding timeout timeout_questions first_no outcome_unless
  timeout-1 n1 = rw n1

  pub timeout-from-7 : in_range l ≡ true → timeout l now ≡ outcome_unless (first_no (of_timeout now)) l (timed_out l now)
  unfolding timeout timeout_questions first_no
  timeout-from-7 y1 = rw y1
