-- Judging a report of the packets that wait, after they were put in the order of receipt.
use Rattle.bandwidth.specs.declared.Bitrate.{Bitrate}
use Prim.Native.Nat.{ℕ, ◌≤◌}
use mathlib.Core.Path.{◌≡◌, refl, sym, ap, ◌∙◌}
use mathlib.Core.Bool.{Bool, true, false}
use mathlib.Core.List.{List}
use native.Mathlib.Omega.{arith}
use lib.ListN.{length, take}
use lib.Seq.{take_all}
use Rattle.std.specs.Prelude.{Result, Ok, Err, Option}
use Rattle.acked_bitrate_estimator.specs.declared.AckedBitrateEstimator.{AckedBitrateEstimator}
use Rattle.receive_order.specs.ReceiveOrder.{most_packets, put_in_order}
use Rattle.receive_order.specs.Laws.{put_front, put-length}
use Rattle.questions.specs.Questions.{Report, lists_in, number}
use Rattle.questions.specs.Questions as Q
use Rattle.questions.specs.Laws.{lengths, number-above}
use Rattle.questions.specs.declared.Refusal.{Refusal}
use Rattle.link_state.specs.State.{in_range}
use Rattle.link_state.specs.declared.Link.{Link}
use Rattle.link.specs.Link.{Judgement, first_no_in_order, judge_report, judged, report, report_in_order}
use Rattle.link.specs.Laws.{in-order-refused, in-order-taken, judged-number, judged-taken, report-ordered, report-refused}
use Rattle.pass_file.specs.Judged.{JudgesReport, link_of, report_of}
use Rattle.waiting_packets.specs.WaitingPackets.{Packets, in_order}

module _ (p : Packets) (probe : Option Bitrate) (now : ℕ) where
  abbrev came : Report
  came = report_of p probe now

  abbrev put : Report
  put = report_of (in_order p) probe now

  same_length : (xs : List ℕ) → length (put_in_order (length p.sequences) p.remotes p.sends p.sequences xs) ≡ length xs
  same_length xs = put-length (length p.sequences) p.remotes p.sends p.sequences xs

  lists-same : lists_in put.sequences put.sizes put.sends put.remotes put.receives ≡ lists_in came.sequences came.sizes came.sends came.remotes came.receives
  unfolding lists_in
  lists-same = rw (same_length p.sizes, same_length p.sends, same_length p.remotes, same_length p.receives)

  module _ (few : length p.sequences ≤ most_packets) (r : length p.remotes ≡ length p.sequences) (s : length p.sends ≡ length p.sequences) where
    in-front : (xs : List ℕ) → length xs ≡ length p.sequences → put_in_order (length p.sequences) p.remotes p.sends p.sequences xs ≡ Q.in_order came xs
    in-front xs h =
        let n = length p.sequences in
        let whole : (ys : List ℕ) → length ys ≡ n → take n ys ≡ ys = λ ys e. take_all n ys (omega (arith, e)) in
        sym (whole _ (same_length xs ∙ h))
        ∙ put_front n p.remotes p.sends p.sequences xs few (omega (arith, r)) (omega (arith, s)) (omega arith) (omega (arith, h))
        ∙ rw (whole xs h, whole p.remotes r, whole p.sends s, whole p.sequences refl)

  put_same : (l : Link) → in_range l ≡ true → report_in_order l put ≡ report l came
  put_same l y1 = go (lists_in came.sequences came.sizes came.sends came.remotes came.receives) refl
    where
      go : (t : Bool) → lists_in came.sequences came.sizes came.sends came.remotes came.receives ≡ t → report_in_order l put ≡ report l came
      go true y4 =
          let m = lengths came.sequences came.sizes came.sends came.remotes came.receives y4 in
          let front = in-front m.few m.remotes-length m.sends-length in
          report-ordered l came y1 y4 (front p.sizes m.sizes-length) (front p.sends m.sends-length) (front p.remotes m.remotes-length) (front p.receives m.receives-length)
      go false n4 = report-refused l came y1 put n4 (lists-same ∙ n4)

  module _ (acked : AckedBitrateEstimator) where
    pub judges : (result : Result AckedBitrateEstimator Refusal) → judged acked result ≡ judge_report acked put → JudgesReport acked came result (in_order p)
    judges (Ok taken) e =
        let none : first_no_in_order acked put ≡ 0 = sym (judged-number acked put) ∙ sym (ap (λ (g : Judgement). g.number) e) in
        record {
          accepts = λ after q c y1.
              let is : taken ≡ after = cc in
              sym (put_same (link_of acked c) y1)
              ∙ in-order-taken (link_of acked c) put none (sym is ∙ ap (λ (g : Judgement). g.acked) e ∙ judged-taken acked put none) refl refl;
          refuses = λ refusal q. cc;
        }
    judges (Err refusal) e =
        let first : first_no_in_order acked put ≡ number refusal = sym (judged-number acked put) ∙ sym (ap (λ (g : Judgement). g.number) e) in
        record {
          accepts = λ after q. cc;
          refuses = λ again q c y1.
              let is : refusal ≡ again = cc in
              sym (put_same (link_of acked c) y1) ∙ in-order-refused (link_of acked c) put (first ∙ ap number is) (number-above again);
        }
