-- What judging a report tells before its link is updated: its refusal, or what the link is then updated with.
use Rattle.bandwidth.specs.declared.Bitrate.{Bitrate}
use Rattle.std.specs.Prelude.{ℕ, ◌≡◌, true, Result, Ok, Err, Option}
use Rattle.acked_bitrate_estimator.specs.declared.AckedBitrateEstimator.{AckedBitrateEstimator}
use Rattle.control.specs.Control as Control
use Rattle.control.specs.declared.DelayController.{DelayController}
use Rattle.questions.specs.Questions.{Report, number, report-of}
use Rattle.questions.specs.declared.Refusal.{Refusal}
use Rattle.link_state.specs.State.{in_range}
use Rattle.link_state.specs.declared.Link.{Link}
use Rattle.link.specs.Link.{accepted_with, refused_by, report}
use Rattle.waiting_packets.specs.WaitingPackets.{Packets}

-- the report of these packets
abbrev pub report_of : Packets → Option Bitrate → ℕ → Report
report_of p probe now = report-of p.sequences p.sizes p.sends p.remotes p.receives probe now

abbrev pub link_of : AckedBitrateEstimator → DelayController → Link
link_of acked control = record { acked = acked; control = control }

-- of a report to a link in range: if it is accepted, the link is updated by this estimator and these packets; else it gets this refusal
pub record JudgesReport (before : AckedBitrateEstimator) (r : Report) (judged : Result AckedBitrateEstimator Refusal) (p : Packets) : Type 0 where
  pub accepts : (after : AckedBitrateEstimator) → judged ≡ Ok after → (c : DelayController) → in_range (link_of before c) ≡ true
      → report (link_of before c) r ≡ accepted_with (link_of after (Control.update c p.sends p.remotes p.receives after.estimate r.probe r.now))
  pub refuses : (refusal : Refusal) → judged ≡ Err refusal → (c : DelayController) → in_range (link_of before c) ≡ true
      → report (link_of before c) r ≡ refused_by (number refusal) (link_of before c)
