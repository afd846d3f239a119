-- Each turn writes the record's line, if it is a call, and leaves what follows it.
use Rattle.std.proofs.Common.{◌≡◌, ◌∙◌, sym, ap, subst, cond, eqb, [], arith}
use Rattle.std.specs.Result.{result_unwrap_or}
use Rattle.pass_records.specs.declared.Kind.TheVariants as Kind
use Rattle.link_runs.specs.Statement.{call}
use Rattle.link_runs.specs.InRange.{good-in-range}
use Rattle.pass_records.specs.PassRecords.{chain_from, kind, kind_of, next, record_count}
use Rattle.pass_records.specs.Laws.{Onward, kind-other, kind-packet, kind-report, onward-linked}
use Rattle.pass_file.specs.Judged.{link_of}
use Rattle.pass_file.specs.PassFile.{call_of}
use Rattle.pass_file.proofs.Chain.{Gives, Progress, joined, left-from, none_left, report-accepted, report-refused, reported, same-progress, starts, timed, timeout-accepted, timeout-refused, unrolled, written}
use Rattle.pass_file.proofs.list_chain.Goals as goal
use Rattle.pass_file.proofs.list_chain.Goals.{After-next-next, in-Packet, in-Report, in-Ok, in-Err, in-Timeout, in-Ok-timeout, in-Err-timeout}

passed : (c : After-next-next) →
    let bytes = c.of-record.result.bytes.now in
    let j = c.match-kind in
    Progress c.args.file.now c.args.out.now (cond (eqb (next bytes) 0) [] (chain_from c.args.file.now (record_count c.args.file.now) (next bytes))) j.out j.waiting (link_of j.acked j.control) j.at
passed c =
    let bytes = c.of-record.result.bytes.now in
    let i = c.loop-waiting.invariant in
    let b = c.of-record.ensures in
    let p = unrolled (record_count c.args.file.now) c.loop-waiting.k b i.on_chain i.progress in
    let y = good-in-range _ i.progress.good in
    let told : result_unwrap_or (kind_of (kind bytes)) Kind.Timeout ≡ c.unwrap_or-kind.result = rw (← c.kind.ensures) (sym c.unwrap_or-kind.ensures) in
    elim c.match-kind.branch [
      | in-Packet w ↦
          let is = kind-packet (kind bytes) (told ∙ w.in-Packet.is) in
          same-progress w.out-is w.waiting-is (rw (w.acked-is, w.control-is)) w.at-is (joined b p is w.push.ensures)
      | in-Report w ↦
          let is = kind-report (kind bytes) (told ∙ w.in-Report.is) in
          let m = w.match-judge_report in
          let j = w.judge_report.ensures in
          let gives : Gives (call (link_of c.loop-waiting.acked c.loop-waiting.control) (call_of bytes c.loop-waiting.waiting)) m.number (link_of m.acked m.control) =
          elim m.branch [
            | in-Ok v ↦
                rw (v.number-is, v.acked-is, v.control-is)
                (report-accepted bytes c.loop-waiting.waiting c.loop-waiting.acked c.loop-waiting.control y is w.probe-probe.ensures c.receive-now.ensures j v.in-Ok.is v.current_estimate.ensures (rw (v.sends.ensures, v.remotes.ensures, v.receives.ensures) at v.update-control.ensures))
            | in-Err v ↦
                rw (v.number-is, v.acked-is, v.control-is, v.from-number.ensures)
                (report-refused bytes c.loop-waiting.waiting c.loop-waiting.acked c.loop-waiting.control y is w.probe-probe.ensures c.receive-now.ensures j v.in-Err.is)
          ] in
          same-progress w.out-is w.waiting-is (rw (w.acked-is, w.control-is)) w.at-is
          (reported b p is gives (rw w.line_of.ensures at w.put-at.ensures.out_after) (rw w.line_of.ensures at w.put-at.ensures.value) w.clear.ensures)
      | in-Timeout w ↦
          let is = kind-other (kind bytes) (told ∙ w.in-Timeout.is) in
          let m = w.match-timeout in
          let gives : Gives (call (link_of c.loop-waiting.acked c.loop-waiting.control) (call_of bytes c.loop-waiting.waiting)) m.number (link_of c.loop-waiting.acked m.control) =
          elim m.branch [
            | in-Ok-timeout v ↦
                rw (v.number-is, v.control-is)
                (timeout-accepted bytes c.loop-waiting.waiting c.loop-waiting.acked c.loop-waiting.control y is.1 c.receive-now.ensures _ w.timeout.ensures v.in-Ok-timeout.is v.current_estimate-in-Ok-timeout.ensures v.handle_timeout-control.ensures)
            | in-Err-timeout v ↦
                rw (v.number-is, v.control-is, v.from-number-in-Err-timeout.ensures)
                (timeout-refused bytes c.loop-waiting.waiting c.loop-waiting.acked c.loop-waiting.control y is.1 c.receive-now.ensures _ w.timeout.ensures v.in-Err-timeout.is)
          ] in
          let put = w.put-at-in-Timeout.ensures in
          let line = w.line_of-in-Timeout.ensures in
          same-progress w.out-is w.waiting-is (rw (w.acked-is, w.control-is)) w.at-is (timed b p is.0 is.1 gives (rw line at put.out_after) (rw line at put.value))
    ]

-- ---- the record that follows, where one does
after : (c : After-next-next) → Onward c.args.file.now (record_count c.args.file.now) c.loop-waiting.k c.next-next.result
after c =
    subst (Onward c.args.file.now (record_count c.args.file.now) c.loop-waiting.k) (ap next (sym c.of-record.ensures) ∙ sym c.next-next.ensures)
    (onward-linked _ _ _ c.loop-waiting.invariant.on_chain)

pub loop-waiting-init : goal.loop-waiting-init
loop-waiting-init c = record { on_chain = c.requires.on_chain; progress = starts c.requires.room c.requires.start.0 c.requires.start.1 }

pub returns-then-next-eq0 : goal.returns-then-next-eq0
returns-then-next-eq0 c = written (none_left _ _ c.next-next.ensures (passed (goal.at.returns-then-next-eq0 c).After-next-next) c.if-next-eq0.true)

pub loop-waiting-smaller : goal.loop-waiting-smaller
loop-waiting-smaller c =
    let n = after (goal.at.loop-waiting-smaller c).After-next-next in
    omega (arith, n.above c.if-next-eq0.false, (n.on_chain c.if-next-eq0.false).within)

pub loop-waiting-preserved : goal.loop-waiting-preserved
loop-waiting-preserved c = record {
  on_chain = (after (goal.at.loop-waiting-preserved c).After-next-next).on_chain c.if-next-eq0.false;
  progress = left-from _ _ c.next-next.ensures (passed (goal.at.loop-waiting-preserved c).After-next-next) c.if-next-eq0.false;
}
