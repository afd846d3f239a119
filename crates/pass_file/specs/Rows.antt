-- The listing of document 01's example, computed from the definitions.
use Prim.Native.Char.{code}
use Rattle.std.specs.Prelude.{◌≡◌, true, [], ◌∷◌, ◌++◌, Ok, Some}
use Rattle.std.proofs.Math.Path.{refl, sym}
use Rattle.std.proofs.Common.{ap, subst, ◌∙◌}
use Rattle.std.specs.Float.{binary64}
use Rattle.std.specs.Float.Ieee.{of_bits, to_bits}
use Rattle.float_order.specs.Interval.{floats}
use Rattle.float.specs.Float as Float
use Rattle.le_bytes.specs.LeBytes.{le}
use Rattle.time.specs.Time.{saturating_add}
use Rattle.bandwidth.specs.Bandwidth as Bandwidth
use Rattle.bandwidth.specs.Bandwidth.{bps, rate}
use Rattle.receive_order.specs.ReceiveOrder.{is_sorted}
use Rattle.rate_control.specs.RateControl as RateControl
use Rattle.control.specs.Control as Control
use Rattle.questions.specs.Questions as Q
use Rattle.questions.specs.Questions.{Report, every, instants_in, lists_in, moment_in, of_report, of_timeout, probe_in, report-of}
use Rattle.link_state.specs.State.{in_range}
use Rattle.link_state.specs.declared.Link.{Link}
use Rattle.link.specs.Link.{Outcome, accepted_with, first_no_in_order, outcome_unless, sums_in, timed_out, updated}
use Rattle.link.specs.Laws.{report-sorted, timeout-from-7}
use Rattle.link_runs.specs.Statement.{call, report, timeout}
use Rattle.link_runs.specs.InRange.{reached-in-range}
use Rattle.pass_records.specs.PassRecords.{most_records, record_at}
use Rattle.pass_records.specs.Rows.{example, example-linked, example-chain}
use Rattle.listing_line.specs.ListingLine.{line}
use Rattle.listing_line.specs.Rows.{bytes, record-1, record-3}
use Rattle.pass_file.specs.PassFile.{Numbered, calls, first, lines, list, listing, shown}
use Rattle.pass_file.specs.Laws.{file_calls, first-opened}

-- record 3's report: no packets, a probe of 2,000,000
abbrev probed : Report
probed = report-of [] [] [] [] [] (Some (rate (of_bits binary64 0x413e_8480_0000_0000))) 1010000000

abbrev one : Numbered
one = record { number = 1; call = timeout 1000000000 }

abbrev three : Numbered
three = record { number = 3; call = report probed }

example-calls : file_calls example ≡ one ∷ three ∷ []
unfolding calls record_at le
example-calls = rw example-chain

-- the link after record 1
abbrev second : Link
second = timed_out first 1000000000

timeout-taken : call first (timeout 1000000000) ≡ accepted_with second
timeout-taken =
    timeout-from-7 first 1000000000 (reached-in-range (bps 1000000) 500000000 150000000 first first-opened [])
    ∙ (unfold outcome_unless Q.first_no of_timeout moment_in in refl)

second-in-range : in_range second ≡ true
unfolding accepted_with
second-in-range =
    subst
    (λ (o : Outcome). in_range o.link ≡ true)
    timeout-taken
    (reached-in-range (bps 1000000) 500000000 150000000 first first-opened (timeout 1000000000 ∷ []))

report-taken : call second (report probed) ≡ accepted_with (updated second probed)
unfolding outcome_unless
report-taken =
    let none : first_no_in_order second.acked probed ≡ 0 = unfold first_no_in_order Q.first_no of_report lists_in instants_in every moment_in probe_in sums_in floats in refl in
    sym (report-sorted second probed second-in-range (unfold is_sorted in refl)) ∙ rw none

first-line : shown 1 (accepted_with second) ≡ line (record { record_number = 1; refusal = 0; letter = code "N"; bits = 0x412e848000000000; next_timeout = 1025000000 })
unfolding shown accepted_with timed_out Control.handle_timeout Control.trendline_hypothesis_valid Control.with_rate Control.wait Control.get_smoothed_rtt Control.new saturating_add floats to_bits
first-line = refl

second-line : shown 3 (accepted_with (updated second probed)) ≡ line (record { record_number = 3; refusal = 0; letter = code "N"; bits = 0x413e848000000000; next_timeout = 1035000000 })
unfolding shown accepted_with timed_out updated Control.handle_timeout Control.trendline_hypothesis_valid Control.with_rate Control.new Control.update Control.update_estimate Control.with_packets Control.fold RateControl.set_probe_result RateControl.update_estimate RateControl.with_estimate Bandwidth.clamp Float.helpers saturating_add to_bits
second-line = refl

two-lines : (l : Link) (c d : Numbered) {o p : Outcome} → call l c.call ≡ o → call o.link d.call ≡ p
    → lines l (c ∷ d ∷ []) ≡ shown c.number o ++ (shown d.number p ++ [])
unfolding lines
two-lines l c d e f = rw (e, f)

pub example-listing : listing example ≡ bytes "1 0 N 412e848000000000 1025000000\n3 0 N 413e848000000000 1035000000\n"
unfolding listing accepted_with bytes
example-listing =
    ap (lines first) example-calls
    ∙ two-lines first one three timeout-taken report-taken
    ∙ rw (first-line, second-line, record-1, record-3)

pub example-answer : list most_records example 65536 ≡ Ok 68
unfolding list bytes
example-answer = rw (example-linked, example-listing)
