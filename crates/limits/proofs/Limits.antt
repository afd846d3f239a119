-- The theorem over the rows of specs/Limits.antt: each limit is what stands for it in the definitions.
use Rattle.std.specs.Prelude.{ℕ, ◌+◌, ◌-◌, ◌*◌, Bool, true, not, ◌&&◌, T, eqb, ltb}
use Rattle.std.proofs.Common.{eqb→eq, ltb→lt}
use Rattle.std.specs.Float.Ieee.{to_bits}
use Rattle.std.specs.Float.Ieee.Fits.{and_l, and_r}
use Rattle.std.specs.Float.Ieee.Positive.{den}
use Rattle.std.specs.Float.Ieee.Scale.{finite}
use Rattle.bool_laws.specs.Table.{Member, every, of-every}
use Rattle.float_order.specs.Order.{over, under}
use Rattle.float.specs.Float.{helpers}
use Rattle.sqrt.specs.Sqrt.{sqrt}
use Rattle.le_bytes.specs.LeBytes.{le}
use Rattle.bandwidth.specs.Bandwidth as B
use Rattle.time.specs.Time as Time
use Rattle.acked_bitrate_estimator.specs.AckedBitrateEstimator as Acked
use Rattle.control.specs.Control as Control
use Rattle.receive_order.specs.ReceiveOrder.{receive_order, entries}
use Rattle.questions.specs.Questions as Q
use Rattle.questions.specs.Questions.{of_opening, of_report, of_timeout}
use Rattle.link_state.specs.State as State
use Rattle.link.specs.Link as L
use Rattle.link.specs.Link.{report_questions, timeout_questions}
use Rattle.pass_records.specs.PassRecords as Records
use Rattle.pass_records.specs.PassRecords.{length_in, least_output, well_formed}
use Rattle.limits.specs.Limits.{Equal, Row, Stands, down, rows, up}
use Rattle.limits.specs.Limits.Stands.{number, float, below, above, from, up_to}

unfoldable equal : ℕ → ℕ → Stands → Bool
equal n d (number k) = eqb (k * d) n
equal n d (float x) = finite x && (eqb (under x) 0 && eqb (over x * d) (n * den x))
equal n d (below x) = ltb (over x * d) (n * den x) && ltb (n * den (up x)) (over (up x) * d)
equal n d (above x) = ltb (n * den x) (over x * d) && ltb (over (down x) * d) (n * den (down x))
equal n d (from test) = test n && not (test (n - 1))
equal n d (up_to test) = test n && not (test (n + 1))

tells : (n d : ℕ) (s : Stands) → T (equal n d s) → Equal n d s
unfolding equal
tells n d (number k) h = eqb→eq (k * d) n h
tells n d (float x) h =
    let t = and_r (finite x) (eqb (under x) 0 && eqb (over x * d) (n * den x)) h in
    record {
      fine = and_l (finite x) (eqb (under x) 0 && eqb (over x * d) (n * den x)) h;
      nonneg = eqb→eq (under x) 0 (and_l (eqb (under x) 0) (eqb (over x * d) (n * den x)) t);
      same = eqb→eq (over x * d) (n * den x) (and_r (eqb (under x) 0) (eqb (over x * d) (n * den x)) t);
    }
tells n d (below x) h = (ltb→lt _ _ (and_l (ltb (over x * d) (n * den x)) (ltb (n * den (up x)) (over (up x) * d)) h), ltb→lt _ _ (and_r (ltb (over x * d) (n * den x)) (ltb (n * den (up x)) (over (up x) * d)) h))
tells n d (above x) h = (ltb→lt _ _ (and_l (ltb (n * den x) (over x * d)) (ltb (over (down x) * d) (n * den (down x))) h), ltb→lt _ _ (and_r (ltb (n * den x) (over x * d)) (ltb (over (down x) * d) (n * den (down x))) h))
tells n d (from test) h = (and_l (test n) (not (test (n - 1))) h, and_r (test n) (not (test (n - 1))) h)
tells n d (up_to test) h = (and_l (test n) (not (test (n + 1))) h, and_r (test n) (not (test (n + 1))) h)

abbrev row_equal : Row → Bool
row_equal r = equal r.numerator r.denominator r.stands

-- what a row computes through
unfoldable steps : Bool
unfolding rows every equal to_bits helpers sqrt Control.new well_formed length_in least_output Q.first_no of_opening Q.window_in report_questions timeout_questions of_report of_timeout Q.lists_in Q.instants_in Q.moment_in Q.probe_in Q.every State.in_range State.acked_in State.control_in State.groups_in State.trendline_in State.history_in State.delays_in State.overuse_in State.rate_control_in State.average_in State.sum_in State.ascends State.all_within receive_order entries L.sums_in Acked.update Acked.filled Acked.with_packet Acked.with_sample Acked.sample Acked.advance Acked.window_length Time.saturating_add B.saturated Records.judge Records.judge_along Records.chain_from Records.steps Records.record_at Records.successor le
steps = true

computed : T (every row_equal rows)
computed = unfold steps in tt

pub row-holds : (r : Row) → Member r rows → Equal r.numerator r.denominator r.stands
row-holds r m = tells r.numerator r.denominator r.stands (of-every row_equal r rows computed m)
