-- Every link that a run reaches passes question 1.
use Rattle.std.specs.Option.{unwrap_or}
use Rattle.trendline.specs.declared.Overuse.{Overuse}
use Rattle.arrival_group.specs.declared.ArrivalGroup.{ArrivalGroup}
use Rattle.std.specs.Prelude.{ℕ, zero, suc, ◌+◌, ◌*◌, ◌%◌, ◌^◌, ◌≤◌, ◌<◌, ◌≡◌, refl, true, List, [], ◌∷◌, T, pos, get_or, take, Float, Option, Some, None}
use Rattle.std.proofs.Common.{arith, lit≤}
use Rattle.std.proofs.Math.Bool.{false}
use borrow.Author.Tests.{le-leb, le-ltb, lt-ltb, eq-eqb}
use Rattle.std.proofs.Math.Dec.{not_T}
use Rattle.std.proofs.Math.ListN.{length}
use Rattle.std.specs.Float.Ieee as Ieee
use Rattle.std.specs.Float.{nan, inf, fin}
use Rattle.std.specs.Float.Ieee.{le, lt, neg, up, down}
use Rattle.float_order.specs.Binary64.{lit}
use Rattle.float_order.specs.Order.{ordered, le_trans, not-le→lt}
use Rattle.float_order.specs.Ops.{zero₊}
use Rattle.float_order.specs.Range.{In, Within, nat, in-finite, in-ordered, in-wider}
use Rattle.float_order.specs.Interval.{floats}
use Rattle.float_order.proofs.Gaps.{gap-large}
use Rattle.bool_laws.specs.Bools.{is_true}
use Rattle.average.specs.Laws.{AverageIn, std-in}
use Rattle.average.specs.Laws as Averages
use Rattle.average.specs.declared.MovingAverage.{MovingAverage}
use Rattle.bandwidth.specs.Bandwidth as B
use Rattle.bandwidth.specs.declared.Bitrate.{Bitrate}
use Rattle.time.specs.Time.{}
use Rattle.acked_bitrate_estimator.specs.Laws.{ValidEstimate, ValidVariance, ValidWindow}
use Rattle.acked_bitrate_estimator.specs.declared.AckedBitrateEstimator.{AckedBitrateEstimator}
use Rattle.time.specs.declared.TimeDelta.{TimeDelta}
use Rattle.time.specs.declared.TimeDelta.TheVariants.{NegativeInfinity, Negative, Positive, PositiveInfinity}
use Rattle.arrival_group.specs.Laws as Groups
use Rattle.arrival_group.specs.Laws.{BoundedIfAny}
use Rattle.arrival_group.specs.declared.ArrivalGroupAccumulator.{ArrivalGroupAccumulator}
use Rattle.trendline.specs.History.{Ascending, First}
use Rattle.trendline.specs.Laws.{SoundDelays, SoundHistory, SoundOveruse}
use Rattle.trendline.specs.declared.Delays.{Delays}
use Rattle.trendline.specs.declared.History.{History}
use Rattle.trendline.specs.declared.TrendlineEstimator.{TrendlineEstimator}
use Rattle.rate_control.specs.RateControl.{observed_bit_rate_smoothing_factor}
use Rattle.rate_control.specs.Laws.{InstantAtMost, DurationAtMost}
use Rattle.rate_control.specs.declared.RateControl.{RateControl}
use Rattle.control.specs.Control.{rtt_smoothing_factor}
use Rattle.control.specs.Laws.{most_round_trip}
use Rattle.bandwidth.specs.Bandwidth.{min_estimate, max_estimate, most_rate}
use Rattle.trendline.specs.Trendline.{min_threshold_ms, max_threshold_ms}
use Rattle.float.specs.Float.{within}
use Rattle.link_state.specs.State.{
  acked_in,
  acked_rate_in,
  all_within,
  ascends,
  average_in,
  average_within,
  control_in,
  delays_in,
  group_in,
  groups_in,
  history_in,
  in_range,
  most30,
  most31,
  most_ns,
  most_overuse,
  most_time,
  ns_in,
  overuse_in,
  overuse_time_in,
  rate_control_in,
  sum_in,
  trendline_in,
}
use Rattle.link_state.specs.declared.Link.{Link}
use Rattle.questions.specs.Questions.{most_instant, window_in}
use Rattle.link.specs.Link.{opened, opening}
use Rattle.link_runs.specs.Statement.{Call, run}
use Rattle.link_runs.specs.Acknowledged.{GoodAcked}
use Rattle.link_runs.specs.Overuse.{Anchored, most_send}
use Rattle.link_runs.specs.Packets.{GoodOveruse, GoodTrendline}
use Rattle.link_runs.specs.Good.{Good, GoodRate, opening-good, run-good}

-- ---- kinds of fields
within-is : {lo hi x : Float} → In lo hi x → within lo hi x ≡ true
within-is {lo} {hi} {x} h = rw (is_true (le lo x) h.low, is_true (le x hi) h.high)

lower : {hi x : Float} → In zero₊ hi x → In (lit 0) hi x
lower {hi} {x} h = record { low = le_trans (lit 0) zero₊ x (unfold floats in tt) h.low; high = h.high }

eq_refl : (x : Float) → T (ordered x) → Ieee.eq x x ≡ true
unfolding Ieee.eq
eq_refl nan o = absurd o
eq_refl (inf true) o = refl
eq_refl (inf false) o = refl
eq_refl (fin true m e) o = rw (eq-eqb (m * up e * down e) (m * up e * down e) refl)
eq_refl (fin false m e) o = rw (eq-eqb (m * up e * down e) (m * up e * down e) refl)

instant-in : (o : Option ℕ) → InstantAtMost most_instant o → ns_in o ≡ true
instant-in None h = refl
instant-in (Some t) h = le-leb t (10 ^ 18 + 10 ^ 9) (omega arith)

duration-in : (o : Option ℕ) → DurationAtMost most_instant o → ns_in o ≡ true
duration-in None h = refl
duration-in (Some d) h = le-leb d (10 ^ 18 + 10 ^ 9) (omega arith)

window-in : (w : ℕ) → ValidWindow w → window_in w ≡ true
unfolding window_in
window-in w h = rw (eq-eqb (w % 1000000) 0 h.whole, le-leb 1000000 w h.least, le-leb w 10000000000 h.most)

-- ---- moving averages
average-in : (m : MovingAverage) (factor L : Float) → T (ordered factor) → Averages.Kept factor L m → average_in m factor L ≡ true
unfolding average_in
average-in m factor L o k =
    rw (k.factor-is, eq_refl factor o, ← k.std-is, eq_refl m.std (in-ordered (std-in k)), within-is v, go m.average k.average-in)
  where
    v : In (lit 0) most30 m.variance
    v = in-wider k.variance-in (unfold floats in tt)

    go : (a : Option Float) → AverageIn L a → average_within L a ≡ true
    go None h = refl
    go (Some a) h = within-is (lower h.0)

-- ---- the acknowledged rate
-- a float that is at most 10 ^ 30 is at most the greatest such float
variance-in : (x : Float) → ValidVariance x → In (lit 0) most30 x
variance-in x h =
    let next = fin false (suc 0x19_3e59_39a0_8ce9) (pos 47) in
    let p = in-finite h.range tt in
    let q : T (lt x next) = not-le→lt next x tt (in-ordered h.range) (not_T (le next x) (λ l. unfold floats in le_trans next x (nat (10 ^ 30)) l h.range.high)) in
    record {
      low = (lower h.range).low;
      high = le_trans x (fin false 0x19_3e59_39a0_8ce9 (pos 47)) most30 (gap-large x 0x19_3e59_39a0_8ce9 47 p h.held h.range.low (lit≤ tt) q) (unfold floats in tt);
    }

acked-rate-in : (o : Option Bitrate) → ValidEstimate o → acked_rate_in o ≡ true
acked-rate-in None h = refl
acked-rate-in (Some r) h = within-is (in-wider h.range (unfold floats in tt))

sum-in : (n elapsed : ℕ) → n ≤ 2147483647 → (n ≡ 0 → elapsed ≡ 0) → sum_in (B.bytes (pos n)) elapsed ≡ true
unfolding sum_in
sum-in zero elapsed h z = rw (eq-eqb elapsed 0 (z refl))
sum-in (suc n) elapsed h z = rw (le-ltb (suc n) 0 (omega arith), le-ltb 2147483647 (suc n) h, lt-ltb 0 (suc n) (omega arith))

acked-in : (a : AckedBitrateEstimator) → GoodAcked a → acked_in a ≡ true
unfolding acked_in
acked-in a g =
    let r = g.reached in
    let w = r.current in
    let s : sum_in a.sum a.current_window ≡ true = rw w.sum.is (sum-in w.sum.bytes a.current_window w.sum.few w.empty) in
    rw (window-in a.initial_window r.initial, window-in a.window r.later, acked-rate-in a.estimate r.estimate, within-is (variance-in a.estimate_var r.variance), s, le-leb a.current_window 10000000000 (omega (arith, w.elapsed)), instant-in a.last_update g.last)

-- ---- groups
group-in : (g : Option ArrivalGroup) → BoundedIfAny most_instant most_instant g → group_in g ≡ true
group-in None h = refl
group-in (Some g) h =
    rw (le-leb g.first_local_send_time most_ns (omega (arith, h.first-send)), le-leb g.first_remote_recv_time most_ns (omega (arith, h.first-remote)), le-leb g.last_local_send_time most_ns (omega (arith, h.last-send)), le-leb g.last_remote_recv_time most_ns (omega (arith, h.last-remote)))

origin-in : (t : Option ℕ) → unwrap_or t 0 ≤ most_instant → ns_in t ≡ true
origin-in None h = refl
origin-in (Some t) h = instant-in (Some t) h

groups-in : (a : ArrivalGroupAccumulator) → Groups.Sound most_instant most_instant a → groups_in a ≡ true
unfolding groups_in
groups-in a s = rw (origin-in a.send_time_origin s.origin, group-in a.previous_group s.previous, group-in a.current_group s.current)

-- ---- the trendline
ascends-in : (low high : Float) (n : ℕ) (xs : List Float) → n ≤ length xs → T (le low high) → (0 < n → T (le low (get_or xs 0 nan))) → First (λ x. T (le x high)) n xs → Ascending n xs
    → ascends low (take n xs) high ≡ true
unfolding ascends
ascends-in low high zero xs l h k f a = is_true (le low high) h
ascends-in low high (suc n) [] l h k f a = absurd (omega arith)
ascends-in low high (suc n) (x ∷ xs) l h k f a =
    rw (is_true (le low x) (k (omega arith)))
    (ascends-in x high n xs (omega arith) (f 0 (omega arith)) (λ m. a 0 (omega arith)) (λ i m. f (suc i) (omega arith)) (λ i m. a (suc i) (omega arith)))

all-within : (most : Float) (n : ℕ) (xs : List Float) → n ≤ length xs → First (Within most) n xs → all_within most (take n xs) ≡ true
unfolding all_within
all-within most zero xs l f = refl
all-within most (suc n) [] l f = absurd (omega arith)
all-within most (suc n) (x ∷ xs) l f = rw (within-is (f 0 (omega arith)), all-within most n xs (omega arith) (λ i m. f (suc i) (omega arith)))

history-in : (h : History) → SoundHistory (10 ^ 9) h → First (Within most31) h.len h.delays → history_in h ≡ true
unfolding history_in
history-in h s d =
    let t : First (Within most_time) h.len h.times = λ i l. in-wider (s.times i l) (unfold floats in tt) in
    let m : h.len ≤ length h.times = rw s.times-length s.few in
    let n : h.len ≤ length h.delays = rw s.delays-length s.few in
    rw (le-leb h.len 20 s.few, ascends-in (neg most_time) most_time h.len h.times m (unfold floats in tt) (λ l. (t 0 l).low) (λ i l. (t i l).high) s.order, all-within most31 h.len h.delays n d)

delays-in : (d : Delays) → SoundDelays d → Within most31 d.smoothed_delay → delays_in d ≡ true
unfolding delays_in
delays-in d s m =
    let t : In min_threshold_ms max_threshold_ms d.delay_threshold = in-wider s.threshold (unfold floats in tt) in
    rw (le-leb d.num_delay_variations 1000 s.count, within-is s.accumulated, within-is m, within-is t, eq_refl d.previous_trend s.trend)

time-in : (s : ℕ) (t : TimeDelta) → s ≤ most_send → Anchored s t → overuse_time_in t ≡ true
time-in s NegativeInfinity h a = absurd a.since
time-in s (Negative n) h a = le-leb n most_overuse (omega (arith, a.since, a.most))
time-in s (Positive n) h a = le-leb n most_overuse (omega (arith, a.since))
time-in s PositiveInfinity h a = absurd a.since

overuse-in : (p : Option ArrivalGroup) (len : ℕ) (o : Option Overuse) → BoundedIfAny most_instant most_instant p → SoundOveruse o → GoodOveruse p len o → overuse_in o ≡ true
unfolding overuse_in
overuse-in p len None h s g = refl
overuse-in None len (Some o) h s g = absurd g
overuse-in (Some p) len (Some o) h s g = rw (le-leb o.count 2 s, time-in p.last_local_send_time o.time_overusing h.last-send g.1)

trendline-in : (p : Option ArrivalGroup) (t : TrendlineEstimator) → BoundedIfAny most_instant most_instant p → GoodTrendline p t → trendline_in t ≡ true
unfolding trendline_in
trendline-in p t h g =
    let s = g.sound in
    rw (instant-in t.zero_time s.zero-time, history-in t.history s.history g.delays, delays-in t.delays s.delays g.smoothed, overuse-in p t.history.len t.overuse h s.overuse g.overuse, instant-in t.last_threshold_update s.last-update)

-- ---- the rate control
rate-control-in : (c : RateControl) → GoodRate c → rate_control_in c ≡ true
unfolding rate_control_in
rate-control-in c g =
    let r : In min_estimate.0 max_estimate.0 c.estimated_bitrate.0 = in-wider g.sound.in-range (unfold floats in tt) in
    rw (g.sound.low-is, g.sound.high_is, eq_refl min_estimate.0 (unfold floats in tt), eq_refl max_estimate.0 (unfold floats in tt), within-is r, average-in c.averaged_observed_bitrate observed_bit_rate_smoothing_factor most_rate.0 (unfold floats in tt) g.kept.average-kept, instant-in c.last_estimate_update g.kept.last-at-most, duration-in c.last_rtt g.kept.rtt-at-most)

-- ---- the link
pub good-in-range : (l : Link) → Good l → in_range l ≡ true
unfolding in_range control_in
good-in-range l g =
    let c = l.control in
    let p = g.packets in
    rw (acked-in l.acked g.acked, groups-in c.arrival_group_accumulator p.groups, trendline-in c.arrival_group_accumulator.previous_group c.trendline_estimator p.groups.previous p.trendline, rate-control-in c.rate_control g.rate, average-in c.smoothed_rtt rtt_smoothing_factor most_round_trip (unfold floats in tt) g.round_trip, le-leb c.next_timeout most_ns (omega (arith, g.timeout)), instant-in c.last_twcc_report g.report)

-- every link that a run reaches
pub reached-in-range : (start : Bitrate) (initial window : ℕ) (l : Link) → opening start initial window ≡ opened l → (calls : List Call) → in_range (run l calls) ≡ true
reached-in-range start initial window l e calls = good-in-range (run l calls) (run-good l calls (opening-good start initial window l e))
