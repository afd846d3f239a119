-- What a passed question 1 tells of a link, over numbers. `Sized` is known of every value of the code.
use Rattle.trendline.specs.declared.Overuse.{Overuse}
use Rattle.std.specs.Prelude.{◌≡◌, refl, true, false, not, List, [], ◌∷◌, ℕ, zero, suc, ◌+◌, ◌*◌, ◌^◌, ◌≤◌, ◌<◌, ℤ, pos, negsuc, T, length, take, get_or, Float, Option, Some, None, IfSome}
use Rattle.std.proofs.Common.{ap, inl, inr, leb-true, ltb-false, eqb-true, T_not}
use native.Mathlib.Omega.{arith}
use Rattle.std.proofs.lemmas.Bool.{not-true}
use Rattle.std.proofs.Math.Seq.{get_or-take, length-take-le}
use Rattle.std.specs.Float.Ieee.{nan, binary64, le, eq, neg, fits, of_bits}
use Rattle.std.specs.Float.Ieee.Bits.{of_bits-fits}
use Rattle.float_order.specs.Binary64.{lit}
use Rattle.float_order.specs.Order.{ordered, is_true, le_trans, eq→le, le-ordered-l}
use Rattle.float_order.specs.Ops.{zero₊}
use Rattle.float_order.specs.Range.{In, Within, nat, in-wider}
use Rattle.float_order.specs.Interval.{floats}
use Rattle.float_order.specs.Same.{is_zero, eq→same}
use Rattle.bool_laws.specs.Bools.{left, right}
use Rattle.sqrt.specs.Sqrt.{sqrt}
use Rattle.average.specs.declared.MovingAverage.{MovingAverage}
use Rattle.bandwidth.specs.Bandwidth as B
use Rattle.bandwidth.specs.declared.Bitrate.{Bitrate}
use Rattle.bandwidth.specs.declared.DataSize.{DataSize}
use Rattle.time.specs.declared.TimeDelta.{TimeDelta}
use Rattle.time.specs.declared.TimeDelta.TheVariants as Delta
use Rattle.acked_bitrate_estimator.specs.Laws.{ValidSum, ValidWindow}
use Rattle.acked_bitrate_estimator.specs.declared.AckedBitrateEstimator.{AckedBitrateEstimator}
use Rattle.arrival_group.specs.Laws.{AtMost}
use Rattle.arrival_group.specs.declared.ArrivalGroup.{ArrivalGroup}
use Rattle.arrival_group.specs.declared.ArrivalGroupAccumulator.{ArrivalGroupAccumulator}
use Rattle.trendline.specs.History as Timings
use Rattle.trendline.specs.Laws.{SoundDelays, SoundHistory, SoundOveruse, Sound}
use Rattle.trendline.specs.declared.History.{History}
use Rattle.trendline.specs.declared.Delays.{Delays}
use Rattle.trendline.specs.declared.TrendlineEstimator.{TrendlineEstimator}
use Rattle.rate_control.specs.RateControl.{observed_bit_rate_smoothing_factor}
use Rattle.rate_control.specs.Laws as RateControl
use Rattle.rate_control.specs.Laws.{InstantAtMost, DurationAtMost}
use Rattle.rate_control.specs.declared.RateControl.{RateControl as RateControlState}
use Rattle.control.specs.Control.{rtt_smoothing_factor}
use Rattle.control.specs.Laws.{most_round_trip}
use Rattle.bandwidth.specs.Bandwidth.{min_estimate, max_estimate, most_rate}
use Rattle.trendline.specs.Trendline.{min_threshold_ms, max_threshold_ms}
use Rattle.float.specs.Float.{within}
use Rattle.questions.specs.Questions.{window_in}
use Rattle.link_state.specs.State.{
  acked_in,
  acked_rate_in,
  all_within,
  ascends,
  average_in,
  average_within,
  control_in,
  delays_in,
  group_in,
  groups_in,
  history_in,
  in_range,
  ns_in,
  least_acked,
  most30,
  most31,
  most_ns,
  most_overuse,
  most_time,
  overuse_in,
  overuse_time_in,
  rate_control_in,
  sum_in,
  trendline_in,
}
use Rattle.link_state.specs.declared.Link.{Link}

-- ---- the claims
-- both arrays of a history hold 20
pub record Sized (h : History) : Type 0 where
  pub times : length h.times ≡ 20
  pub delays : length h.delays ≡ 20

-- the factor and the deviation are equal as floats: a zero may have either sign
pub record AverageInRange (factor most : Float) (m : MovingAverage) : Type 0 where
  pub factor-is : eq m.smoothing_factor factor ≡ true
  pub average : IfSome m.average (In zero₊ most)
  pub variance : In zero₊ most30 m.variance
  pub std-is : eq m.std (sqrt m.variance) ≡ true

-- there are no bytes only where no time has elapsed
pub record AckedInRange (a : AckedBitrateEstimator) : Type 0 where
  pub initial : ValidWindow a.initial_window
  pub later : ValidWindow a.window
  pub estimate : IfSome a.estimate (λ r. In least_acked (nat (10 ^ 14)) r.0)
  pub variance : In zero₊ most30 a.estimate_var
  pub sum : ValidSum a.sum
  pub empty : sum.bytes ≡ 0 → a.current_window ≡ 0
  pub elapsed : a.current_window ≤ 10 ^ 10
  pub last-update : InstantAtMost most_ns a.last_update

pub record GroupInRange (g : ArrivalGroup) : Type 0 where
  pub first-send : g.first_local_send_time ≤ most_ns
  pub first-remote : g.first_remote_recv_time ≤ most_ns
  pub last-send : g.last_local_send_time ≤ most_ns
  pub last-remote : g.last_remote_recv_time ≤ most_ns

pub record GroupsInRange (a : ArrivalGroupAccumulator) : Type 0 where
  pub origin : InstantAtMost most_ns a.send_time_origin
  pub previous : IfSome a.previous_group GroupInRange
  pub current : IfSome a.current_group GroupInRange

abbrev pub OveruseInRange : Overuse → Type 0
OveruseInRange o = (o.count ≤ 2) × AtMost (2 * 10 ^ 18) o.time_overusing

-- times within ±10 ^ 12 ms and in order, delays, threshold, counts and the previous trend as the trendline's laws ask
pub record TrendlineInRange (t : TrendlineEstimator) : Type 0 where
  pub zero-time : InstantAtMost most_ns t.zero_time
  pub history : SoundHistory (10 ^ 9) t.history
  pub delays : SoundDelays t.delays
  pub overuse : IfSome t.overuse OveruseInRange
  pub last-update : InstantAtMost most_ns t.last_threshold_update

pub record RateInRange (c : RateControlState) : Type 0 where
  pub min-is : eq c.min_bitrate.0 min_estimate.0 ≡ true
  pub max-is : eq c.max_bitrate.0 max_estimate.0 ≡ true
  pub estimate : In (nat 40000) (nat (10 ^ 10)) c.estimated_bitrate.0
  pub average : AverageInRange observed_bit_rate_smoothing_factor most_rate.0 c.averaged_observed_bitrate
  pub last-update : InstantAtMost most_ns c.last_estimate_update
  pub rtt : DurationAtMost most_ns c.last_rtt

pub record InRange (l : Link) : Type 0 where
  pub acked : AckedInRange l.acked
  pub groups : GroupsInRange l.control.arrival_group_accumulator
  pub trendline : TrendlineInRange l.control.trendline_estimator
  pub rate : RateInRange l.control.rate_control
  pub round_trip : AverageInRange rtt_smoothing_factor most_round_trip l.control.smoothed_rtt
  pub next-timeout : l.control.next_timeout ≤ most_ns
  pub last-report : InstantAtMost most_ns l.control.last_twcc_report

-- ---- kinds of fields
within_in : {low high x : Float} → within low high x ≡ true → In low high x
within_in {low} {high} {x} h = record { low = is_true (le low x) (search left); high = is_true (le x high) (search (left, right)) }

from_zero : {most x : Float} → within (lit 0) most x ≡ true → In zero₊ most x
unfolding of_bits
from_zero h = within_in h

instant : (t : Option ℕ) → ns_in t ≡ true → InstantAtMost most_ns t
instant None h = tt
instant (Some t) h = leb-true t most_ns h

duration : (d : Option ℕ) → ns_in d ≡ true → DurationAtMost most_ns d
duration None h = tt
duration (Some d) h = leb-true d most_ns h

float : (most : Float) (a : Option Float) → average_within most a ≡ true → IfSome a (In zero₊ most)
float most None h = tt
float most (Some x) h = from_zero h

average : (m : MovingAverage) (factor most : Float) → average_in m factor most ≡ true → AverageInRange factor most m
unfolding average_in
average m factor most h = search (left, right, from_zero, float)

-- ---- the acknowledged rate
rate : (r : Option Bitrate) → acked_rate_in r ≡ true → IfSome r (λ x. In least_acked (nat (10 ^ 14)) x.0)
rate None h = tt
rate (Some r) h = in-wider (within_in h) (unfold floats in tt)

window : (w : ℕ) → window_in w ≡ true → ValidWindow w
unfolding window_in
window w h = search (left, right, leb-true, eqb-true)

record SumInRange (sum : DataSize) (elapsed : ℕ) : Type 0 where
  valid : ValidSum sum
  empty : valid.bytes ≡ 0 → elapsed ≡ 0

sum-in : (n : ℤ) (elapsed : ℕ) → sum_in (B.bytes n) elapsed ≡ true → SumInRange (B.bytes n) elapsed
unfolding sum_in
sum-in (pos zero) elapsed h = record { valid = record { bytes = 0; is = refl; few = omega arith }; empty = λ z. eqb-true elapsed 0 h }
sum-in (pos (suc n)) elapsed h = record {
  valid = record { bytes = suc n; is = refl; few = ltb-false 2147483647 (suc n) (not-true _ (search (left, right))) };
  empty = λ z. absurd (omega arith);
}
sum-in (negsuc n) elapsed h = absurd (is_true false h)

acked : (a : AckedBitrateEstimator) → acked_in a ≡ true → AckedInRange a
unfolding acked_in
acked a h =
    let s = sum-in a.sum.0 a.current_window (search (left, right)) in
    record {
      initial = search (left, right, window);
      later = search (left, right, window);
      estimate = search (left, right, rate);
      variance = search (left, right, from_zero);
      sum = s.valid;
      empty = s.empty;
      elapsed = search (left, right, leb-true);
      last-update = search (left, right, instant);
    }

-- ---- groups
group : (g : Option ArrivalGroup) → group_in g ≡ true → IfSome g GroupInRange
group None h = tt
group (Some g) h = search (left, right, leb-true)

groups : (a : ArrivalGroupAccumulator) → groups_in a ≡ true → GroupsInRange a
unfolding groups_in
groups a h = search (left, right, instant, group)

-- ---- the trendline
module _ (P : Float → Type 0) (n : ℕ) (xs : List Float) (h : n ≤ length xs) where
  first-of : ((i : ℕ) → i < length (take n xs) → P (get_or (take n xs) i nan)) → Timings.First P n xs
  first-of f i l = rw (get_or-take n xs i nan) at (f i (rw length-take-le l))

-- times that rise from low to high
ends : (low high : Float) (xs : List Float) → ascends low xs high ≡ true → T (le low high)
unfolding ascends
ends low high [] h = is_true (le low high) h
ends low high (x ∷ xs) h = le_trans low x high (is_true (le low x) (search left)) (ends x high xs (search (left, right)))

rising-in : (low high : Float) (xs : List Float) → ascends low xs high ≡ true → (i : ℕ) → i < length xs → In low high (get_or xs i nan)
unfolding ascends
rising-in low high [] h i l = absurd (omega arith)
rising-in low high (x ∷ xs) h zero l = record { low = is_true (le low x) (search left); high = ends x high xs (search (left, right)) }
rising-in low high (x ∷ xs) h (suc i) l =
    let r = rising-in x high xs (search (left, right)) i (omega arith) in
    record { low = le_trans low x (get_or xs i nan) (is_true (le low x) (search left)) r.low; high = r.high }

rising-order : (low high : Float) (xs : List Float) → ascends low xs high ≡ true → (i : ℕ) → suc i < length xs → T (le (get_or xs i nan) (get_or xs (suc i) nan))
unfolding ascends
rising-order low high [] h i l = absurd (omega arith)
rising-order low high (x ∷ xs) h zero l = (rising-in x high xs (search (left, right)) 0 (omega arith)).low
rising-order low high (x ∷ xs) h (suc i) l = rising-order x high xs (search (left, right)) i (omega arith)

all_in : (most : Float) (xs : List Float) → all_within most xs ≡ true → (i : ℕ) → i < length xs → Within most (get_or xs i nan)
unfolding all_within
all_in most [] h i l = absurd (omega arith)
all_in most (x ∷ xs) h zero l = within_in (search left)
all_in most (x ∷ xs) h (suc i) l = all_in most xs (search (left, right)) i (omega arith)

history : (h : History) → Sized h → history_in h ≡ true → SoundHistory (10 ^ 9) h
unfolding history_in
history h z t =
    let few : h.len ≤ 20 = search (left, right, leb-true) in
    let up : ascends (neg most_time) (take h.len h.times) most_time ≡ true = search (left, right) in
    let n : h.len ≤ length h.times = rw z.times few in
    let m : h.len ≤ length h.delays = rw z.delays few in
    record {
      times-length = z.times;
      delays-length = z.delays;
      few = few;
      times = first-of (Within (nat (10 ^ 12))) h.len h.times n (λ i l. in-wider (rising-in (neg most_time) most_time (take h.len h.times) up i l) (unfold floats in tt));
      delays = first-of (Within (nat (10 ^ 31))) h.len h.delays m (λ i l. in-wider (all_in most31 (take h.len h.delays) (search (left, right)) i l) (unfold floats in tt));
      order = λ i l.
          let k : i < h.len = omega arith in
          rw (get_or-take h.len h.times i nan, get_or-take h.len h.times (suc i) nan) at (rising-order (neg most_time) most_time (take h.len h.times) up i (rw length-take-le l));
    }

delays : (d : Delays) → delays_in d ≡ true → SoundDelays d
unfolding delays_in
delays d h = record {
  count = search (left, right, leb-true);
  accumulated = search (left, right, within_in);
  smoothed = in-wider (within_in {low = neg most31} {high = most31} (search (left, right))) (unfold floats in tt);
  threshold = in-wider (within_in {low = min_threshold_ms} {high = max_threshold_ms} (search (left, right))) (unfold floats in tt);
  trend = no_nan d.previous_trend (search (left, right));
}
  where
    no_nan : (x : Float) → eq x x ≡ true → T (ordered x)
    no_nan x e = le-ordered-l x x (eq→le x x (is_true (eq x x) e))

overuse-time : (t : TimeDelta) → overuse_time_in t ≡ true → AtMost (2 * 10 ^ 18) t
overuse-time Delta.NegativeInfinity h = absurd (is_true false h)
overuse-time (Delta.Negative n) h = leb-true n most_overuse h
overuse-time (Delta.Positive n) h = leb-true n most_overuse h
overuse-time Delta.PositiveInfinity h = absurd (is_true false h)

overuse : (o : Option Overuse) → overuse_in o ≡ true → IfSome o OveruseInRange
unfolding overuse_in
overuse None h = tt
overuse (Some o) h = (search (left, leb-true), search (left, right, overuse-time))

trendline : (t : TrendlineEstimator) → Sized t.history → trendline_in t ≡ true → TrendlineInRange t
unfolding trendline_in
trendline t z h = search (left, right, instant, history, delays, overuse)

-- ---- the rate control
rate-control : (c : RateControlState) → rate_control_in c ≡ true → RateInRange c
unfolding rate_control_in
rate-control c h = record {
  min-is = search (left, right);
  max-is = search (left, right);
  estimate = in-wider (within_in {low = min_estimate.0} {high = max_estimate.0} (search (left, right))) (unfold floats in tt);
  average = search (left, right, average);
  last-update = search (left, right, instant);
  rtt = search (left, right, duration);
}

-- ---- the link
pub in-range : (l : Link) → Sized l.control.trendline_estimator.history → in_range l ≡ true → InRange l
unfolding in_range control_in
in-range l z h = search (left, right, acked, groups, trendline, rate-control, average, leb-true, instant)

-- ---- what the laws of the parts ask, with instants up to 10 ^ 9 + 1 seconds
pub trendline-sound : {t : TrendlineEstimator} → TrendlineInRange t → Sound (10 ^ 9 + 1) t
trendline-sound {t} r = record {
  zero-time = r.zero-time;
  history = record {
    times-length = r.history.times-length;
    delays-length = r.history.delays-length;
    few = r.history.few;
    times = λ i l. in-wider (r.history.times i l) (unfold floats in tt);
    delays = r.history.delays;
    order = r.history.order;
  };
  delays = r.delays;
  overuse = overuse-sound t.overuse r.overuse;
  last-update = r.last-update;
}
  where
    overuse-sound : (o : Option Overuse) → IfSome o OveruseInRange → SoundOveruse o
    overuse-sound None h = tt
    overuse-sound (Some o) h = h.0

pub rate-sound : {c : RateControlState} → T (fits binary64 c.min_bitrate.0) → T (fits binary64 c.max_bitrate.0) → RateInRange c → RateControl.Sound c
rate-sound {c} f g r = record {
  low-is = same c.min_bitrate min_estimate f (of_bits-fits binary64 _) r.min-is (unfold floats in tt);
  high_is = same c.max_bitrate max_estimate g (of_bits-fits binary64 _) r.max-is (unfold floats in tt);
  in-range = r.estimate;
}
  where
    same : (b a : Bitrate) → T (fits binary64 b.0) → T (fits binary64 a.0) → eq b.0 a.0 ≡ true → T (not (is_zero a.0)) → b ≡ a
    same b a f g e n = elim (eq→same binary64 b.0 a.0 f g (is_true (eq b.0 a.0) e)) [
      | inl s ↦ ap B.rate s
      | inr z ↦ absurd (T_not (is_zero a.0) n z.1)
    ]
