-- What an observation keeps of the estimator, with instants up to s seconds: ranges, counts, the order of the times. The threshold is from 6 to 600.
-- In use are s = 10 ^ 9, of states that a run reaches, and s = 10 ^ 9 + 1, of lent states that pass question 1.
use Rattle.std.specs.Option.{unwrap_or}
use Rattle.std.specs.Prelude.{◌≡◌, false, ◌&&◌, ℕ, ◌+◌, ◌*◌, ◌^◌, ◌≤◌, ◌<◌, min, T, ltb, eqb, length, Float, Option, Some, None}
use Rattle.std.proofs.Math.Path.{refl}
use Rattle.std.proofs.Common.{◌∙◌, add-one, arith}
use borrow.Author.Tests.{le-ltb, ltb-true, ltb-false, eqb-true}
use Rattle.std.specs.Float.Ieee as Ieee
use Rattle.std.specs.Float.Ieee.{le, lt, neg}
use Rattle.float_order.specs.Binary64 as F
use Rattle.float_order.specs.Binary64.{sub, mul, div, lit, decimal, one}
use Rattle.float_order.specs.Order.{ordered, le_trans}
use Rattle.float_order.specs.Range.{Within, nat, in-ordered, in-closed, lit-in, add-in, mul_in, absorb}
use Rattle.float_order.specs.Interval.{floats}
use Rattle.float_order.specs.Dyadic.{two^}
use Rattle.float_order.specs.Whole.{nat_le}
use Rattle.time.specs.Time as Time
use Rattle.time.specs.Time.{saturating_duration_since}
use Rattle.time.specs.declared.TimeDelta.{TimeDelta}
use Rattle.bandwidth.specs.declared.BandwidthUsage.{BandwidthUsage}
use Rattle.arrival_group.specs.Laws.{AtMost}
use Rattle.arrival_group.specs.declared.InterGroupDelayDelta.{InterGroupDelayDelta}
use Rattle.trendline.specs.declared.History.{History}
use Rattle.trendline.specs.declared.Overuse.{Overuse}
use Rattle.trendline.specs.declared.Delays.{Delays}
use Rattle.trendline.specs.declared.Judgement.{Judgement}
use Rattle.trendline.specs.declared.TrendlineEstimator.{TrendlineEstimator}
use Rattle.bool_laws.specs.Bools.{cases}
use Rattle.trendline.specs.Trendline.{smoothing_coef, place, add, accumulate, add_to_history, linear_fit, modified_trend, with_trend, over_use_time_threshold, next_overuse, overusing, judge, detect, new, add_delay_observation}
use Rattle.trendline.specs.History.{First, Ascending, placed, insert-length, insert-each, insert-ascending, insert-full-length, insert-full-each, insert-full-ascending}
use Rattle.trendline.specs.Milliseconds.{time-in, delta-in}
use Rattle.trendline.specs.Slope.{Bounded, fit, wider, sums-in, slope-in, fit-ordered}
use Rattle.trendline.specs.Threshold.{ThresholdIn, modified-ordered, threshold-in}

-- ---- the claims
-- the largest float that is not above 10 ^ 30
abbrev pub most_accumulated : Float
most_accumulated = lit 0x4629_3e59_39a0_8ce9

pub most_accumulated-is : most_accumulated ≡ decimal 999_999_999_999_999_879_147_136_483_328 1
most_accumulated-is = unfold floats in refl

pub most-accumulated : T (le most_accumulated (nat (10 ^ 30)) && lt (nat (10 ^ 30)) (lit 0x4629_3e59_39a0_8cea))
most-accumulated = unfold floats in tt

pub record SoundDelays (d : Delays) : Type 0 where
  pub count : d.num_delay_variations ≤ 1000
  pub accumulated : Within most_accumulated d.accumulated_delay
  pub smoothed : Within (nat (10 ^ 31)) d.smoothed_delay
  pub threshold : ThresholdIn d.delay_threshold
  pub trend : T (ordered d.previous_trend)

pub record SoundHistory (s : ℕ) (h : History) : Type 0 where
  pub times-length : length h.times ≡ 20
  pub delays-length : length h.delays ≡ 20
  pub few : h.len ≤ 20
  pub times : First (Within (nat (s * 1000))) h.len h.times
  pub delays : First (Within (nat (10 ^ 31))) h.len h.delays
  pub order : Ascending h.len h.times

abbrev pub SoundOveruse : Option Overuse → Type 0
SoundOveruse None = Unit {0}
SoundOveruse (Some o) = o.count ≤ 2

abbrev pub InstantIn : ℕ → Option ℕ → Type 0
InstantIn n None = Unit {0}
InstantIn n (Some t) = t ≤ n

pub record Sound (s : ℕ) (t : TrendlineEstimator) : Type 0 where
  pub zero-time : InstantIn (s * 10 ^ 9) t.zero_time
  pub history : SoundHistory s t.history
  pub delays : SoundDelays t.delays
  pub overuse : SoundOveruse t.overuse
  pub last-update : InstantIn (s * 10 ^ 9) t.last_threshold_update

-- what is observed
pub record Observed (s : ℕ) (v : InterGroupDelayDelta) : Type 0 where
  pub send : AtMost (s * 10 ^ 9 + 500000) v.send_delta
  pub arrival : AtMost (s * 10 ^ 9) v.arrival_delta
  pub last : v.last_remote_recv_time ≤ s * 10 ^ 9

-- what an observation does to a possible overuse
pub data OveruseStep (old : Option Overuse) (sent : TimeDelta) : Option Overuse → Type 0 where
  stays : OveruseStep old sent old
  cleared : OveruseStep old sent None
  begins : old ≡ None → OveruseStep old sent (Some (record { count = 1; time_overusing = Time.div sent 2 }))
  lasts : {o : Overuse} → old ≡ Some o → OveruseStep old sent (Some (record { count = min (o.count + 1) 2; time_overusing = Time.add o.time_overusing sent }))

-- ---- the sums of delays
-- one difference is below half a step of the floats near 10 ^ 30
pub accumulate-sound : {d : Delays} {delta : Float} → SoundDelays d → Within (nat (4 * 10 ^ 12)) delta → SoundDelays (accumulate d delta)
unfolding accumulate
accumulate-sound {d} {delta} h k =
    let total : Within most_accumulated (F.add d.accumulated_delay delta) = absorb h.accumulated k (unfold floats in tt) in
    let kept : Within (nat (91 * 10 ^ 29)) (mul d.smoothed_delay smoothing_coef) = mul_in h.smoothed (lit-in smoothing_coef (unfold floats in tt)) (unfold floats in tt) in
    let part : Within (nat (2 * 10 ^ 29)) (mul (sub one smoothing_coef) (F.add d.accumulated_delay delta)) = mul_in (lit-in (sub one smoothing_coef) (unfold floats in tt)) total (unfold floats in tt) in
    record {
      count = omega arith;
      accumulated = total;
      smoothed = add-in kept part (unfold floats in tt);
      threshold = h.threshold;
      trend = h.trend;
    }

-- ---- the history
pub add-sound : {s : ℕ} {h : History} {time delay : Float} → SoundHistory s h → Within (nat (s * 1000)) time → Within (nat (10 ^ 31)) delay → SoundHistory s (add h time delay)
unfolding add
add-sound {s} {h} {time} {delay} k t d =
    let xs = h.times in
    let ys = h.delays in
    let r = placed xs h.len time (λ i l. in-ordered (k.times i l)) (in-ordered t) in
    let p = place xs h.len time in
    rw (le-ltb 20 h.len k.few)
    (cases (SoundHistory s) (ltb h.len 20)
    (λ e.
    let l = ltb-true h.len 20 e in
    let m : h.len < length xs = rw k.times-length l in
    let n : h.len < length ys = rw k.delays-length l in
    rw add-one (record {
      times-length = insert-length xs p time ∙ k.times-length;
      delays-length = insert-length ys p delay ∙ k.delays-length;
      few = l;
      times = insert-each xs p time h.len r.most (Within (nat (s * 1000))) m k.times t;
      delays = insert-each ys p delay h.len r.most (Within (nat (10 ^ 31))) n k.delays d;
      order = insert-ascending xs p time h.len r k.order m;
    }))
    (λ e.
    let m : h.len ≤ length xs = rw k.times-length k.few in
    let n : h.len ≤ length ys = rw k.delays-length k.few in
    record {
      times-length = insert-full-length xs p time ∙ k.times-length;
      delays-length = insert-full-length ys p delay ∙ k.delays-length;
      few = k.few;
      times = insert-full-each xs p time h.len r.most (Within (nat (s * 1000))) m k.times t;
      delays = insert-full-each ys p delay h.len r.most (Within (nat (10 ^ 31))) n k.delays d;
      order = insert-full-ascending xs p time h.len r k.order m;
    }))

-- ---- the slope over a full history
module _ {s : ℕ} (few : s ≤ 10 ^ 9 + 1) {h : History} (k : SoundHistory s h) (full : h.len ≡ 20) where
  times-in : First (Within (two^ 40)) 20 h.times
  times-in i m =
      wider (le_trans (nat (s * 1000)) (nat (10 ^ 12 + 1000)) (two^ 40) (nat_le (s * 1000) (10 ^ 12 + 1000) (omega arith)) (unfold floats in tt)) (k.times i (rw full m))

  delays-in : First (Within (nat (10 ^ 31))) 20 h.delays
  delays-in = rw full at k.delays

  pub history-sums : Bounded h.times h.delays
  history-sums = sums-in h.times h.delays k.times-length k.delays-length times-in delays-in

  pub history-slope : Ieee.eq (fit h.times h.delays).denominator (lit 0) ≡ false
      → Within (two^ 688) (div (fit h.times h.delays).numerator (fit h.times h.delays).denominator)
  history-slope e = slope-in h.times h.delays k.times-length k.delays-length times-in delays-in e

  pub history-fit : (previous : Float) → T (ordered previous) → T (ordered (linear_fit h.times h.delays previous))
  history-fit previous o = fit-ordered h.times h.delays k.times-length k.delays-length times-in delays-in previous o

-- ---- the possible overuse
next-step : (old : Option Overuse) (sent : TimeDelta) → OveruseStep old sent (Some (next_overuse old sent))
unfolding next_overuse
next-step None sent = begins refl
next-step (Some o) sent = lasts refl

judge-step : (d : Delays) (old : Option Overuse) (hypothesis : BandwidthUsage) (trend : Float) (sent : TimeDelta) → OveruseStep old sent (judge d old hypothesis trend sent).overuse
unfolding judge overusing
judge-step d old hypothesis trend sent =
    let modified = modified_trend d trend in
    let o = next_overuse old sent in
    let P : Judgement → Type 0 = λ j. OveruseStep old sent j.overuse in
    cases P (Ieee.lt d.delay_threshold modified)
    (λ e. cases P (Time.lt (Time.positive over_use_time_threshold) o.time_overusing && ltb 1 o.count && Ieee.lt d.previous_trend trend) (λ f. cleared) (λ f. next-step old sent))
    (λ e. cases P (Ieee.lt modified (neg d.delay_threshold)) (λ f. cleared) (λ f. cleared))

detect-step : (t : TrendlineEstimator) (trend : Float) (sent : TimeDelta) (now : ℕ) → OveruseStep t.overuse sent (detect t trend sent now).overuse
unfolding detect
detect-step t trend sent now =
    cases (λ (u : TrendlineEstimator). OveruseStep t.overuse sent u.overuse) (ltb t.delays.num_delay_variations 2) (λ e. stays) (λ e. judge-step t.delays t.overuse t.hypothesis trend sent)

pub overuse-step : (t : TrendlineEstimator) (v : InterGroupDelayDelta) (now : ℕ) → OveruseStep t.overuse v.send_delta (add_delay_observation t v now).overuse
unfolding add_delay_observation add_to_history
overuse-step t v now =
    let u = add_to_history t v in
    cases (λ (w : TrendlineEstimator). OveruseStep t.overuse v.send_delta w.overuse) (eqb u.history.len 20)
    (λ e. detect-step u (linear_fit u.history.times u.history.delays u.delays.previous_trend) v.send_delta now) (λ e. stays)

step-sound : {old : Option Overuse} {sent : TimeDelta} {new' : Option Overuse} → OveruseStep old sent new' → SoundOveruse old → SoundOveruse new'
step-sound stays h = h
step-sound cleared h = tt
step-sound (begins e) h = omega arith
step-sound (lasts e) h = omega arith

-- ---- the estimator
pub new-sound : (s : ℕ) → Sound s new
new-sound s =
    record {
      zero-time = tt;
      history = record { times-length = refl; delays-length = refl; few = omega arith; times = λ i l. absurd (omega arith); delays = λ i l. absurd (omega arith); order = λ i l. absurd (omega arith) };
      delays = record { count = omega arith; accumulated = in-closed (unfold floats in tt); smoothed = in-closed (unfold floats in tt); threshold = in-closed (unfold floats in tt); trend = unfold floats in tt };
      overuse = tt;
      last-update = tt;
    }

instant-or : (o : Option ℕ) {n other : ℕ} → InstantIn n o → other ≤ n → unwrap_or o other ≤ n
instant-or None h k = k
instant-or (Some t) h k = h

module _ {s : ℕ} (few : s ≤ 10 ^ 9 + 1) where
  to-history-sound : {t : TrendlineEstimator} {v : InterGroupDelayDelta} → Sound s t → Observed s v → Sound s (add_to_history t v)
  unfolding add_to_history
  to-history-sound {t} {v} h o =
      let z = instant-or t.zero_time h.zero-time o.last in
      let d = accumulate-sound h.delays (delta-in few v o.send o.arrival) in
      record { zero-time = z; history = add-sound h.history (time-in few o.last z) d.smoothed; delays = d; overuse = h.overuse; last-update = h.last-update }

  detect-sound : {t : TrendlineEstimator} (trend : Float) (sent : TimeDelta) {now : ℕ} → Sound s t → T (ordered trend) → now ≤ s * 10 ^ 9 → Sound s (detect t trend sent now)
  unfolding detect with_trend
  detect-sound {t} trend sent {now} h o k =
      let d = t.delays in
      cases (Sound s) (ltb d.num_delay_variations 2)
      (λ e. record { zero-time = h.zero-time; history = h.history; delays = h.delays; overuse = h.overuse; last-update = h.last-update })
      (λ e.
      let n = ltb-false d.num_delay_variations 2 e in
      record {
        zero-time = h.zero-time;
        history = h.history;
        delays = record {
          count = h.delays.count;
          accumulated = h.delays.accumulated;
          smoothed = h.delays.smoothed;
          threshold = threshold-in d (modified_trend d trend) (saturating_duration_since now (unwrap_or t.last_threshold_update now)) h.delays.threshold (modified-ordered d trend (omega arith) o);
          trend = o;
        };
        overuse = step-sound (judge-step d t.overuse t.hypothesis trend sent) h.overuse;
        last-update = k;
      })

  pub observation-sound : {t : TrendlineEstimator} {v : InterGroupDelayDelta} {now : ℕ} → Sound s t → Observed s v → now ≤ s * 10 ^ 9 → Sound s (add_delay_observation t v now)
  unfolding add_delay_observation
  observation-sound {t} {v} {now} h o k =
      let u = add_to_history t v in
      let g = to-history-sound h o in
      let previous = u.delays.previous_trend in
      cases (Sound s) (eqb u.history.len 20)
      (λ e.
      detect-sound (linear_fit u.history.times u.history.delays previous) v.send_delta g (history-fit few g.history (eqb-true u.history.len 20 e) previous g.delays.trend) k)
      (λ e. g)
