-- Groups and trendline of a reached link, and that a report's packets keep them so.
use Rattle.std.specs.Option.{unwrap_or}
use Rattle.trendline.specs.declared.Overuse.{Overuse}
use Rattle.std.specs.Prelude.{ℕ, ◌+◌, ◌-◌, ◌*◌, ◌^◌, ◌≤◌, ◌<◌, min, ◌≡◌, refl, ◌&&◌, List, ltb, eqb, length, Float, Option, Some, None}
use Rattle.std.proofs.Common.{add-one, arith}
use borrow.Author.Tests.{le-ltb, ltb-true, eqb-true, eqb-false}
use Rattle.std.specs.Float.Ieee as Ieee
use Rattle.std.specs.Float.Ieee.{neg}
use Rattle.float_order.specs.Binary64 as F
use Rattle.float_order.specs.Binary64.{sub, mul, one}
use Rattle.float_order.specs.Range.{Within, nat, in-closed, lit-in, add-in, mul_in, absorb}
use Rattle.float_order.specs.Interval.{floats}
use Rattle.time.specs.Time as Time
use Rattle.time.specs.Time.{difference}
use Rattle.time.specs.declared.TimeDelta.{TimeDelta}
use Rattle.bandwidth.specs.declared.BandwidthUsage.{BandwidthUsage}
use Rattle.arrival_group.specs.ArrivalGroup as Group
use Rattle.arrival_group.specs.ArrivalGroup.{accumulate_packet, accumulate_rounded, delta, delta_between}
use Rattle.arrival_group.specs.Laws as Groups
use Rattle.arrival_group.specs.Laws.{Bounded, BoundedIfAny, Measured, accumulate-sound, measured}
use Rattle.arrival_group.specs.declared.ArrivalGroup.{ArrivalGroup}
use Rattle.arrival_group.specs.declared.Accumulated.{Accumulated}
use Rattle.arrival_group.specs.declared.InterGroupDelayDelta.{InterGroupDelayDelta}
use Rattle.bool_laws.specs.Bools.{cases}
use Rattle.trendline.specs.Trendline.{smoothing_coef, over_use_time_threshold, accumulate, add, add_to_history, add_delay_observation, detect, judge, linear_fit, modified_trend, new, next_overuse, overusing, place, with_trend}
use Rattle.trendline.specs.History.{First, place-le, insert-each, insert-full-each}
use Rattle.trendline.specs.Laws as Trendline
use Rattle.trendline.specs.Laws.{SoundDelays, SoundHistory, most_accumulated, observation-sound}
use Rattle.trendline.specs.Milliseconds.{delta-in}
use Rattle.trendline.specs.declared.Delays.{Delays}
use Rattle.trendline.specs.declared.History.{History}
use Rattle.trendline.specs.declared.Judgement.{Judgement}
use Rattle.trendline.specs.declared.TrendlineEstimator.{TrendlineEstimator}
use Rattle.control.specs.Control.{add_packet, add_packets, observe}
use Rattle.control.specs.Laws.{Instants, fold-keeps}
use Rattle.control.specs.declared.DelayDetector.{DelayDetector}
use Rattle.link_state.specs.State.{most31}
use Rattle.questions.specs.Questions.{most_instant}
use Rattle.link_runs.specs.Overuse.{Anchored, begins, lasts}

-- ---- the claims
-- there is an overuse only after a group, and with a full history
abbrev pub GoodOveruse : Option ArrivalGroup → ℕ → Option Overuse → Type 0
GoodOveruse p len None = Unit {0}
GoodOveruse None len (Some o) = ⊥
GoodOveruse (Some g) len (Some o) = (len ≡ 20) × Anchored g.last_local_send_time o.time_overusing

-- of the previous group and the trendline; 10 ^ 9 s, and delays to the greatest float that is not above 10 ^ 31
pub record GoodTrendline (p : Option ArrivalGroup) (t : TrendlineEstimator) : Type 0 where
  pub sound : Trendline.Sound (10 ^ 9) t
  pub counted : t.history.len ≤ t.delays.num_delay_variations
  pub smoothed : Within most31 t.delays.smoothed_delay
  pub delays : First (Within most31) t.history.len t.history.delays
  pub overuse : GoodOveruse p t.history.len t.overuse

pub record GoodPackets (d : DelayDetector) : Type 0 where
  pub groups : Groups.Sound most_instant most_instant d.arrival_group_accumulator
  pub trendline : GoodTrendline d.arrival_group_accumulator.previous_group d.trendline_estimator

-- ---- a point of the history
-- a full history stays full, and what is counted stays at least its length
add-len : (h : History) (time delay : Float) (n : ℕ) → h.len ≤ 20 → h.len ≤ n → ((add h time delay).len ≤ min (n + 1) 1000) × (h.len ≡ 20 → (add h time delay).len ≡ 20)
unfolding add
add-len h time delay n few k =
    rw (le-ltb 20 h.len few)
    (cases (λ (x : History). (x.len ≤ min (n + 1) 1000) × (h.len ≡ 20 → x.len ≡ 20)) (ltb h.len 20)
    (λ e. let l = ltb-true h.len 20 e in (omega arith, λ f. absurd (omega arith))) (λ e. (omega arith, λ f. f)))

add-delays : (P : Float → Type 0) (h : History) (time delay : Float) → SoundHistory (10 ^ 9) h → First P h.len h.delays → P delay
    → First P (add h time delay).len (add h time delay).delays
unfolding add
add-delays P h time delay k f d =
    let p = place h.times h.len time in
    let m = place-le h.times h.len time in
    rw (le-ltb 20 h.len k.few)
    (cases (λ (x : History). First P x.len x.delays) (ltb h.len 20)
    (λ e.
    let l : h.len < length h.delays = rw k.delays-length (ltb-true h.len 20 e) in
    rw add-one (insert-each h.delays p delay h.len m P l f d))
    (λ e.
    let l : h.len ≤ length h.delays = rw k.delays-length k.few in
    insert-full-each h.delays p delay h.len m P l f d))

-- ---- an observation
smoothed-in : {d : Delays} {delta : Float} → SoundDelays d → Within (nat (4 * 10 ^ 12)) delta → Within most31 (accumulate d delta).smoothed_delay
unfolding accumulate
smoothed-in {d} {delta} h k =
    let total : Within most_accumulated (F.add d.accumulated_delay delta) = absorb h.accumulated k (unfold floats in tt) in
    let kept : Within (nat (91 * 10 ^ 29)) (mul d.smoothed_delay smoothing_coef) = mul_in h.smoothed (lit-in smoothing_coef (unfold floats in tt)) (unfold floats in tt) in
    let part : Within (nat (2 * 10 ^ 29)) (mul (sub one smoothing_coef) (F.add d.accumulated_delay delta)) = mul_in (lit-in (sub one smoothing_coef) (unfold floats in tt)) total (unfold floats in tt) in
    add-in kept part (unfold floats in tt)

-- with a full history an overuse ends, begins or lasts
data Judged (old : Option Overuse) (sent : TimeDelta) : Option Overuse → Type 0 where
  cleared : Judged old sent None
  counted : Judged old sent (Some (next_overuse old sent))

judge-judged : (d : Delays) (old : Option Overuse) (hypothesis : BandwidthUsage) (trend : Float) (sent : TimeDelta) → Judged old sent (judge d old hypothesis trend sent).overuse
unfolding judge overusing
judge-judged d old hypothesis trend sent =
    let modified = modified_trend d trend in
    let o = next_overuse old sent in
    let P : Judgement → Type 0 = λ j. Judged old sent j.overuse in
    cases P (Ieee.lt d.delay_threshold modified)
    (λ e. cases P (Time.lt (Time.positive over_use_time_threshold) o.time_overusing && ltb 1 o.count && Ieee.lt d.previous_trend trend) (λ f. cleared) (λ f. counted))
    (λ e. cases P (Ieee.lt modified (neg d.delay_threshold)) (λ f. cleared) (λ f. cleared))

-- what `detect` leaves, and what it makes of an overuse
record Detected (t : TrendlineEstimator) (sent : TimeDelta) (u : TrendlineEstimator) : Type 0 where
  history : u.history ≡ t.history
  count : u.delays.num_delay_variations ≡ t.delays.num_delay_variations
  smoothed : u.delays.smoothed_delay ≡ t.delays.smoothed_delay
  overuse : Judged t.overuse sent u.overuse

detect-detected : (t : TrendlineEstimator) (trend : Float) (sent : TimeDelta) (now : ℕ) → 2 ≤ t.delays.num_delay_variations → Detected t sent (detect t trend sent now)
unfolding detect with_trend
detect-detected t trend sent now h =
    rw (le-ltb t.delays.num_delay_variations 2 h)
    (record { history = refl; count = refl; smoothed = refl; overuse = judge-judged t.delays t.overuse t.hypothesis trend sent })

module _ (g g' : ArrivalGroup) (h : Bounded most_instant most_instant g) (k : Bounded most_instant most_instant g') where
  judged-good : (old new : Option Overuse) (sent : TimeDelta) (len : ℕ) → sent ≡ difference g'.last_local_send_time g.last_local_send_time → GoodOveruse (Some g) len old → Judged old sent new
      → GoodOveruse (Some g') 20 new
  unfolding next_overuse
  judged-good None new sent len e o j = by sent new e j
    where
      by : (time : TimeDelta) (next : Option Overuse) → time ≡ difference g'.last_local_send_time g.last_local_send_time → Judged None time next → GoodOveruse (Some g') 20 next
      by time next i cleared = tt
      by time next i counted = (refl, rw i (begins g.last_local_send_time g'.last_local_send_time h.last-send k.last-send))
  judged-good (Some u) new sent len e o j = by sent new e j
    where
      by : (time : TimeDelta) (next : Option Overuse) → time ≡ difference g'.last_local_send_time g.last_local_send_time → Judged (Some u) time next → GoodOveruse (Some g') 20 next
      by time next i cleared = tt
      by time next i counted = (refl, rw i (lasts g.last_local_send_time g'.last_local_send_time h.last-send k.last-send u.time_overusing o.1))

-- without a full history there was none
none-good : (p q : Option ArrivalGroup) (o : Option Overuse) (len len' : ℕ) → (len ≡ 20 → ⊥) → GoodOveruse p len o → GoodOveruse q len' o
none-good p q None len len' n h = tt
none-good None q (Some o) len len' n h = absurd h
none-good (Some g) q (Some o) len len' n h = absurd (n h.0)

-- two groups, and what they measured
module _ (g g' : ArrivalGroup) (h : Bounded most_instant most_instant g) (k : Bounded most_instant most_instant g') (t : TrendlineEstimator) (r : GoodTrendline (Some g) t) where
  abbrev v : InterGroupDelayDelta
  v = delta_between g g'

  m : Measured most_instant most_instant g g' v
  m = measured (omega arith) (omega arith) h k

  abbrev added : TrendlineEstimator
  added = add_to_history t v

  added-counted : added.history.len ≤ added.delays.num_delay_variations
  unfolding add_to_history accumulate
  added-counted = (add-len t.history _ _ t.delays.num_delay_variations r.sound.history.few r.counted).0

  added_full : t.history.len ≡ 20 → added.history.len ≡ 20
  unfolding add_to_history
  added_full = (add-len t.history _ _ t.delays.num_delay_variations r.sound.history.few r.counted).1

  added-smoothed : Within most31 added.delays.smoothed_delay
  unfolding add_to_history
  added-smoothed = smoothed-in r.sound.delays (delta-in {s = 10 ^ 9} (omega arith) v m.send-bound m.arrival-bound)

  added-delays : First (Within most31) added.history.len added.history.delays
  unfolding add_to_history
  added-delays = add-delays (Within most31) t.history _ _ r.sound.history r.delays added-smoothed

  full-good : (u : TrendlineEstimator) → added.history.len ≡ 20 → Detected added v.send_delta u → Trendline.Sound (10 ^ 9) u → GoodTrendline (Some g') u
  unfolding add_to_history
  full-good u f d s =
      record {
        sound = s;
        counted = rw (d.history, d.count) added-counted;
        smoothed = rw d.smoothed added-smoothed;
        delays = rw d.history added-delays;
        overuse = rw (d.history, f) (judged-good g g' h k t.overuse u.overuse v.send_delta t.history.len m.send r.overuse d.overuse);
      }

  few-good : (added.history.len ≡ 20 → ⊥) → Trendline.Sound (10 ^ 9) added → GoodTrendline (Some g') added
  unfolding add_to_history
  few-good f s =
      record {
        sound = s;
        counted = added-counted;
        smoothed = added-smoothed;
        delays = added-delays;
        overuse = none-good (Some g) (Some g') t.overuse t.history.len added.history.len (λ e. f (added_full e)) r.overuse;
      }

  observation-good : (now : ℕ) → now ≤ most_instant → GoodTrendline (Some g') (add_delay_observation t v now)
  unfolding add_delay_observation
  observation-good now l =
      cases (λ (u : TrendlineEstimator). Trendline.Sound (10 ^ 9) u → GoodTrendline (Some g') u) (eqb added.history.len 20)
      (λ e.
      let f = eqb-true added.history.len 20 e in
      full-good _ f (detect-detected added (linear_fit added.history.times added.history.delays added.delays.previous_trend) v.send_delta now (omega (arith, added-counted))))
      (λ e. few-good (eqb-false added.history.len 20 e))
      (observation-sound {s = 10 ^ 9} (omega arith) {now = now} r.sound (record { send = m.send-bound; arrival = m.arrival-bound; last = m.last-bound }) l)

-- ---- a packet
closed-good : (p : Option ArrivalGroup) (g : ArrivalGroup) (t : TrendlineEstimator) → BoundedIfAny most_instant most_instant p → Bounded most_instant most_instant g → GoodTrendline p t
    → GoodTrendline (Some g) (observe (delta p g) t)
unfolding delta
closed-good None g t h k r =
    record { sound = r.sound; counted = r.counted; smoothed = r.smoothed; delays = r.delays; overuse = none t.overuse r.overuse }
  where
    none : (o : Option Overuse) → GoodOveruse None t.history.len o → GoodOveruse (Some g) t.history.len o
    none None n = tt
    none (Some u) n = absurd n
closed-good (Some p) g t h k r = observation-good p g h k t r _ k.last-remote

abbrev GoodAfter : TrendlineEstimator → Accumulated → Type 0
GoodAfter t x = GoodTrendline x.accumulator.previous_group (observe x.delta t)

-- it closes the current group, or leaves the previous one
rounded-good : (current previous : Option ArrivalGroup) (t : TrendlineEstimator) (origin send remote : ℕ) → BoundedIfAny most_instant most_instant current → BoundedIfAny most_instant most_instant previous
    → GoodTrendline previous t → GoodAfter t (accumulate_rounded current previous origin send remote)
unfolding accumulate_rounded
rounded-good None previous t origin send remote h k g = g
rounded-good (Some c) previous t origin send remote h k g = added (Group.add_packet c send remote)
  where
    added : (a : Option ArrivalGroup) → GoodAfter t (Group.accumulate_added a c previous origin send remote)
    added None = closed-good previous c t k h g
    added (Some group) = g

packet-good : (d : DelayDetector) (send remote : ℕ) → GoodPackets d → send ≤ most_instant → remote ≤ most_instant → GoodPackets (add_packet d send remote)
unfolding accumulate_packet
packet-good d send remote g h k =
    let a = d.arrival_group_accumulator in
    let t = d.trendline_estimator in
    let origin = unwrap_or a.send_time_origin send in
    record {
      groups = accumulate-sound a (omega arith) h k g.groups;
      trendline =
          cases (GoodAfter t) (ltb send origin) (λ e. g.trendline)
          (λ e. rounded-good a.current_group a.previous_group t origin (Group.rounded origin (send - origin)) remote g.groups.current g.groups.previous g.trendline);
    }

-- ---- a report's packets
pub packets-good : (d : DelayDetector) (sends remotes : List ℕ) → Instants most_instant sends remotes → GoodPackets d → GoodPackets (add_packets d sends remotes)
packets-good d sends remotes h g = fold-keeps GoodPackets packet-good sends remotes h g

pub new-good : GoodPackets record { arrival_group_accumulator = Group.new_accumulator; trendline_estimator = new }
new-good =
    record {
      groups = Groups.new-sound most_instant most_instant;
      trendline = record { sound = Trendline.new-sound (10 ^ 9); counted = omega arith; smoothed = in-closed (unfold floats in tt); delays = λ i l. absurd (omega arith); overuse = tt };
    }
