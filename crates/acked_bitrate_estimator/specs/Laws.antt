-- What packets keep of an estimator, from `new` on: `Reached`. The laws are at the end: `new-reached`, `update-reached` and what follows from `Reached`.
use Rattle.std.specs.Prelude.{◌≡◌, ℕ, zero, suc, ◌+◌, ◌-◌, ◌*◌, ◌/◌, ◌%◌, ◌^◌, ◌<◌, ◌≤◌, min, Bool, true, false, cond, not, ◌&&◌, T, pos, ◌==◌, int_le, is_nan, nat_le, nat_lt, Float, Option, Some, None}
use Rattle.std.proofs.Math.Path.{refl, subst}
use Rattle.std.proofs.Common.{ap, arith, ltb-true, ltb-false, leb-false, leb→le}
use Rattle.std.specs.Float.Ieee.{binary64, le, eq, lt, fits}
use Rattle.std.specs.Float.Ieee.Bits.{of_bits-fits}
use Rattle.std.specs.Float.Ieee.Fits.{add-fits, mul-fits, div-fits, of_int-fits}
use Rattle.float_order.specs.Binary64.{add, sub, mul, lit, decimal}
use Rattle.float_order.specs.Order.{le_trans, eq→le}
use Rattle.float_order.specs.Ops.{zero₊}
use Rattle.float_order.specs.Range.{In, Within, nat, in-no-nan, in-closed, in-wider, lit-in, add-in, sub_in, mul_in, div-in, square-in}
use Rattle.float_order.specs.Interval.{floats, cond_either}
use Rattle.float_order.specs.Dyadic.{two^}
use Rattle.float_order.specs.Casts.{of_int-in, to_unsigned-le, to_unsigned-ge}
use Rattle.float.specs.Float.{abs, max, ceil, helpers}
use Rattle.float.specs.MinMax.{abs-in, max-in}
use Rattle.float.specs.Ceil.{ceil-at}
use Rattle.seconds.specs.Seconds.{as_secs_f64}
use Rattle.seconds.specs.Laws.{secs-mono}
use Rattle.bandwidth.specs.Bandwidth as B
use Rattle.bandwidth.specs.declared.DataSize.{DataSize}
use Rattle.bandwidth.specs.declared.Bitrate.{Bitrate}
use Rattle.time.specs.Time.{saturating_add}
use Rattle.acked_bitrate_estimator.specs.declared.AckedBitrateEstimator.{AckedBitrateEstimator}
use Rattle.acked_bitrate_estimator.specs.declared.Window.{Window}
use Rattle.acked_bitrate_estimator.specs.declared.Sample.{Sample}
use Rattle.acked_bitrate_estimator.specs.AckedBitrateEstimator.{small_sample_threshold, none, new, remaining, advance, sample, with_packet, scale, sample_uncertainty, mean, estimate_floor, estimate_var_increase, weigh, with_window, with_estimate, estimate_from, with_sample, window_for, window_length, current_window, filled, update_since, update}
use Rattle.acked_bitrate_estimator.specs.Mean.{mean-in, variance-in}

-- ---- the claims
abbrev pub few_bytes : DataSize → Bool
few_bytes sum = int_le sum.0 (pos B.most_sum)

pub record ValidSum (sum : DataSize) : Type 0 where
  pub bytes : ℕ
  pub is : sum ≡ B.bytes (pos bytes)
  pub few : bytes ≤ B.most_sum

-- whole ms from 1 to 10,000, in ns
pub record ValidWindow (ns : ℕ) : Type 0 where
  pub whole : ns % 10 ^ 6 ≡ 0
  pub least : 10 ^ 6 ≤ ns
  pub most : ns ≤ 10 ^ 10

abbrev pub least_rate : Float
least_rate = lit 0x3fe9_9999_9999_999a

pub least_rate-is : least_rate ≡ decimal 8 10
least_rate-is = unfold floats in refl

-- from 0.8, 1 byte in 10 s, to 2 ^ 44, which 2,147,483,647 bytes in 1 ms stay below
pub record ValidRate (x : Float) : Type 0 where
  pub range : In least_rate (two^ 44) x
  pub held : T (fits binary64 x)

abbrev pub ValidEstimate : Option Bitrate → Type 0
ValidEstimate None = Unit {0}
ValidEstimate (Some e) = ValidRate e.0

abbrev pub ValidSample : Option Sample → Type 0
ValidSample None = Unit {0}
ValidSample (Some s) = ValidRate s.rate.0

pub record ValidVariance (x : Float) : Type 0 where
  pub range : In zero₊ (nat (10 ^ 30)) x
  pub held : T (fits binary64 x)

-- there are no bytes only where no time has elapsed
pub record ReachedWindow (w : Window) : Type 0 where
  pub sum : ValidSum w.sum
  pub empty : sum.bytes ≡ 0 → w.elapsed ≡ 0
  pub elapsed : w.elapsed < 10 ^ 10

pub record Reached (a : AckedBitrateEstimator) : Type 0 where
  pub initial : ValidWindow a.initial_window
  pub later : ValidWindow a.window
  pub current : ReachedWindow (current_window a)
  pub estimate : ValidEstimate a.estimate
  pub variance : ValidVariance a.estimate_var

-- ---- a sample
abbrev millisecond : Float
millisecond = decimal 1 1000

secs-valid : (w : ℕ) → ValidWindow w → In millisecond (nat 10) (as_secs_f64 w)
secs-valid w h =
    in-wider (record { low = secs-mono (10 ^ 6) w h.least (omega (arith, h.most)); high = secs-mono w (10 ^ 10) h.most (omega arith) }) (unfold as_secs_f64 floats in tt)

no_zero : (x : Float) → T (le millisecond x) → eq x (lit 0) ≡ false
no_zero x h = go (eq x (lit 0)) (λ t. unfold floats in le_trans millisecond x (lit 0) h (eq→le x (lit 0) t))
  where
    go : (b : Bool) → (T b → ⊥) → b ≡ false
    go true f = absurd (f tt)
    go false f = refl

rate-valid : (n w : ℕ) → 1 ≤ n → n ≤ B.most_sum → ValidWindow w → ValidRate (B.per_duration (B.bytes (pos n)) w).0
unfolding B.per_secs
rate-valid n w l m h =
    let s = secs-valid w h in
    let b : In (nat 8) (nat (8 * B.most_sum)) (mul (B.as_bytes_f64 (B.bytes (pos n))) B.bits_per_byte) = mul_in (of_int-in {lo = nat 1} {hi = nat B.most_sum} 1 B.most_sum n l m (unfold floats in tt)) (lit-in B.bits_per_byte (unfold floats in tt)) (unfold floats in tt) in
    rw (no_zero (as_secs_f64 w) s.low)
    (record { range = div-in b s (unfold floats in tt); held = div-fits binary64 (mul (B.as_bytes_f64 (B.bytes (pos n))) B.bits_per_byte) (as_secs_f64 w) })

-- ---- the window
abbrev empty : Window
empty = record { sum = none; elapsed = 0 }

none-valid : ValidSum none
none-valid = record { bytes = 0; is = refl; few = omega arith }

empty-reached : ReachedWindow empty
empty-reached = record { sum = none-valid; empty = λ z. refl; elapsed = omega arith }

-- a window before its sample: one with no bytes is not full
record Ready (length : ℕ) (w : Window) : Type 0 where
  sum : ValidSum w.sum
  empty : sum.bytes ≡ 0 → w.elapsed < length
  elapsed : w.elapsed < 10 ^ 10 + length

ready : (length : ℕ) (w : Window) → ValidWindow length → ReachedWindow w → Ready length w
ready length w l h =
    record { sum = h.sum; empty = λ z. let e = h.empty z in omega (arith, l.least); elapsed = omega (arith, h.elapsed) }

remaining-less : (elapsed window : ℕ) → 1000 ≤ window → remaining elapsed window < window
unfolding remaining
remaining-less elapsed window h = go (window / 1000 == 0) _ _ (omega arith) (omega arith)
  where
    go : (b : Bool) (x y : ℕ) → x < window → y < window → cond b x y < window
    go true x y k l = k
    go false x y k l = l

advance-ready : (w : Window) (gap length : ℕ) → ValidWindow length → ReachedWindow w → Ready length (advance w gap length)
unfolding advance saturating_add
advance-ready w gap length l h = go (nat_le length gap) refl
  where
    elapsed : ℕ
    elapsed = saturating_add w.elapsed gap

    after : Bool → Window
    after b = cond b (record { sum = none; elapsed = remaining elapsed length }) (record { sum = w.sum; elapsed = elapsed })

    go : (b : Bool) → nat_le length gap ≡ b → Ready length (after b)
    go true t =
        let k = remaining-less elapsed length (omega (arith, l.least)) in
        record { sum = none-valid; empty = λ z. k; elapsed = omega arith }
    go false t =
        let g = leb-false length gap t in
        record { sum = h.sum; empty = λ z. let i = h.empty z in omega arith; elapsed = omega (arith, h.elapsed) }

some_byte : (n elapsed length : ℕ) → (n ≡ 0 → elapsed < length) → length ≤ elapsed → 1 ≤ n
some_byte zero elapsed length f h = absurd (let k = f refl in omega arith)
some_byte (suc n) elapsed length f h = omega arith

sample-valid : (w : Window) (length : ℕ) → ValidWindow length → Ready length w → ValidSample (sample w length)
unfolding sample
sample-valid w length l h = go (nat_lt w.elapsed length) refl
  where
    go : (b : Bool) → nat_lt w.elapsed length ≡ b → ValidSample (cond b None (Some (record { rate = B.per_duration w.sum length; is_small = B.less w.sum small_sample_threshold })))
    go true t = tt
    go false t = let n = h.sum.bytes in rw h.sum.is (rate-valid n length (some_byte n w.elapsed length h.empty (ltb-false w.elapsed length t)) h.sum.few l)

added : (n s : ℕ) → B.saturating_add (pos n) (pos s) ≡ pos (min (n + s) (2 ^ 63 - 1))
unfolding B.saturated
added n s = go (nat_lt (2 ^ 63 - 1) (n + s)) refl
  where
    go : (b : Bool) → nat_lt (2 ^ 63 - 1) (n + s) ≡ b → cond b (pos (2 ^ 63 - 1)) (pos (n + s)) ≡ pos (min (n + s) (2 ^ 63 - 1))
    go true t = ap pos (omega (arith, ltb-true (2 ^ 63 - 1) (n + s) t))
    go false t = ap pos (omega (arith, ltb-false (2 ^ 63 - 1) (n + s) t))

joined : (sum : DataSize) (s elapsed : ℕ) → ValidSum sum → 1 ≤ s → elapsed < 10 ^ 10 → T (few_bytes (B.add_size sum (B.bytes (pos s))))
    → ReachedWindow (record { sum = B.add_size sum (B.bytes (pos s)); elapsed = elapsed })
joined sum s elapsed h l k t =
    let n = min (h.bytes + s) (2 ^ 63 - 1) in
    let e : B.add_size sum (B.bytes (pos s)) ≡ B.bytes (pos n) = rw h.is (ap B.bytes (added h.bytes s)) in
    record {
      sum = record { bytes = n; is = e; few = leb→le n B.most_sum (subst (λ (z : DataSize). T (few_bytes z)) e t) };
      empty = λ z. absurd (omega arith);
      elapsed = k;
    }

packet-reached : (w : Window) (s length : ℕ) → ValidWindow length → Ready length w → 1 ≤ s
    → T (few_bytes (with_packet w (B.bytes (pos s)) length).sum) → ReachedWindow (with_packet w (B.bytes (pos s)) length)
unfolding with_packet
packet-reached w s length l h k = go (nat_lt w.elapsed length) refl
  where
    after : Bool → Window
    after b = cond b (record { sum = B.add_size w.sum (B.bytes (pos s)); elapsed = w.elapsed }) (record { sum = B.add_size none (B.bytes (pos s)); elapsed = w.elapsed - length })

    go : (b : Bool) → nat_lt w.elapsed length ≡ b → T (few_bytes (after b).sum) → ReachedWindow (after b)
    go true t = joined w.sum s w.elapsed h.sum k (omega (arith, ltb-true w.elapsed length t, l.most))
    go false t = joined none s (w.elapsed - length) none-valid k (omega (arith, ltb-false w.elapsed length t, l.least, h.elapsed))

-- ---- the estimate
-- a sample's variance is 2 ^ 98 at most: (25 * 2 ^ 44 / 0.8) ^ 2
module _ (small : Bool) (e s : Float) (he : ValidRate e) (hs : ValidRate s) where
  scale_in : In zero₊ (nat 25) (scale small e s)
  unfolding scale
  scale_in = cond_either (In zero₊ (nat 25)) (small && lt s e) _ _ (in-closed (unfold floats in tt)) (in-closed (unfold floats in tt))

  sample_var-in : In zero₊ (two^ 98) (mul (sample_uncertainty small e s) (sample_uncertainty small e s))
  sample_var-in =
      let d : Within (two^ 44) (sub e s) = sub_in he.range hs.range (unfold floats in tt) in
      let m : In zero₊ (nat (25 * 2 ^ 44)) (mul (scale small e s) (abs (sub e s))) = mul_in scale_in (abs-in d) (unfold floats in tt) in
      let q : In zero₊ (two^ 49) (sample_uncertainty small e s) = div-in m he.range (unfold floats in tt) in
      square-in q (unfold floats in tt)

module _ (e var s : Float) (small : Bool) (he : ValidRate e) (hvar : ValidVariance var) (hs : ValidRate s) where
  abbrev u : Float
  u = sample_uncertainty small e s

  pred_var-in : In (nat 5) (two^ 100) (add var estimate_var_increase)
  pred_var-in = add-in hvar.range (lit-in estimate_var_increase (unfold floats in tt)) (unfold floats in tt)

  -- the weighed estimate is 40,000 at least
  pub weigh-estimate : In (nat 40000) (two^ 44) (weigh e var s small).estimate
  unfolding weigh
  weigh-estimate =
      let M : In zero₊ (two^ 44) (mean (mul u u) (add var estimate_var_increase) e s) = mean-in (mul u u) (add var estimate_var_increase) 100 44 (mul-fits binary64 u u) (add-fits binary64 var estimate_var_increase) (omega arith) (in-wider (sample_var-in small e s he hs) (unfold floats in tt)) (in-wider pred_var-in (unfold floats in tt)) e s (in-wider he.range (unfold floats in tt)) (in-wider hs.range (unfold floats in tt)) in
      let f : In (nat 40000) (two^ 44) (max (mean (mul u u) (add var estimate_var_increase) e s) estimate_floor) = max-in M (lit-in estimate_floor (unfold floats in tt)) (unfold floats in tt) in
      let c : In (nat 40000) (nat (2 ^ 44)) (ceil (max (mean (mul u u) (add var estimate_var_increase) e s) estimate_floor)) = in-wider (ceil-at f) (unfold helpers in tt) in
      of_int-in 40000 (2 ^ 44) _ (to_unsigned-ge 64 40000 (omega arith) tt c) (to_unsigned-le 64 (2 ^ 44) tt c) (unfold floats in tt)

  weigh-variance : ValidVariance (weigh e var s small).variance
  unfolding weigh
  weigh-variance =
      let v = sample_var-in small e s he hs in
      record {
        range = in-wider (variance-in (mul u u) (add var estimate_var_increase) 100 98 (mul-fits binary64 u u) (add-fits binary64 var estimate_var_increase) (omega arith) (in-wider v (unfold floats in tt)) (in-wider pred_var-in (unfold floats in tt)) v) (unfold floats in tt);
        held = div-fits binary64 (mul (mul u u) (add var estimate_var_increase)) (add (mul u u) (add var estimate_var_increase));
      }

  weigh-rate : ValidRate (weigh e var s small).estimate
  unfolding weigh
  weigh-rate = record { range = in-wider weigh-estimate (unfold floats in tt); held = of_int-fits binary64 _ }

-- ---- the estimator
estimate-reached : (a : AckedBitrateEstimator) (rate : Bitrate) (var : Float) → Reached a → ValidRate rate.0 → ValidVariance var → Reached (with_estimate a rate var)
estimate-reached a rate var h r v = record { initial = h.initial; later = h.later; current = h.current; estimate = r; variance = v }

from-reached : (o : Option Bitrate) (a : AckedBitrateEstimator) (rate : Bitrate) (small : Bool) → ValidEstimate o → Reached a → ValidRate rate.0 → Reached (estimate_from o a rate small)
from-reached None a rate small e h r = estimate-reached a rate a.estimate_var h r h.variance
from-reached (Some x) a rate small e h r =
    estimate-reached a (B.rate (weigh x.0 a.estimate_var rate.0 small).estimate) (weigh x.0 a.estimate_var rate.0 small).variance h
    (weigh-rate x.0 a.estimate_var rate.0 small e h.variance r) (weigh-variance x.0 a.estimate_var rate.0 small e h.variance r)

sample-reached : (a : AckedBitrateEstimator) (s : Option Sample) → Reached a → ValidSample s → Reached (with_sample a s)
unfolding with_sample
sample-reached a None h v = h
sample-reached a (Some s) h v = from-reached a.estimate a s.rate s.is_small h.estimate h v

-- a sample leaves the bytes and the instant
abbrev Kept : AckedBitrateEstimator → AckedBitrateEstimator → Type 0
Kept a b = (b.sum ≡ a.sum) × (b.last_update ≡ a.last_update)

from-kept : (o : Option Bitrate) (a : AckedBitrateEstimator) (rate : Bitrate) (small : Bool) → Kept a (estimate_from o a rate small)
from-kept None a rate small = (refl, refl)
from-kept (Some x) a rate small = (refl, refl)

sample-kept : (a : AckedBitrateEstimator) (s : Option Sample) → Kept a (with_sample a s)
unfolding with_sample
sample-kept a None = (refl, refl)
sample-kept a (Some s) = from-kept a.estimate a s.rate s.is_small

length-valid : (a : AckedBitrateEstimator) → Reached a → ValidWindow (window_length a)
unfolding window_length
length-valid a h = go a.estimate
  where
    go : (o : Option Bitrate) → ValidWindow (window_for o a)
    go None = h.initial
    go (Some e) = h.later

window-reached : (a : AckedBitrateEstimator) (w : Window) (t : ℕ) → Reached a → ReachedWindow w → Reached (with_window a w t)
window-reached a w t h k = record { initial = h.initial; later = h.later; current = k; estimate = h.estimate; variance = h.variance }

module _ (a : AckedBitrateEstimator) (t s : ℕ) (h : Reached a) (l : 1 ≤ s) where
  filled-reached : (w : Window) → Ready (window_length a) w → T (few_bytes (filled a w t (B.bytes (pos s))).sum) → Reached (filled a w t (B.bytes (pos s)))
  unfolding filled
  filled-reached w r f =
      let L = length-valid a h in
      let b = with_window a (with_packet w (B.bytes (pos s)) (window_length a)) t in
      let x = sample w (window_length a) in
      let few : T (few_bytes b.sum) = subst (λ (z : DataSize). T (few_bytes z)) (sample-kept b x).0 f in
      sample-reached b x (window-reached a (with_packet w (B.bytes (pos s)) (window_length a)) t h (packet-reached w s (window_length a) L r l few)) (sample-valid w (window_length a) L r)

  since-reached : (o : Option ℕ) → T (few_bytes (update_since o a t (B.bytes (pos s))).sum) → Reached (update_since o a t (B.bytes (pos s)))
  since-reached None = filled-reached (current_window a) (ready (window_length a) (current_window a) (length-valid a h) h.current)
  since-reached (Some last) = go (nat_lt t last)
    where
      after : Bool → AckedBitrateEstimator
      after b = cond b (with_window a empty t) (filled a (advance (current_window a) (t - last) (window_length a)) t (B.bytes (pos s)))

      go : (b : Bool) → T (few_bytes (after b).sum) → Reached (after b)
      go true = λ f. window-reached a empty t h empty-reached
      go false = filled-reached (advance (current_window a) (t - last) (window_length a)) (advance-ready (current_window a) (t - last) (window_length a) (length-valid a h) h.current)

-- ---- the laws
pub new-reached : (initial window : ℕ) → ValidWindow initial → ValidWindow window → Reached (new initial window)
new-reached initial window i w =
    record {
      initial = i;
      later = w;
      current = empty-reached;
      estimate = tt;
      variance = record { range = in-closed (unfold floats in tt); held = of_bits-fits binary64 _ };
    }

-- a packet of at least 1 byte, at any instant, if the window's sum stays within its limit
pub update-reached : (a : AckedBitrateEstimator) (t s : ℕ) → Reached a → 1 ≤ s → T (few_bytes (update a t (B.bytes (pos s))).sum) → Reached (update a t (B.bytes (pos s)))
unfolding update
update-reached a t s h l = since-reached a t s h l a.last_update

filled-last : (a : AckedBitrateEstimator) (w : Window) (t : ℕ) (size : DataSize) → (filled a w t size).last_update ≡ Some t
unfolding filled
filled-last a w t size = (sample-kept (with_window a (with_packet w size (window_length a)) t) (sample w (window_length a))).1

pub update-last : (a : AckedBitrateEstimator) (t : ℕ) (size : DataSize) → (update a t size).last_update ≡ Some t
unfolding update
update-last a t size = go a.last_update
  where
    cleared : (b : Bool) (w : Window) → (cond b (with_window a empty t) (filled a w t size)).last_update ≡ Some t
    cleared true w = refl
    cleared false w = filled-last a w t size

    go : (o : Option ℕ) → (update_since o a t size).last_update ≡ Some t
    go None = filled-last a (current_window a) t size
    go (Some last) = cleared (nat_lt t last) (advance (current_window a) (t - last) (window_length a))

-- a sample is never 0, whatever the gap before the packet
pub sample_in : (a : AckedBitrateEstimator) (gap : ℕ) → Reached a → ValidSample (sample (advance (current_window a) gap (window_length a)) (window_length a))
sample_in a gap h = sample-valid (advance (current_window a) gap (window_length a)) (window_length a) (length-valid a h) (advance-ready (current_window a) gap (window_length a) (length-valid a h) h.current)

-- an estimate is never below 0.8, above 2 ^ 44, or a NaN
pub estimate-in : (a : AckedBitrateEstimator) (e : Bitrate) → Reached a → a.estimate ≡ Some e → ValidRate e.0
estimate-in a e h p = rw p at h.estimate

pub estimate-no-nan : (a : AckedBitrateEstimator) (e : Bitrate) → Reached a → a.estimate ≡ Some e → T (not (is_nan e.0))
estimate-no-nan a e h p = in-no-nan (estimate-in a e h p).range
