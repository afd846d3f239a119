-- Words and links: a stored link has the format and loads as it was, what is not read tells nothing.
use Rattle.trendline.specs.declared.Overuse.{Overuse}
use Rattle.arrival_group.specs.declared.ArrivalGroup.{ArrivalGroup}
use Rattle.bandwidth.specs.declared.Bitrate.{Bitrate}
use Rattle.std.specs.Prelude.{ℕ, zero, suc, ◌^◌, ◌<◌, ◌≡◌, Bool, ◌&&◌, ◌||◌, T, eqb, length, Float, Option, Some, None, unwrap_or, option_map, ◌+◌}
use Rattle.std.proofs.Common.{arith, ap, subst, ◌∙◌, length-set, SFits}
use Rattle.std.proofs.Math.Path.{refl, ap₂}
use Rattle.std.proofs.Math.Bool.{true, false}
use mathlib.Core.List.{List, [], ◌∷◌}
use Rattle.std.proofs.Math.Dec.{leb}
use Rattle.std.proofs.Math.ListN.{get_or}
use Rattle.std.proofs.lemmas.List.Edits.{sets}
use Rattle.std.proofs.Math.Seq.{length-sets}
use Rattle.std.specs.Float.Ieee.{binary64, fits, of_bits, to_bits}
use Rattle.std.specs.Float.Ieee.Bits.{of_bits-to_bits, of_bits-fits}
use Rattle.std.proofs.Math.Facts.{to_z-of_z, sfits_to_z}
use Rattle.std.specs.Int.{w64}
use Rattle.bool_laws.specs.Bools.{both, chosen, left}
use Rattle.average.specs.declared.MovingAverage.{MovingAverage}
use Rattle.bandwidth.specs.declared.BandwidthUsage.{BandwidthUsage}
use Rattle.bandwidth.specs.declared.BandwidthUsage.TheVariants as Usage
use Rattle.time.specs.declared.TimeDelta.{TimeDelta}
use Rattle.time.specs.declared.TimeDelta.TheVariants as Delta
use Rattle.acked_bitrate_estimator.specs.declared.AckedBitrateEstimator.{AckedBitrateEstimator}
use Rattle.trendline.specs.declared.TrendlineEstimator.{TrendlineEstimator}
use Rattle.rate_control.specs.declared.State.{State}
use Rattle.rate_control.specs.declared.State.TheVariants as S
use Rattle.rate_control.specs.declared.RateControl.{RateControl}
use Rattle.control.specs.Control.{with_rate}
use Rattle.control.specs.declared.DelayController.{DelayController}
use Rattle.link_state.specs.Laws.{Sized}
use Rattle.link_state.specs.declared.Link.{Link}
use Rattle.link_words.specs.LinkWords.{acked, acked_words, average_words, control, control_words, delays, delays_words, floats, formed, group, group_words, groups, groups_words, history, history_words, hypothesis, hypothesis_tag, moving_average, of_words, option, overuse_values, overuse_words, rate_bits, rate_control, rate_control_words, round_trip_words, state, state_tag, tag, time_delta, time_ns, time_tag, timeout_words, to_words, trendline, trendline_words}

-- ---- values of the types: a float is one of binary64, a size an i64, and arrays hold 20. Every link of the code is so.
abbrev pub Held : Float → Type 0
Held x = T (fits binary64 x)

abbrev pub AllHeld : List Float → Type 0
AllHeld [] = Unit {0}
AllHeld (x ∷ xs) = Held x × AllHeld xs

abbrev pub RateHeld : Option Bitrate → Type 0
RateHeld None = Unit {0}
RateHeld (Some r) = Held r.0

abbrev pub FloatHeld : Option Float → Type 0
FloatHeld None = Unit {0}
FloatHeld (Some x) = Held x

pub record AverageHeld (m : MovingAverage) : Type 0 where
  pub factor : Held m.smoothing_factor
  pub average : FloatHeld m.average
  pub variance : Held m.variance
  pub std : Held m.std

pub record AckedHeld (a : AckedBitrateEstimator) : Type 0 where
  pub estimate : RateHeld a.estimate
  pub variance : Held a.estimate_var
  pub sum : SFits w64 a.sum.0

pub record TrendlineHeld (t : TrendlineEstimator) : Type 0 where
  pub sized : Sized t.history
  pub times : AllHeld t.history.times
  pub delays : AllHeld t.history.delays
  pub accumulated : Held t.delays.accumulated_delay
  pub smoothed : Held t.delays.smoothed_delay
  pub threshold : Held t.delays.delay_threshold
  pub trend : Held t.delays.previous_trend

pub record RateControlHeld (c : RateControl) : Type 0 where
  pub estimate : Held c.estimated_bitrate.0
  pub least : Held c.min_bitrate.0
  pub most : Held c.max_bitrate.0
  pub observed : RateHeld c.last_observed_bitrate
  pub averaged : AverageHeld c.averaged_observed_bitrate

pub record LinkHeld (l : Link) : Type 0 where
  pub acked : AckedHeld l.acked
  pub trendline : TrendlineHeld l.control.trendline_estimator
  pub rate-control : RateControlHeld l.control.rate_control
  pub smoothed-rtt : AverageHeld l.control.smoothed_rtt

-- ---- options and enums load as they were
option-back : {A : Type 0} (o : Option A) (d : A) → option (tag o) (unwrap_or o d) ≡ o
option-back None d = refl
option-back (Some x) d = refl

bitrate-back : (r : Option Bitrate) → RateHeld r → option (tag (option_map rate_bits r)) (record { 0 = of_bits binary64 (unwrap_or (option_map rate_bits r) 0) }) ≡ r
bitrate-back None h = refl
bitrate-back (Some r) h = ap (λ (x : Float). Some (record { 0 = x })) (of_bits-to_bits binary64 r.0 h)

average-back : (m : MovingAverage) → AverageHeld m → moving_average (average_words m) 0 ≡ m
average-back m h =
    simp (
      of_bits-to_bits binary64 m.smoothing_factor h.factor,
      value m.average h.average,
      of_bits-to_bits binary64 m.variance h.variance,
      of_bits-to_bits binary64 m.std h.std,
    )
  where
    value : (x : Option Float) → FloatHeld x → option (tag (option_map (to_bits binary64) x)) (of_bits binary64 (unwrap_or (option_map (to_bits binary64) x) 0)) ≡ x
    value None h = refl
    value (Some x) h = ap Some (of_bits-to_bits binary64 x h)

group-back : (g : Option ArrivalGroup) → group (group_words g) 0 ≡ g
group-back None = refl
group-back (Some g) = refl

time-back : (t : TimeDelta) → time_delta (time_tag t) (time_ns t) ≡ t
time-back Delta.NegativeInfinity = refl
time-back (Delta.Negative n) = refl
time-back (Delta.Positive n) = refl
time-back Delta.PositiveInfinity = refl

overuse-back : (o : Option Overuse)
    → option (tag o) (record { count = (overuse_values o).count; time_overusing = time_delta (time_tag (overuse_values o).time_overusing) (time_ns (overuse_values o).time_overusing) }) ≡ o
overuse-back None = refl
overuse-back (Some o) = simp (time-back o.time_overusing)

hypothesis-back : (h : BandwidthUsage) → hypothesis (hypothesis_tag h) ≡ h
hypothesis-back Usage.Overuse = refl
hypothesis-back Usage.Normal = refl
hypothesis-back Usage.Underuse = refl

state-back : (s : State) → state (state_tag s) ≡ s
state-back S.Increase = refl
state-back S.Hold = refl
state-back S.Decrease = refl

-- ---- tags are in range
option-formed : {A : Type 0} (o : Option A) → leb (tag o) 1 ≡ true
option-formed None = refl
option-formed (Some x) = refl

time-formed : (t : TimeDelta) → leb (time_tag t) 3 ≡ true
time-formed Delta.NegativeInfinity = refl
time-formed (Delta.Negative n) = refl
time-formed (Delta.Positive n) = refl
time-formed Delta.PositiveInfinity = refl

overuse-formed : (o : Option Overuse) → (leb (tag o) 1 ≡ true) × ((eqb (tag o) 0 || leb (time_tag (overuse_values o).time_overusing) 3) ≡ true)
overuse-formed None = (refl, refl)
overuse-formed (Some o) = (refl, time-formed o.time_overusing)

hypothesis-formed : (h : BandwidthUsage) → leb (hypothesis_tag h) 2 ≡ true
hypothesis-formed Usage.Overuse = refl
hypothesis-formed Usage.Normal = refl
hypothesis-formed Usage.Underuse = refl

state-formed : (s : State) → leb (state_tag s) 2 ≡ true
state-formed S.Increase = refl
state-formed S.Hold = refl
state-formed S.Decrease = refl

-- ---- lists of a known length, element by element
listed : {A : Type 0} → ℕ → (ℕ → A) → List A
listed zero f = []
listed (suc n) f = f 0 ∷ listed n (λ i. f (suc i))

listed-all : {A : Type 0} (d : A) (xs : List A) (n : ℕ) → length xs ≡ n → listed n (λ i. get_or xs i d) ≡ xs
unfolding listed
listed-all d [] zero e = refl
listed-all d [] (suc n) e = absurd (omega (arith, e))
listed-all d (x ∷ xs) zero e = absurd (omega (arith, e))
listed-all {A} d (x ∷ xs) (suc n) e = ap (λ (r : List A). x ∷ r) (listed-all d xs n (omega (arith, e)))

listed_back : (n : ℕ) (f : ℕ → Float) → ((i : ℕ) → Held (f i)) → listed n (λ i. of_bits binary64 (to_bits binary64 (f i))) ≡ listed n f
unfolding listed
listed_back zero f h = refl
listed_back (suc n) f h = simp (of_bits-to_bits binary64 (f 0) (h 0), listed_back n (λ i. f (suc i)) (λ i. h (suc i)))

zero_float : Float
zero_float = of_bits binary64 0

held_at : (xs : List Float) → AllHeld xs → (i : ℕ) → Held (get_or xs i zero_float)
unfolding zero_float
held_at [] h i = of_bits-fits binary64 0
held_at (x ∷ xs) h zero = h.0
held_at (x ∷ xs) h (suc i) = held_at xs h.1 i

-- ---- a link whose arrays are listed
abbrev with : Link → List Float → List Float → Link
with l times delays =
    record {
      acked = l.acked;
      control =
          record {
            arrival_group_accumulator = l.control.arrival_group_accumulator;
            trendline_estimator =
                record {
                  zero_time = l.control.trendline_estimator.zero_time;
                  history = record { times = times; delays = delays; len = l.control.trendline_estimator.history.len };
                  delays = l.control.trendline_estimator.delays;
                  overuse = l.control.trendline_estimator.overuse;
                  last_threshold_update = l.control.trendline_estimator.last_threshold_update;
                  hypothesis = l.control.trendline_estimator.hypothesis;
                };
            rate_control = l.control.rate_control;
            smoothed_rtt = l.control.smoothed_rtt;
            next_timeout = l.control.next_timeout;
            last_twcc_report = l.control.last_twcc_report;
          };
    }

-- ---- a rate control that is stored and loaded
abbrev reloaded : RateControl → RateControl
reloaded c = rate_control (sets (listed 100 (λ i. 0)) 77 (rate_control_words c))

reloaded-same : (c : RateControl) → RateControlHeld c → reloaded c ≡ c
unfolding rate_control rate_control_words listed
reloaded-same c h =
    simp (
      state-back c.state,
      of_bits-to_bits binary64 c.estimated_bitrate.0 h.estimate,
      of_bits-to_bits binary64 c.min_bitrate.0 h.least,
      of_bits-to_bits binary64 c.max_bitrate.0 h.most,
      bitrate-back c.last_observed_bitrate h.observed,
      average-back c.averaged_observed_bitrate h.averaged,
      option-back c.last_estimate_update 0,
      option-back c.last_rtt 0,
    )

-- a link with the rate control and the next timeout of another controller
abbrev pub with_timeout : DelayController → Link → Link
with_timeout c l = record { acked = l.acked; control = with_rate l.control c.rate_control c.next_timeout }

module _ (l : Link) (f g : ℕ → Float) where
  abbrev words : List ℕ
  words = to_words (with l (listed 20 f) (listed 20 g))

  acked-back : AckedHeld l.acked → acked words ≡ l.acked
  unfolding acked to_words acked_words
  acked-back h =
      simp (bitrate-back l.acked.estimate h.estimate, of_bits-to_bits binary64 l.acked.estimate_var h.variance, to_z-of_z h.sum, option-back l.acked.last_update 0)

  groups-back : groups words ≡ l.control.arrival_group_accumulator
  unfolding groups to_words acked_words control_words groups_words
  groups-back =
      let a = l.control.arrival_group_accumulator in
      simp (option-back a.send_time_origin 0, group-back a.previous_group, group-back a.current_group)

  history-back : ((i : ℕ) → Held (f i)) → ((i : ℕ) → Held (g i)) → history words ≡ record { times = listed 20 f; delays = listed 20 g; len = l.control.trendline_estimator.history.len }
  unfolding history floats listed to_words acked_words control_words groups_words trendline_words history_words
  history-back hf hg = ap₂ (λ (ts ds : List Float). record { times = ts; delays = ds; len = l.control.trendline_estimator.history.len }) (listed_back 20 f hf) (listed_back 20 g hg)

  delays-back : TrendlineHeld l.control.trendline_estimator → delays words ≡ l.control.trendline_estimator.delays
  unfolding delays listed to_words acked_words control_words groups_words trendline_words history_words delays_words
  delays-back h =
      let d = l.control.trendline_estimator.delays in
      simp (
        of_bits-to_bits binary64 d.accumulated_delay h.accumulated,
        of_bits-to_bits binary64 d.smoothed_delay h.smoothed,
        of_bits-to_bits binary64 d.delay_threshold h.threshold,
        of_bits-to_bits binary64 d.previous_trend h.trend,
      )

  rate_control-back : RateControlHeld l.control.rate_control → rate_control words ≡ l.control.rate_control
  unfolding rate_control listed to_words acked_words control_words groups_words trendline_words history_words delays_words overuse_words rate_control_words
  rate_control-back h = reloaded-same l.control.rate_control h

  trendline-back : TrendlineHeld l.control.trendline_estimator → ((i : ℕ) → Held (f i)) → ((i : ℕ) → Held (g i)) → trendline words ≡ (with l (listed 20 f) (listed 20 g)).control.trendline_estimator
  unfolding trendline listed to_words acked_words control_words groups_words trendline_words history_words delays_words overuse_words
  trendline-back h hf hg =
      let t = l.control.trendline_estimator in
      simp (
        option-back t.zero_time 0,
        history-back hf hg,
        delays-back h,
        overuse-back t.overuse,
        option-back t.last_threshold_update 0,
        hypothesis-back t.hypothesis,
      )

  round-trip-back : AverageHeld l.control.smoothed_rtt → moving_average words 92 ≡ l.control.smoothed_rtt
  unfolding listed to_words acked_words control_words groups_words trendline_words history_words delays_words overuse_words rate_control_words round_trip_words
  round-trip-back h = average-back l.control.smoothed_rtt h

  last-back : option (get_or words 98 0) (get_or words 99 0) ≡ l.control.last_twcc_report
  unfolding listed to_words acked_words control_words groups_words trendline_words history_words delays_words overuse_words rate_control_words round_trip_words
  last-back = option-back l.control.last_twcc_report 0

  next-back : get_or words 97 0 ≡ l.control.next_timeout
  unfolding listed to_words acked_words control_words groups_words trendline_words history_words delays_words overuse_words rate_control_words round_trip_words
  next-back = refl

  listed-loads : LinkHeld l → ((i : ℕ) → Held (f i)) → ((i : ℕ) → Held (g i)) → of_words words ≡ with l (listed 20 f) (listed 20 g)
  unfolding of_words control
  listed-loads h hf hg =
      simp (
        acked-back h.acked,
        groups-back,
        trendline-back h.trendline hf hg,
        rate_control-back h.rate-control,
        round-trip-back h.smoothed-rtt,
        next-back,
        last-back,
      )

  listed-formed : formed words ≡ true
  unfolding listed to_words acked_words control_words groups_words trendline_words history_words delays_words overuse_words rate_control_words round_trip_words
  listed-formed =
      let a = l.acked in
      let c = l.control in
      let s = c.arrival_group_accumulator in
      let t = c.trendline_estimator in
      let r = c.rate_control in
      simp (
        option-formed (option_map rate_bits a.estimate),
        option-formed a.last_update,
        option-formed s.send_time_origin,
        option-formed s.previous_group,
        option-formed s.current_group,
        option-formed t.zero_time,
        (overuse-formed t.overuse).0,
        (overuse-formed t.overuse).1,
        option-formed t.last_threshold_update,
        hypothesis-formed t.hypothesis,
        state-formed r.state,
        option-formed (option_map rate_bits r.last_observed_bitrate),
        option-formed (option_map (to_bits binary64) r.averaged_observed_bitrate.average),
        option-formed r.last_estimate_update,
        option-formed r.last_rtt,
        option-formed (option_map (to_bits binary64) c.smoothed_rtt.average),
        option-formed c.last_twcc_report,
      )

  -- a timeout changes the words of its own fields
  listed-timeout : (c : DelayController) → timeout_words c words ≡ to_words (with_timeout c (with l (listed 20 f) (listed 20 g)))
  unfolding with_rate timeout_words listed to_words acked_words control_words groups_words trendline_words history_words delays_words overuse_words rate_control_words round_trip_words
  listed-timeout c = refl

-- ---- the claims
module _ (l : Link) where
  abbrev times : List Float
  times = l.control.trendline_estimator.history.times

  abbrev shifts : List Float
  shifts = l.control.trendline_estimator.history.delays

  -- what holds of listed arrays holds of a link's own
  of-listed : (P : Link → Type 0) → Sized l.control.trendline_estimator.history
      → P (with l (listed 20 (λ i. get_or times i zero_float)) (listed 20 (λ i. get_or shifts i zero_float)))
      → P l
  of-listed P s p =
      subst (λ (ds : List Float). P (with l times ds)) (listed-all zero_float shifts 20 s.delays)
      (subst (λ (ts : List Float). P (with l ts (listed 20 (λ i. get_or shifts i zero_float)))) (listed-all zero_float times 20 s.times) p)

  -- stored words have the format
  pub words-formed : Sized l.control.trendline_estimator.history → formed (to_words l) ≡ true
  words-formed s = of-listed (λ (k : Link). formed (to_words k) ≡ true) s (listed-formed l (λ i. get_or times i zero_float) (λ i. get_or shifts i zero_float))

  -- a stored link loads as it was
  pub words-load : LinkHeld l → of_words (to_words l) ≡ l
  words-load h =
      of-listed (λ (k : Link). of_words (to_words k) ≡ k) h.trendline.sized
      (listed-loads l (λ i. get_or times i zero_float) (λ i. get_or shifts i zero_float) h (held_at times h.trendline.times) (held_at shifts h.trendline.delays))

  -- the words of a link after a timeout are those of the link with its rate control and next timeout
  pub words-timeout : (c : DelayController) → Sized l.control.trendline_estimator.history → timeout_words c (to_words l) ≡ to_words (with_timeout c l)
  words-timeout c s =
      of-listed (λ (k : Link). timeout_words c (to_words k) ≡ to_words (with_timeout c k)) s (listed-timeout l (λ i. get_or times i zero_float) (λ i. get_or shifts i zero_float) c)

-- ---- any 100 words, after a timeout
pub timeout-length : (c : DelayController) (w : List ℕ) → length (timeout_words c w) ≡ length w
unfolding timeout_words
timeout-length c w = let r = rate_control_words c.rate_control in length-set (sets w 77 r) 97 c.next_timeout ∙ length-sets w 77 r

module _ (c : DelayController) (f : ℕ → ℕ) where
  abbrev timed : List ℕ
  timed = timeout_words c (listed 100 f)

  timed-acked : acked timed ≡ acked (listed 100 f)
  unfolding acked timeout_words rate_control_words listed
  timed-acked = refl

  timed-groups : groups timed ≡ groups (listed 100 f)
  unfolding groups timeout_words rate_control_words listed
  timed-groups = refl

  timed-trendline : trendline timed ≡ trendline (listed 100 f)
  unfolding trendline history floats delays timeout_words rate_control_words listed
  timed-trendline = refl

  timed-rate_control : rate_control timed ≡ reloaded c.rate_control
  unfolding rate_control timeout_words rate_control_words listed
  timed-rate_control = refl

  timed-loads : of_words timed ≡ record { acked = acked (listed 100 f); control = with_rate (control (listed 100 f)) (reloaded c.rate_control) c.next_timeout }
  unfolding of_words control with_rate timeout_words rate_control_words listed
  timed-loads = simp (timed-acked, timed-groups, timed-trendline, timed-rate_control)

  timed-formed : formed (listed 100 f) ≡ true → formed timed ≡ true
  unfolding timeout_words rate_control_words listed
  timed-formed e =
      let r = c.rate_control in
      rw (
        state-formed r.state,
        option-formed (option_map rate_bits r.last_observed_bitrate),
        option-formed (option_map (to_bits binary64) r.averaged_observed_bitrate.average),
        option-formed r.last_estimate_update,
        option-formed r.last_rtt,
      )
      (kept
      (eqb (f 0) 1 && leb (f 3) 1 && leb (f 8) 1 && leb (f 10) 1 && leb (f 12) 1 && leb (f 17) 1 && leb (f 22) 1 && leb (f 70) 1 && (eqb (f 70) 0 || leb (f 72) 3) && leb (f 74) 1 && leb (f 76) 2)
      (leb (f 77) 2)
      (leb (f 81) 1)
      (leb (f 84) 1)
      (leb (f 88) 1)
      (leb (f 90) 1)
      (leb (f 93) 1)
      (leb (f 98) 1)
      e)
    where
      and : (s t : Bool) → s ≡ true → t ≡ true → (s && t) ≡ true
      and true t p q = q
      and false t p q = p

      kept : (before s b a i d x y : Bool) → (before && s && b && a && i && d && x && y) ≡ true → (before && true && true && true && true && true && x && y) ≡ true
      kept before s b a i d x y e =
          let p = both _ y e in
          let q = both _ x p.0 in
          let h = left before s (left _ b (left _ a (left _ i (left _ d q.0)))) in
          and _ y (and _ x (and _ true (and _ true (and _ true (and _ true (and before true h refl) refl) refl) refl) refl) q.1) p.1

module _ (c : DelayController) (w : List ℕ) (size : length w ≡ 100) where
  from_listed : (P : List ℕ → Type 0) → P (listed 100 (λ i. get_or w i 0)) → P w
  from_listed P p = subst P (listed-all 0 w 100 size) p

  reloads : of_words (timeout_words c w) ≡ record { acked = (of_words w).acked; control = with_rate (of_words w).control (reloaded c.rate_control) c.next_timeout }
  unfolding of_words
  reloads =
      from_listed (λ (v : List ℕ). of_words (timeout_words c v) ≡ record { acked = acked v; control = with_rate (control v) (reloaded c.rate_control) c.next_timeout })
      (timed-loads c (λ i. get_or w i 0))

  -- they load as the link before, with that rate control and next timeout
  pub timeout-loads : RateControlHeld c.rate_control → of_words (timeout_words c w) ≡ with_timeout c (of_words w)
  timeout-loads h = rw (reloads, reloaded-same c.rate_control h) refl

  -- they have the format, if they had it
  pub timeout-formed : formed w ≡ true → formed (timeout_words c w) ≡ true
  timeout-formed = from_listed (λ (v : List ℕ). formed v ≡ true → formed (timeout_words c v) ≡ true) (timed-formed c (λ i. get_or w i 0))

-- and if they loaded as others did, they still do
pub timeout-alike : (c : DelayController) (v w : List ℕ) → length v ≡ 100 → length w ≡ 100 → of_words v ≡ of_words w → of_words (timeout_words c v) ≡ of_words (timeout_words c w)
timeout-alike c v w m n e = rw (reloads c v m, reloads c w n, e) refl

-- ---- what is loaded is of the types, so it is stored and loaded again without change
floats-held : (w : List ℕ) (i n : ℕ) → (length (floats w i n) ≡ n) × AllHeld (floats w i n)
unfolding floats
floats-held w i zero = (refl, tt)
floats-held w i (suc n) = let r = floats-held w (suc i) n in (ap suc r.0, (of_bits-fits binary64 (get_or w i 0), r.1))

bitrate-held : (tag bits : ℕ) → RateHeld (option tag (record { 0 = of_bits binary64 bits }))
bitrate-held tag bits = chosen RateHeld (eqb tag 0) tt (of_bits-fits binary64 bits)

average-held : (w : List ℕ) (i : ℕ) → AverageHeld (moving_average w i)
average-held w i =
    record {
      factor = of_bits-fits binary64 (get_or w i 0);
      average = chosen FloatHeld (eqb (get_or w (i + 1) 0) 0) tt (of_bits-fits binary64 (get_or w (i + 2) 0));
      variance = of_bits-fits binary64 (get_or w (i + 3) 0);
      std = of_bits-fits binary64 (get_or w (i + 4) 0);
    }

module _ (w : List ℕ) (size : get_or w 6 0 < 2 ^ 64) where
  acked-held : AckedHeld (acked w)
  unfolding acked
  acked-held = record { estimate = bitrate-held (get_or w 3 0) (get_or w 4 0); variance = of_bits-fits binary64 (get_or w 5 0); sum = sfits_to_z {w = w64} (record { fits = size }) }

  trendline-held : TrendlineHeld (trendline w)
  unfolding trendline history delays
  trendline-held =
      record {
        sized = record { times = (floats-held w 24 20).0; delays = (floats-held w 44 20).0 };
        times = (floats-held w 24 20).1;
        delays = (floats-held w 44 20).1;
        accumulated = of_bits-fits binary64 (get_or w 66 0);
        smoothed = of_bits-fits binary64 (get_or w 67 0);
        threshold = of_bits-fits binary64 (get_or w 68 0);
        trend = of_bits-fits binary64 (get_or w 69 0);
      }

  rate_control-held : RateControlHeld (rate_control w)
  unfolding rate_control
  rate_control-held =
      record {
        estimate = of_bits-fits binary64 (get_or w 78 0);
        least = of_bits-fits binary64 (get_or w 79 0);
        most = of_bits-fits binary64 (get_or w 80 0);
        observed = bitrate-held (get_or w 81 0) (get_or w 82 0);
        averaged = average-held w 83;
      }

  pub loaded-held : LinkHeld (of_words w)
  unfolding of_words control
  loaded-held =
      record {
        acked = acked-held;
        trendline = trendline-held;
        rate-control = rate_control-held;
        smoothed-rtt = average-held w 92;
      }

  pub loaded-again : of_words (to_words (of_words w)) ≡ of_words w
  loaded-again = words-load (of_words w) loaded-held
