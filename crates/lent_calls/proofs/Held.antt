-- Values of a link are of their types (`LinkHeld`: a float is one of binary64, the byte sum an i64, an array has 20 elements). An accepted opening gives it, and
-- every call keeps it, of any link whatever.
use Rattle.std.specs.Prelude.{ℕ, zero, suc, ◌^◌, ◌-◌, ◌≡◌, refl, false, List, [], ◌∷◌, ◌++◌, ltb, eqb, ℤ, pos, negsuc, take, replicate, Float, Option, Some, None}
use Rattle.std.proofs.Common.{arith, ◌∙◌, ltb-false, SFits}
use Rattle.std.specs.Int.Signed.{lt_z}
use Rattle.std.proofs.Math.ListN.{drop}
use Rattle.std.specs.Float.Ieee as Ieee
use Rattle.std.specs.Float.Ieee.{binary64, is_nan}
use Rattle.std.specs.Float.Ieee.Bits.{of_bits-fits}
use Rattle.std.specs.Float.Ieee.Fits.{add-fits, div-fits, mul-fits, of_int-fits}
use Rattle.std.specs.Int.{w64}
use Rattle.bool_laws.specs.Bools.{cases, chosen}
use Rattle.float_order.specs.Binary64.{lit}
use Rattle.float.specs.Float as Float
use Rattle.sqrt.specs.Laws.{sqrt-fits}
use Rattle.seconds.specs.Seconds.{as_secs_f64}
use Rattle.average.specs.Average as Average
use Rattle.average.specs.declared.MovingAverage.{MovingAverage}
use Rattle.bandwidth.specs.Bandwidth as B
use Rattle.bandwidth.specs.declared.Bitrate.{Bitrate}
use Rattle.bandwidth.specs.declared.DataSize.{DataSize}
use Rattle.time.specs.declared.TimeDelta.{TimeDelta}
use Rattle.acked_bitrate_estimator.specs.AckedBitrateEstimator as Acked
use Rattle.acked_bitrate_estimator.specs.declared.AckedBitrateEstimator.{AckedBitrateEstimator}
use Rattle.acked_bitrate_estimator.specs.declared.Window.{Window}
use Rattle.acked_bitrate_estimator.specs.declared.Sample.{Sample}
use Rattle.arrival_group.specs.ArrivalGroup as Group
use Rattle.arrival_group.specs.declared.InterGroupDelayDelta.{InterGroupDelayDelta}
use Rattle.trendline.specs.Trendline as Trendline
use Rattle.trendline.specs.History.{insert-length, insert-full-length}
use Rattle.trendline.specs.declared.History.{History}
use Rattle.trendline.specs.declared.Delays.{Delays}
use Rattle.trendline.specs.declared.TrendlineEstimator.{TrendlineEstimator}
use Rattle.rate_control.specs.RateControl as Rates
use Rattle.rate_control.specs.declared.Signal.{Signal}
use Rattle.rate_control.specs.declared.State.{State}
use Rattle.rate_control.specs.declared.State.TheVariants.{Increase, Hold, Decrease}
use Rattle.rate_control.specs.declared.RateControl.{RateControl}
use Rattle.control.specs.Control as Control
use Rattle.control.specs.Laws.{secs-fits}
use Rattle.control.specs.declared.DelayController.{DelayController}
use Rattle.control.specs.declared.DelayDetector.{DelayDetector}
use Rattle.link_state.specs.Laws.{Sized}
use Rattle.link_state.specs.declared.Link.{Link}
use Rattle.questions.specs.Questions.{Report, first_no, of_opening, ordered}
use Rattle.link.specs.Link as L
use Rattle.link.specs.Link.{Outcome, opened, opening, started_unless}
use Rattle.link_runs.specs.Statement.{Call, call}
use Rattle.link_runs.specs.Statement.Call.{report, timeout}
use Rattle.link_runs.specs.Answered.{Answered, report-answered, timeout-answered}
use Rattle.link_runs.specs.Answered.Answered.{turned_down, taken}
use Rattle.link_words.specs.Laws.{AckedHeld, AllHeld, AverageHeld, Held, LinkHeld, RateControlHeld, RateHeld, TrendlineHeld}
use Rattle.lent_calls.specs.Statement.{CallHeld}

-- ---- floats
lit-held : (bits : ℕ) → Held (lit bits)
lit-held bits = of_bits-fits binary64 bits

min-held : (x y : Float) → Held x → Held y → Held (Float.min x y)
unfolding Float.min
min-held x y h k = chosen Held (is_nan x) k (chosen Held (Ieee.lt y x) k h)

clamp-held : (x low high : Float) → Held x → Held low → Held high → Held (Float.clamp x low high)
unfolding Float.clamp
clamp-held x low high h k l = chosen Held (Ieee.lt high (Float.raised x low)) l (chosen Held (Ieee.lt x low) k h)

-- ---- a moving average
new-average : (factor : Float) → Held factor → AverageHeld (Average.new factor)
new-average factor h = record { factor = h; average = tt; variance = lit-held 0; std = lit-held 0 }

update-average : (m : MovingAverage) (value : Float) → Held value → AverageHeld m → AverageHeld (Average.update m value)
unfolding Average.update
update-average m value v h = go m.average
  where
    go : (a : Option Float) → AverageHeld (Average.update_from a m value)
    go None = record { factor = h.factor; average = v; variance = h.variance; std = h.std }
    go (Some a) = record { factor = h.factor; average = add-fits binary64 _ _; variance = mul-fits binary64 _ _; std = sqrt-fits _ (mul-fits binary64 _ _) }

-- ---- the acknowledged rate
saturated-held : (z : ℤ) → SFits w64 (B.saturated z)
unfolding B.saturated
saturated-held z = cases (SFits w64) (lt_z B.most z) (λ e. record { sfits = omega arith }) (λ e. cases (SFits w64) (lt_z z B.least) (λ d. record { sfits = omega arith }) (λ d. inside z e d))
  where
    inside : (z : ℤ) → lt_z B.most z ≡ false → lt_z z B.least ≡ false → SFits w64 z
    inside (pos n) e d = record { sfits = omega (arith, ltb-false (2 ^ 63 - 1) n e) }
    inside (negsuc n) e d = record { sfits = omega (arith, ltb-false (2 ^ 63 - 1) n d) }

none-held : SFits w64 (Acked.none).0
none-held = record { sfits = omega arith }

new-acked : (initial window : ℕ) → AckedHeld (Acked.new initial window)
new-acked initial window = record { estimate = tt; variance = lit-held _; sum = none-held }

abbrev SampleHeld : Option Sample → Type 0
SampleHeld None = Unit {0}
SampleHeld (Some s) = Held s.rate.0

sample-held : (w : Window) (length : ℕ) → SampleHeld (Acked.sample w length)
unfolding Acked.sample B.per_secs
sample-held w length = chosen SampleHeld (ltb w.elapsed length) tt (chosen Held (Ieee.eq (as_secs_f64 length) (lit 0)) (lit-held 0) (div-fits binary64 _ _))

with-packet : (w : Window) (size : DataSize) (length : ℕ) → SFits w64 (Acked.with_packet w size length).sum.0
unfolding Acked.with_packet
with-packet w size length = chosen (λ (v : Window). SFits w64 v.sum.0) (ltb w.elapsed length) (saturated-held _) (saturated-held _)

with-sample : (a : AckedBitrateEstimator) (s : Option Sample) → SampleHeld s → AckedHeld a → AckedHeld (Acked.with_sample a s)
unfolding Acked.with_sample Acked.weigh
with-sample a None k h = h
with-sample a (Some s) k h = go a.estimate
  where
    go : (e : Option Bitrate) → AckedHeld (Acked.estimate_from e a s.rate s.is_small)
    go None = record { estimate = k; variance = h.variance; sum = h.sum }
    go (Some e) = record { estimate = of_int-fits binary64 _; variance = div-fits binary64 _ _; sum = h.sum }

filled-held : (a : AckedBitrateEstimator) (w : Window) (t : ℕ) (size : DataSize) → AckedHeld a → AckedHeld (Acked.filled a w t size)
unfolding Acked.filled
filled-held a w t size h =
    with-sample _ (Acked.sample w (Acked.window_length a)) (sample-held w (Acked.window_length a))
    (record { estimate = h.estimate; variance = h.variance; sum = with-packet w size (Acked.window_length a) })

update-acked : (a : AckedBitrateEstimator) (t : ℕ) (size : DataSize) → AckedHeld a → AckedHeld (Acked.update a t size)
unfolding Acked.update
update-acked a t size h = go a.last_update
  where
    go : (last : Option ℕ) → AckedHeld (Acked.update_since last a t size)
    go None = filled-held a (Acked.current_window a) t size h
    go (Some last) = chosen AckedHeld (ltb t last) (record { estimate = h.estimate; variance = h.variance; sum = none-held }) (filled-held a _ t size h)

acknowledge-held : (a : AckedBitrateEstimator) (remotes sizes : List ℕ) → AckedHeld a → AckedHeld (L.acknowledge a remotes sizes)
unfolding L.acknowledge
acknowledge-held a [] sizes h = h
acknowledge-held a (t ∷ remotes) [] h = h
acknowledge-held a (t ∷ remotes) (n ∷ sizes) h = acknowledge-held (Acked.update a t (L.data_size n)) remotes sizes (update-acked a t (L.data_size n) h)

-- ---- the trendline: its history
all_take : (n : ℕ) (xs : List Float) → AllHeld xs → AllHeld (take n xs)
all_take zero xs h = tt
all_take (suc n) [] h = tt
all_take (suc n) (x ∷ xs) h = (h.0, all_take n xs h.1)

all_drop : (n : ℕ) (xs : List Float) → AllHeld xs → AllHeld (drop n xs)
all_drop zero xs h = h
all_drop (suc n) [] h = tt
all_drop (suc n) (x ∷ xs) h = all_drop n xs h.1

all_append : (xs ys : List Float) → AllHeld xs → AllHeld ys → AllHeld (xs ++ ys)
all_append [] ys h k = k
all_append (x ∷ xs) ys h k = (h.0, all_append xs ys h.1 k)

all_push : (x : Float) (ys : List Float) → Held x → AllHeld ys → AllHeld (Trendline.push x ys)
unfolding Trendline.push
all_push x [] h k = tt
all_push x (y ∷ ys) h k = (h, all_push y ys k.0 k.1)

module _ (xs : List Float) (p : ℕ) (x : Float) (h : AllHeld xs) (k : Held x) where
  all_insert : AllHeld (Trendline.insert xs p x)
  unfolding Trendline.insert
  all_insert = all_append (take p xs) (Trendline.push x (drop p xs)) (all_take p xs h) (all_push x (drop p xs) k (all_drop p xs h))

  all-insert-full : AllHeld (Trendline.insert_full xs p x)
  unfolding Trendline.insert_full
  all-insert-full = all_drop 1 (take p xs ++ (x ∷ drop p xs)) (all_append (take p xs) (x ∷ drop p xs) (all_take p xs h) (k, all_drop p xs h))

record HistoryHeld (h : History) : Type 0 where
  sized : Sized h
  times : AllHeld h.times
  delays : AllHeld h.delays

add-history : (h : History) (time delay : Float) → Held time → Held delay → HistoryHeld h → HistoryHeld (Trendline.add h time delay)
unfolding Trendline.add
add-history h time delay t d k =
    let p = Trendline.place h.times h.len time in
    chosen HistoryHeld (ltb 20 h.len) k
    (chosen HistoryHeld (ltb h.len 20)
    (record {
      sized = record { times = insert-length h.times p time ∙ k.sized.times; delays = insert-length h.delays p delay ∙ k.sized.delays };
      times = all_insert h.times p time k.times t;
      delays = all_insert h.delays p delay k.delays d;
    })
    (record {
      sized = record { times = insert-full-length h.times p time ∙ k.sized.times; delays = insert-full-length h.delays p delay ∙ k.sized.delays };
      times = all-insert-full h.times p time k.times t;
      delays = all-insert-full h.delays p delay k.delays d;
    }))

-- ---- the sums of delays, and the estimator
record DelaysHeld (d : Delays) : Type 0 where
  accumulated : Held d.accumulated_delay
  smoothed : Held d.smoothed_delay
  threshold : Held d.delay_threshold
  trend : Held d.previous_trend

trendline-of : {t : TrendlineEstimator} → HistoryHeld t.history → DelaysHeld t.delays → TrendlineHeld t
trendline-of h d =
    record {
      sized = h.sized;
      times = h.times;
      delays = h.delays;
      accumulated = d.accumulated;
      smoothed = d.smoothed;
      threshold = d.threshold;
      trend = d.trend;
    }

history-of : {t : TrendlineEstimator} → TrendlineHeld t → HistoryHeld t.history
history-of h = record { sized = h.sized; times = h.times; delays = h.delays }

delays-of : {t : TrendlineEstimator} → TrendlineHeld t → DelaysHeld t.delays
delays-of h = record { accumulated = h.accumulated; smoothed = h.smoothed; threshold = h.threshold; trend = h.trend }

all-zeros : (n : ℕ) → AllHeld (replicate n (lit 0))
all-zeros zero = tt
all-zeros (suc n) = (lit-held 0, all-zeros n)

new-trendline : TrendlineHeld Trendline.new
new-trendline =
    record {
      sized = record { times = refl; delays = refl };
      times = all-zeros 20;
      delays = all-zeros 20;
      accumulated = lit-held 0;
      smoothed = lit-held 0;
      threshold = lit-held _;
      trend = lit-held 0;
    }

add-to-history : (t : TrendlineEstimator) (v : InterGroupDelayDelta) → TrendlineHeld t → TrendlineHeld (Trendline.add_to_history t v)
unfolding Trendline.add_to_history Trendline.accumulate
add-to-history t v h =
    trendline-of (add-history t.history _ _ (mul-fits binary64 _ _) (add-fits binary64 _ _) (history-of h))
    (record { accumulated = add-fits binary64 _ _; smoothed = add-fits binary64 _ _; threshold = h.threshold; trend = h.trend })

threshold-held : (d : Delays) (modified : Float) (elapsed : ℕ) → Held d.delay_threshold → Held (Trendline.threshold d modified elapsed)
unfolding Trendline.threshold
threshold-held d modified elapsed h =
    chosen Held (Ieee.lt (Ieee.add binary64 d.delay_threshold Trendline.max_adopt_offset_ms) (Float.abs modified)) h
    (clamp-held _ _ _ (add-fits binary64 _ _) (lit-held _) (lit-held _))

fit-held : (times delays : List Float) (previous : Float) → Held previous → Held (Trendline.linear_fit times delays previous)
unfolding Trendline.linear_fit
fit-held times delays previous h =
    let s = Trendline.sums times delays (Trendline.average times) (Trendline.average delays) in
    chosen Held (Ieee.eq s.denominator (lit 0)) h (div-fits binary64 s.numerator s.denominator)

detect-held : (t : TrendlineEstimator) (trend : Float) (sent : TimeDelta) (now : ℕ) → Held trend → TrendlineHeld t → TrendlineHeld (Trendline.detect t trend sent now)
unfolding Trendline.detect Trendline.with_trend
detect-held t trend sent now k h =
    chosen TrendlineHeld (ltb t.delays.num_delay_variations 2) (trendline-of (history-of h) (delays-of h))
    (trendline-of (history-of h) (record { accumulated = h.accumulated; smoothed = h.smoothed; threshold = threshold-held t.delays _ _ h.threshold; trend = k }))

observe-held : (d : Option InterGroupDelayDelta) (t : TrendlineEstimator) → TrendlineHeld t → TrendlineHeld (Control.observe d t)
unfolding Trendline.add_delay_observation
observe-held None t h = h
observe-held (Some v) t h =
    let next = Trendline.add_to_history t v in
    let k = add-to-history t v h in
    chosen TrendlineHeld (eqb next.history.len 20)
    (detect-held next _ v.send_delta v.last_remote_recv_time (fit-held next.history.times next.history.delays next.delays.previous_trend k.trend) k) k

packets-held : (d : DelayDetector) (sends remotes : List ℕ) → TrendlineHeld d.trendline_estimator → TrendlineHeld (Control.add_packets d sends remotes).trendline_estimator
unfolding Control.fold
packets-held d [] remotes h = h
packets-held d (s ∷ sends) [] h = h
packets-held d (s ∷ sends) (r ∷ remotes) h =
    packets-held (Control.add_packet d s r) sends remotes (observe-held (Group.accumulate_packet d.arrival_group_accumulator s r).delta d.trendline_estimator h)

-- ---- the rate control
new-rate : (start : Bitrate) → Held start.0 → RateControlHeld (Rates.new start B.min_estimate B.max_estimate)
new-rate start h = record { estimate = h; least = lit-held _; most = lit-held _; observed = tt; averaged = new-average _ (lit-held _) }

update-estimate : (c : RateControl) (b : Bitrate) (now : ℕ) → Held b.0 → RateControlHeld c → RateControlHeld (Rates.update_estimate c b now)
unfolding Rates.update_estimate Rates.with_estimate B.clamp
update-estimate c b now k h =
    record { estimate = clamp-held b.0 _ _ k h.least h.most; least = h.least; most = h.most; observed = h.observed; averaged = h.averaged }

with-average : (c : RateControl) (m : MovingAverage) → AverageHeld m → RateControlHeld c → RateControlHeld (Rates.with_average c m)
unfolding Rates.with_average
with-average c m k h = record { estimate = h.estimate; least = h.least; most = h.most; observed = h.observed; averaged = k }

reset-held : (m : MovingAverage) → AverageHeld m → AverageHeld (Average.reset m)
reset-held m h = new-average m.smoothing_factor h.factor

reset-below : (m : MovingAverage) (value : Float) → AverageHeld m → AverageHeld (Rates.reset_below m value)
unfolding Rates.reset_below
reset-below m value h = go (Average.lower_range m Rates.three)
  where
    go : (lower : Option Float) → AverageHeld (Rates.reset_under lower m value)
    go None = h
    go (Some lower) = chosen AverageHeld (Ieee.lt value lower) (reset-held m h) h

reset-above : (m : MovingAverage) (value : Float) → AverageHeld m → AverageHeld (Rates.reset_above m value)
unfolding Rates.reset_above
reset-above m value h = go (Average.upper_range m Rates.three)
  where
    go : (upper : Option Float) → AverageHeld (Rates.reset_over upper m value)
    go None = h
    go (Some upper) = chosen AverageHeld (Ieee.lt upper value) (reset-held m h) h

raised-held : (c : RateControl) (since : ℕ) → Held (Rates.raised c since)
unfolding Rates.raised Rates.additive_increase Rates.multiplicative_increase
raised-held c since = chosen Held (Rates.is_near_convergence c) (add-fits binary64 _ _) (add-fits binary64 _ _)

module _ (observed : Bitrate) (now : ℕ) (k : Held observed.0) where
  increase-held : (c : RateControl) → RateControlHeld c → RateControlHeld (Rates.increase c observed now)
  unfolding Rates.increase Rates.with_estimate
  increase-held c h =
      let next = Rates.with_average c (Rates.reset_above c.averaged_observed_bitrate observed.0) in
      chosen RateControlHeld (Ieee.le (Rates.increase_limit observed.0) c.estimated_bitrate.0)
      (record { estimate = h.estimate; least = h.least; most = h.most; observed = h.observed; averaged = h.averaged })
      (update-estimate next _ now (min-held _ _ (min-held _ _ (mul-fits binary64 _ _) (raised-held next _)) (add-fits binary64 _ _))
      (with-average c _ (reset-above c.averaged_observed_bitrate observed.0 h.averaged) h))

  decrease-held : (c : RateControl) → RateControlHeld c → RateControlHeld (Rates.decrease c observed now)
  unfolding Rates.decrease Rates.with_state
  decrease-held c h =
      update-estimate (Rates.with_state c Hold) _ now
      (chosen (λ (b : Bitrate). Held b.0) (B.lt c.estimated_bitrate (B.mul observed Rates.beta)) h.estimate (mul-fits binary64 _ _))
      (record { estimate = h.estimate; least = h.least; most = h.most; observed = h.observed; averaged = h.averaged })

  counted-held : (c : RateControl) → RateControlHeld c → RateControlHeld (Rates.update_observed_bitrate c observed)
  unfolding Rates.update_observed_bitrate
  counted-held c h =
      with-average c _ (update-average _ observed.0 k (reset-below c.averaged_observed_bitrate observed.0 h.averaged)) h

  update-in : (s : State) (c : RateControl) → RateControlHeld c → RateControlHeld (Rates.update_in s c observed now)
  update-in Increase c h = increase-held c h
  update-in Decrease c h =
      let counted = Rates.update_observed_bitrate c observed in
      chosen RateControlHeld (Rates.time_to_reduce_further counted now observed) (decrease-held counted (counted-held c h)) (counted-held c h)
  update-in Hold c h = h

  update-rate : (c : RateControl) (s : Signal) (rtt : Option ℕ) → RateControlHeld c → RateControlHeld (Rates.update c s observed rtt now)
  unfolding Rates.update Rates.with_inputs
  update-rate c s rtt h =
      update-in (Rates.transition c.state s) (Rates.with_inputs c s observed rtt)
      (record { estimate = h.estimate; least = h.least; most = h.most; observed = k; averaged = h.averaged })

rate-held : (probe observed : Option Bitrate) (c : DelayController) (now : ℕ) → RateHeld probe → RateHeld observed → RateControlHeld c.rate_control
    → RateControlHeld (Control.rate_after probe observed c now)
unfolding Rates.set_probe_result
rate-held (Some p) observed c now k o h = update-estimate c.rate_control p now k h
rate-held None None c now k o h = h
rate-held None (Some b) c now k o h = update-rate b now o c.rate_control (Rates.signal c.trendline_estimator.hypothesis) (Control.get_smoothed_rtt c) h

-- ---- the round trip
rtt-held : (m : MovingAverage) (rtt : Option ℕ) → AverageHeld m → AverageHeld (Control.update_rtt m rtt)
unfolding Control.update_rtt
rtt-held m None h = h
rtt-held m (Some rtt) h = update-average m (as_secs_f64 rtt) (secs-fits rtt) h

-- ---- a call
pub updated-held : (l : Link) (r : Report) → RateHeld r.probe → LinkHeld l → LinkHeld (L.updated l r)
unfolding L.updated Control.update Control.update_estimate Control.with_rate Control.with_packets
updated-held l r k h =
    let acked = acknowledge-held l.acked r.remotes r.sizes h.acked in
    let measured = Control.with_packets l.control r.sends r.remotes r.receives r.now in
    record {
      acked = acked;
      trendline = packets-held (Control.detector l.control) r.sends r.remotes h.trendline;
      rate-control = rate-held r.probe _ measured r.now k acked.estimate h.rate-control;
      smoothed-rtt = rtt-held l.control.smoothed_rtt (Control.max_rtt r.sends r.receives) h.smoothed-rtt;
    }

pub timed-out-held : (l : Link) (now : ℕ) → LinkHeld l → LinkHeld (L.timed_out l now)
unfolding L.timed_out Control.handle_timeout Control.update_estimate Control.with_rate
timed-out-held l now h =
    chosen (λ (c : DelayController). LinkHeld (record { acked = l.acked; control = c })) (Control.trendline_hypothesis_valid l.control now)
    (record {
      acked = h.acked;
      trendline = h.trendline;
      rate-control = rate-held None l.acked.estimate l.control now tt h.acked.estimate h.rate-control;
      smoothed-rtt = h.smoothed-rtt;
    })
    (record { acked = h.acked; trendline = h.trendline; rate-control = h.rate-control; smoothed-rtt = h.smoothed-rtt })

pub call-held : (l : Link) (k : Call) → CallHeld k → LinkHeld l → LinkHeld (call l k).link
unfolding L.accepted_with
call-held l (report r) p h = go (report-answered l r)
  where
    go : {o : Outcome} → Answered (L.report_questions l r) l (L.updated l (ordered r)) o → LinkHeld o.link
    go turned_down = h
    go (taken y) = updated-held l (ordered r) p h
call-held l (timeout now) p h = go (timeout-answered l now)
  where
    go : {o : Outcome} → Answered (L.timeout_questions l now) l (L.timed_out l now) o → LinkHeld o.link
    go turned_down = h
    go (taken y) = timed-out-held l now h

-- ---- an opening
pub opened-held : (start : Bitrate) (initial window : ℕ) (l : Link) → Held start.0 → opening start initial window ≡ opened l → LinkHeld l
unfolding opening Control.new
opened-held start initial window l h e = go (first_no (of_opening start initial window)) e
  where
    new-held : LinkHeld (L.new start initial window)
    new-held = record { acked = new-acked initial window; trendline = new-trendline; rate-control = new-rate start h; smoothed-rtt = new-average _ (lit-held _) }

    go : (n : ℕ) → started_unless n (L.new start initial window) ≡ opened l → LinkHeld l
    go zero e = let s : L.new start initial window ≡ l = cc in rw s at new-held
    go (suc n) e = absurd (let s : ◌≡◌ {A = ℕ} 0 1 = cc in omega arith)
