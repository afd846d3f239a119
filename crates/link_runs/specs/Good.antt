-- What holds of every link that a run reaches. An accepted opening gives it, and every call keeps it.
use Rattle.std.specs.Prelude.{ℕ, zero, suc, ◌+◌, ◌^◌, ◌≤◌, ◌%◌, ◌≡◌, true, ◌&&◌, List, [], ◌∷◌, T, leb, eqb, Float, Option, Some, None}
use Rattle.std.proofs.Common.{arith, leb-true, eqb-true}
use Rattle.std.proofs.Math.Path.{refl}
use Rattle.std.specs.Float.Ieee.{le}
use Rattle.std.specs.Float.Ieee.Scale.{finite}
use Rattle.float_order.specs.Binary64.{lit}
use Rattle.float_order.specs.Order.{finite-ordered}
use Rattle.float_order.specs.Range.{In, in-finite, in-wider}
use Rattle.float_order.specs.Interval.{floats}
use Rattle.seconds.specs.Seconds.{from_secs_f64}
use Rattle.seconds.specs.Laws.{ns-mono}
use Rattle.average.specs.Laws.{AverageIn}
use Rattle.average.specs.Laws as Average
use Rattle.bandwidth.specs.Bandwidth.{min_estimate, max_estimate, most_rate}
use Rattle.bandwidth.specs.declared.Bitrate.{Bitrate}
use Rattle.time.specs.Time.{saturating_add}
use Rattle.acked_bitrate_estimator.specs.Laws.{ValidEstimate, ValidRate, ValidWindow}
use Rattle.acked_bitrate_estimator.specs.declared.AckedBitrateEstimator.{AckedBitrateEstimator}
use Rattle.bool_laws.specs.Bools.{cases, both, holds}
use Rattle.rate_control.specs.RateControl as RateControl
use Rattle.rate_control.specs.Laws as Rates
use Rattle.rate_control.specs.Laws.{InstantAtMost, DurationAtMost}
use Rattle.rate_control.proofs.Laws.{update-sound}
use Rattle.rate_control.specs.declared.RateControl as R
use Rattle.control.specs.Control as Control
use Rattle.control.specs.Control.{detector, get_smoothed_rtt, handle_timeout, rate_after, rtt_of, rtt_smoothing_factor, trendline_hypothesis_valid, update_estimate, update_interval, with_packets, with_rate}
use Rattle.control.specs.Laws.{KeptRtt, most_round_trip, timeout-none, timeout-report, timeout-timeout, update-kept}
use Rattle.control.specs.declared.DelayController.{DelayController}
use Rattle.receive_order.specs.Lists.{All}
use Rattle.questions.specs.Questions.{Report, all_at_most, first_no, instants_in, moment_in, most_instant, of_opening, of_report, of_timeout, ordered, probe_in, window_in}
use Rattle.questions.specs.Laws.{lengths}
use Rattle.link_state.specs.declared.Link.{Link}
use Rattle.link.specs.Link.{Outcome, accepted_with, acknowledge, new, opened, opening, report_questions, started_unless, sums_in, timed_out, timeout_questions, updated}
use Rattle.link_runs.specs.Statement.{Call, call, run}
use Rattle.link_runs.specs.Statement.Call.{report, timeout}
use Rattle.link_runs.specs.Acknowledged as Acknowledged
use Rattle.link_runs.specs.Acknowledged.{GoodAcked, acknowledge-good}
use Rattle.link_runs.specs.Packets as Packets
use Rattle.link_runs.specs.Packets.{GoodPackets, packets-good}
use Rattle.link_runs.specs.Answered.{AllYes, Answered, all_yes, at_least, at-most, All-in_order, instants, report-answered, timeout-answered}
use Rattle.link_runs.specs.Answered.Answered.{turned_down, taken}

-- the limits are the estimate's, and its statistics are in their ranges
pub record GoodRate (c : R.RateControl) : Type 0 where
  pub sound : Rates.Sound c
  pub kept : Rates.Kept most_instant most_instant c

pub record Good (l : Link) : Type 0 where
  pub acked : GoodAcked l.acked
  pub packets : GoodPackets (detector l.control)
  pub rate : GoodRate l.control.rate_control
  pub round_trip : KeptRtt l.control.smoothed_rtt
  pub timeout : l.control.next_timeout ≤ most_instant + update_interval
  pub report : InstantAtMost most_instant l.control.last_twcc_report

-- ---- the rate control
rtt-most : (a : Option Float) → AverageIn most_round_trip a → DurationAtMost most_instant (rtt_of a)
rtt-most None h = tt
rtt-most (Some a) h =
    let e : from_secs_f64 most_round_trip ≡ 10 ^ 18 = unfold from_secs_f64 floats in refl in
    omega (arith, ns-mono a most_round_trip h.0.high)

abbrev pub FiniteIfAny : Option Bitrate → Type 0
FiniteIfAny None = Unit {0}
FiniteIfAny (Some p) = T (finite p.0)

probe-finite : (p : Option Bitrate) → probe_in p ≡ true → FiniteIfAny p
unfolding probe_in
probe-finite None e = tt
probe-finite (Some p) e =
    let b = both (le (lit 0) p.0) (le p.0 most_rate.0) e in
    let i : In (lit 0) most_rate.0 p.0 = record { low = holds b.0; high = holds b.1 } in
    in-finite i (unfold floats in tt)

pub rate-finite : {x : Float} → ValidRate x → T (finite x)
rate-finite v = in-finite v.range (unfold floats in tt)

rate-good : (probe observed : Option Bitrate) (c : DelayController) (now : ℕ) → FiniteIfAny probe → ValidEstimate observed → now ≤ most_instant → KeptRtt c.smoothed_rtt
    → GoodRate c.rate_control → GoodRate (rate_after probe observed c now)
rate-good (Some p) observed c now f v n k g =
    record {
      sound = Rates.set_probe_result-sound c.rate_control p now (finite-ordered p.0 f) g.sound;
      kept = Rates.set_probe_result-kept c.rate_control most_instant most_instant g.kept p now n;
    }
rate-good None None c now f v n k g = g
rate-good None (Some b) c now f v n k g =
    let s = RateControl.signal c.trendline_estimator.hypothesis in
    record {
      sound = update-sound c.rate_control s b (get_smoothed_rtt c) now (rate-finite v) g.sound;
      kept =
          Rates.update-kept most_instant most_instant b now (in-wider v.range (unfold floats in tt)) v.held n c.rate_control s (get_smoothed_rtt c)
          (unfold get_smoothed_rtt in rtt-most c.smoothed_rtt.average k.average-in) g.kept;
    }

-- ---- a report
-- packets in the order of receipt, of which each instant and each size is in its limits
pub record GoodReport (a : AckedBitrateEstimator) (r : Report) : Type 0 where
  pub sizes-in : All (λ n. 1 ≤ n) r.sizes
  pub sends-in : All (λ t. t ≤ most_instant) r.sends
  pub remotes-in : All (λ t. t ≤ most_instant) r.remotes
  pub receives-in : All (λ t. t ≤ most_instant) r.receives
  pub sums-in : sums_in a r.remotes r.sizes ≡ true
  pub probe-in : FiniteIfAny r.probe
  pub now-in : r.now ≤ most_instant

updated-good : (l : Link) (r : Report) → GoodReport l.acked r → Good l → Good (updated l r)
unfolding updated Control.update update_estimate with_rate with_packets saturating_add
updated-good l r h g =
    let acked = acknowledge-good l.acked r.remotes r.sizes h.remotes-in h.sizes-in h.sums-in g.acked in
    let observed = (acknowledge l.acked r.remotes r.sizes).estimate in
    let trips = update-kept l.control r.sends r.remotes r.receives observed r.probe r.now (instants most_instant r.sends r.receives h.sends-in h.receives-in) g.round_trip in
    let measured = with_packets l.control r.sends r.remotes r.receives r.now in
    record {
      acked = acked;
      packets = packets-good (detector l.control) r.sends r.remotes (instants most_instant r.sends r.remotes h.sends-in h.remotes-in) g.packets;
      rate = rate-good r.probe observed measured r.now h.probe-in acked.reached.estimate h.now-in trips g.rate;
      round_trip = trips;
      timeout = omega (arith, h.now-in);
      report = h.now-in;
    }

pub good-report : (l : Link) (r : Report) → AllYes (report_questions l r) → GoodReport l.acked (ordered r)
unfolding report_questions of_report instants_in moment_in
good-report l r y =
    let n = lengths r.sequences r.sizes r.sends r.remotes r.receives y.1.0 in
    let i = both (all_at_most most_instant r.sends && all_at_most most_instant r.remotes) (all_at_most most_instant r.receives) y.1.1.0 in
    let j = both (all_at_most most_instant r.sends) (all_at_most most_instant r.remotes) i.0 in
    let m = both (leb r.now most_instant) (eqb (r.now % 1000000) 0) y.1.1.1.1.0 in
    record {
      sizes-in = All-in_order r (λ x. 1 ≤ x) r.sizes n.sizes-length (at_least 1 r.sizes y.1.1.1.0);
      sends-in = All-in_order r (λ x. x ≤ most_instant) r.sends n.sends-length (at-most most_instant r.sends j.0);
      remotes-in = All-in_order r (λ x. x ≤ most_instant) r.remotes n.remotes-length (at-most most_instant r.remotes j.1);
      receives-in = All-in_order r (λ x. x ≤ most_instant) r.receives n.receives-length (at-most most_instant r.receives i.1);
      sums-in = y.1.1.1.1.1.1.0;
      probe-in = probe-finite r.probe y.1.1.1.1.1.0;
      now-in = leb-true r.now most_instant m.0;
    }

-- ---- a timeout
timeout-rate-good : (c : DelayController) (observed : Option Bitrate) (now : ℕ) → ValidEstimate observed → now ≤ most_instant → KeptRtt c.smoothed_rtt → GoodRate c.rate_control
    → GoodRate (handle_timeout c observed now).rate_control
unfolding handle_timeout update_estimate with_rate
timeout-rate-good c observed now v n k g =
    cases (λ (d : DelayController). GoodRate d.rate_control) (trendline_hypothesis_valid c now) (λ e. rate-good None observed c now tt v n k g) (λ e. g)

timed-out-good : (l : Link) (now : ℕ) → now ≤ most_instant → Good l → Good (timed_out l now)
unfolding timed_out saturating_add
timed-out-good l now n g =
    let c = l.control in
    let o = l.acked.estimate in
    let u = timeout-none c o now in
    record {
      acked = g.acked;
      packets = rw (u.groups, u.trendline) g.packets;
      rate = timeout-rate-good c o now g.acked.reached.estimate n g.round_trip g.rate;
      round_trip = rw u.smoothed g.round_trip;
      timeout = omega (arith, timeout-timeout c o now);
      report = rw (timeout-report c o now) g.report;
    }

-- ---- a call
pub call-good : (l : Link) (k : Call) → Good l → Good (call l k).link
unfolding timeout_questions of_timeout moment_in accepted_with
call-good l (report r) g = go (report-answered l r)
  where
    go : {o : Outcome} → Answered (report_questions l r) l (updated l (ordered r)) o → Good o.link
    go turned_down = g
    go (taken y) = updated-good l (ordered r) (good-report l r y) g
call-good l (timeout now) g = go (timeout-answered l now)
  where
    go : {o : Outcome} → Answered (timeout_questions l now) l (timed_out l now) o → Good o.link
    go turned_down = g
    go (taken y) = timed-out-good l now (leb-true now most_instant (both (leb now most_instant) (eqb (now % 1000000) 0) y.1.0).0) g

pub run-good : (l : Link) (ks : List Call) → Good l → Good (run l ks)
run-good l [] g = g
run-good l (k ∷ ks) g = run-good (call l k).link ks (call-good l k g)

-- ---- an opening
window-valid : (w : ℕ) → window_in w ≡ true → ValidWindow w
unfolding window_in
window-valid w e =
    let a = both (eqb (w % 1000000) 0 && leb 1000000 w) (leb w 10000000000) e in
    let b = both (eqb (w % 1000000) 0) (leb 1000000 w) a.0 in
    record { whole = eqb-true (w % 1000000) 0 b.0; least = leb-true 1000000 w b.1; most = leb-true w 10000000000 a.1 }

new-good : (start : Bitrate) (initial window : ℕ) → AllYes (of_opening start initial window) → Good (new start initial window)
unfolding of_opening Control.new
new-good start initial window y =
    let s = both (le min_estimate.0 start.0) (le start.0 max_estimate.0) y.0 in
    let i : In min_estimate.0 max_estimate.0 start.0 = record { low = holds s.0; high = holds s.1 } in
    let w = both (window_in initial) (window_in window) y.1.0 in
    record {
      acked = Acknowledged.new-good initial window (window-valid initial w.0) (window-valid window w.1);
      packets = Packets.new-good;
      rate = record { sound = Rates.new-sound start (in-wider i (unfold floats in tt)); kept = Rates.new-kept start min_estimate max_estimate most_instant most_instant };
      round_trip = Average.new-kept rtt_smoothing_factor most_round_trip;
      timeout = omega arith;
      report = tt;
    }

pub opening-good : (start : Bitrate) (initial window : ℕ) (l : Link) → opening start initial window ≡ opened l → Good l
unfolding opening of_opening
opening-good start initial window l e = go (first_no (of_opening start initial window)) refl e
  where
    go : (n : ℕ) → first_no (of_opening start initial window) ≡ n → started_unless n (new start initial window) ≡ opened l → Good l
    go zero z e = let s : new start initial window ≡ l = cc in rw s at (new-good start initial window (all_yes (of_opening start initial window) (omega arith) z))
    go (suc n) z e = absurd (let s : ◌≡◌ {A = ℕ} 0 1 = cc in omega arith)
