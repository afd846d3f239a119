-- What was stored part by part is the words of the whole.
use mathlib.Core.Path.{◌≡◌, refl, sym, ap, ◌∙◌}
use mathlib.Core.List.{List, [], ◌∷◌, ◌++◌, map, append-nil}
use Prim.Native.Nat.{ℕ, suc, ◌+◌}
use native.Mathlib.Nat.{add-zero}
use native.Mathlib.Omega.{arith}
use lib.ListN.{length, set, drop_of_length-le, length-append, length-map}
use lib.Seq.{sets, sets-eq}
use lib.Ieee.{Float, binary64, to_bits}
use Rattle.trendline.specs.declared.History.{History}
use Rattle.trendline.specs.declared.TrendlineEstimator.{TrendlineEstimator}
use Rattle.control.specs.declared.DelayController.{DelayController}
use Rattle.link_state.specs.Laws.{Sized}
use Rattle.link_state.specs.declared.Link.{Link}
use Rattle.link_words.specs.LinkWords.{
  acked_words,
  groups_words,
  history_words,
  delays_words,
  overuse_words,
  trendline_words,
  rate_control_words,
  round_trip_words,
  control_words,
  option_words,
  to_words,
}

-- a run right after another
join : (xs ys w : List ℕ) (at next : ℕ) → at + length xs ≡ next → sets (sets w at xs) next ys ≡ sets w at (xs ++ ys)
join [] ys w at next e = ap (λ (i : ℕ). sets w i ys) (sym e ∙ add-zero at)
join (x ∷ xs) ys w at next e = join xs ys (set w at x) (suc at) next (omega (arith, e))

-- and a third
join-three : (xs ys zs w : List ℕ) (at next last : ℕ) → at + length xs ≡ next → next + length ys ≡ last
    → sets (sets (sets w at xs) next ys) last zs ≡ sets w at (xs ++ ys ++ zs)
join-three xs ys zs w at next last e f =
    ap (λ (v : List ℕ). sets v last zs) (join xs ys w at next e) ∙ join (xs ++ ys) zs w at last (omega (arith, length-append xs ys, e, f))

length_three : (xs ys zs : List ℕ) → length (xs ++ ys ++ zs) ≡ length xs + length ys + length zs
length_three xs ys zs = omega (arith, length-append (xs ++ ys) zs, length-append xs ys)

-- a run over the whole
whole : (xs w : List ℕ) → length xs ≡ length w → sets w 0 xs ≡ xs
whole xs w e = sets-eq xs w 0 (omega (arith, e)) ∙ ap (λ (r : List ℕ). xs ++ r) (drop_of_length-le w {i = 0 + length xs} (omega (arith, e))) ∙ append-nil xs

-- ---- parts whose arrays hold 20
module _ (h : History) (sized : Sized h) where
  abbrev bits : List Float → List ℕ
  bits fs = map (to_bits binary64) fs

  times-length : length (bits h.times) ≡ 20
  times-length = length-map h.times (to_bits binary64) ∙ sized.times

  delays-length : length (bits h.delays) ≡ 20
  delays-length = length-map h.delays (to_bits binary64) ∙ sized.delays

  length-history : length (history_words h) ≡ 41
  unfolding history_words
  length-history = omega (arith, length_three (bits h.times) (bits h.delays) (h.len ∷ []), times-length, delays-length)

  pub history-stored : (w : List ℕ) → set (sets (sets w 24 (bits h.times)) 44 (bits h.delays)) 64 h.len ≡ sets w 24 (history_words h)
  unfolding history_words
  history-stored w = join-three (bits h.times) (bits h.delays) (h.len ∷ []) w 24 44 64 (omega (arith, times-length)) (omega (arith, delays-length))

module _ (t : TrendlineEstimator) (sized : Sized t.history) where
  abbrev front : List ℕ
  front = option_words t.zero_time ++ history_words t.history

  abbrev after : List ℕ
  after = overuse_words t.overuse t.last_threshold_update t.hypothesis

  length-trendline : length (trendline_words t) ≡ 55
  unfolding trendline_words delays_words overuse_words
  length-trendline = omega (arith, length_three front (delays_words t.delays) after, length-history t.history sized)

  pub trendline-stored : (w : List ℕ) → sets (sets (sets w 22 front) 65 (delays_words t.delays)) 70 after ≡ sets w 22 (trendline_words t)
  unfolding trendline_words delays_words
  trendline-stored w = join-three front (delays_words t.delays) after w 22 65 70 (omega (arith, length-history t.history sized)) refl

module _ (c : DelayController) (sized : Sized c.trendline_estimator.history) where
  abbrev groups : List ℕ
  groups = groups_words c.arrival_group_accumulator

  abbrev trend : List ℕ
  trend = trendline_words c.trendline_estimator

  abbrev rate : List ℕ
  rate = rate_control_words c.rate_control

  abbrev end : List ℕ
  end = round_trip_words c.smoothed_rtt c.next_timeout c.last_twcc_report

  trend-length : length trend ≡ 55
  trend-length = length-trendline c.trendline_estimator sized

  three : length (groups ++ trend ++ rate) ≡ 82
  unfolding groups_words rate_control_words
  three = omega (arith, length_three groups trend rate, trend-length)

  length-control : length (control_words c) ≡ 90
  unfolding control_words round_trip_words
  length-control = omega (arith, length-append (groups ++ trend ++ rate) end, three)

  pub control-stored : (w : List ℕ) → sets (sets (sets (sets w 10 groups) 22 trend) 77 rate) 92 end ≡ sets w 10 (control_words c)
  unfolding control_words groups_words
  control-stored w =
      ap (λ (v : List ℕ). sets v 92 end) (join-three groups trend rate w 10 22 77 refl (omega (arith, trend-length)))
      ∙ join (groups ++ trend ++ rate) end w 10 92 (omega (arith, three))

module _ (l : Link) (sized : Sized l.control.trendline_estimator.history) where
  pub words-stored : (w : List ℕ) → length w ≡ 100 → sets (sets (set w 0 1) 1 (acked_words l.acked)) 10 (control_words l.control) ≡ to_words l
  unfolding to_words acked_words
  words-stored w e =
      join (acked_words l.acked) (control_words l.control) (set w 0 1) 1 10 refl
      ∙ whole (to_words l) w (omega (arith, length-control l.control sized, e))

pub ruleset parts = (history-stored, trendline-stored, control-stored)
