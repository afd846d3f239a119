-- Laws of the rate control that rest on its increase: the range that an update keeps, and how far one increase goes at least.
use Rattle.std.specs.Option.{unwrap_or}
use Rattle.std.specs.Prelude.{true, false, ℕ, ◌^◌, Float, Option}
use Rattle.std.proofs.Math.Logic.{inl, inr}
use Rattle.std.proofs.Common.{arith}
use Rattle.std.proofs.Math.Dec.{T}
use Rattle.std.specs.Float.{nan, inf, fin}
use Rattle.std.specs.Float.Ieee.{binary64, le, fits}
use Rattle.std.specs.Float.Ieee.Fits.{mul-fits}
use Rattle.std.specs.Float.Ieee.Scale.{finite}
use Rattle.float_order.specs.Binary64.{add, mul, thousand}
use Rattle.float_order.specs.Order.{ordered, le_refl, le_trans, le_total, le-ordered-l}
use Rattle.float_order.specs.Ops.{mul-ordered}
use Rattle.float_order.specs.Exact.{le-add}
use Rattle.float_order.specs.Range.{nat, in-ordered, in-wider}
use Rattle.float_order.specs.Interval.{floats}
use Rattle.float_order.specs.Plus.{plus, climb}
use Rattle.bool_laws.specs.Bools.{chosen, cases, holds}
use Rattle.float.specs.Float.{min, max, clamp}
use Rattle.float.specs.MinMax.{min-either, min-le-l, max-floor, le-clamp}
use Rattle.bandwidth.specs.Bandwidth as B
use Rattle.bandwidth.specs.Bandwidth.{min_estimate, max_estimate}
use Rattle.bandwidth.specs.declared.Bitrate.{Bitrate}
use Rattle.time.specs.Time.{}
use Rattle.rate_control.specs.declared.Signal.{Signal}
use Rattle.rate_control.specs.declared.State.{State}
use Rattle.rate_control.specs.declared.State.TheVariants.{Increase, Hold, Decrease}
use Rattle.rate_control.specs.declared.RateControl.{RateControl}
use Rattle.rate_control.specs.RateControl.{additive_increase, additive_step, beta, decrease, increase, increase_limit, increase_limit_margin, is_near_convergence, max_estimate_ratio, multiplicative_increase, raised, reset_above, time_to_reduce_further, transition, update, update_estimate, update_in, update_observed_bitrate, with_average, with_estimate, with_inputs, with_state}
use Rattle.rate_control.specs.Laws.{AtLeastSmallest, InRange, Sound, estimate, update_estimate-sound}

-- ---- the range
min-ordered : (x y : Float) → T (ordered x) → T (ordered (min x y))
min-ordered x y p = le-ordered-l (min x y) x (min-le-l x y p)

-- 1.5 times the observed rate
abbrev ratio : Bitrate → Float
ratio observed = mul observed.0 max_estimate_ratio

ratio-ordered : (observed : Bitrate) → T (finite observed.0) → T (ordered (ratio observed))
ratio-ordered observed f = mul-ordered binary64 observed.0 max_estimate_ratio f (unfold floats in tt)

module _ (c : RateControl) (observed : Bitrate) (now : ℕ) (f : T (finite observed.0)) (h : Sound c) where
  increase-sound : Sound (increase c observed now)
  unfolding increase with_estimate with_average
  increase-sound =
      chosen Sound (le (increase_limit observed.0) (estimate c)) h
      (update_estimate-sound (with_average c (reset_above c.averaged_observed_bitrate observed.0)) _ now
      (min-ordered _ _ (min-ordered (ratio observed) _ (ratio-ordered observed f))) h)

  decrease-sound : Sound (decrease c observed now)
  unfolding decrease with_state
  decrease-sound =
      update_estimate-sound (with_state c Hold) _ now
      (chosen (λ (b : Bitrate). T (ordered b.0)) (B.lt c.estimated_bitrate (B.mul observed beta)) (in-ordered h.in-range)
      (mul-ordered binary64 observed.0 beta f (unfold floats in tt))) h

-- whatever the signal, the round trip and the moment
pub update-sound : (c : RateControl) (s : Signal) (observed : Bitrate) (rtt : Option ℕ) (now : ℕ) → T (finite observed.0) → Sound c
    → Sound (update c s observed rtt now)
unfolding update with_inputs update_observed_bitrate with_average
update-sound c s observed rtt now f h = go (transition c.state s)
  where
    next : RateControl
    next = with_inputs c s observed rtt

    go : (state : State) → Sound (update_in state next observed now)
    go Increase = increase-sound next observed now f h
    go Decrease = chosen Sound (time_to_reduce_further (update_observed_bitrate next observed) now observed) (decrease-sound (update_observed_bitrate next observed) observed now f h) h
    go Hold = h

-- ---- one increase
least_step : (w : Float) → T (le (nat 1000) (max w thousand))
least_step w = le_trans (nat 1000) thousand (max w thousand) (unfold floats in tt) (max-floor w thousand (unfold floats in tt))

-- near convergence it adds at least 1,000, whatever the estimate, the round trip and the time since the last update
pub additive_step-least : (b : Bitrate) (rtt since : ℕ) → T (le (nat 1000) (additive_step b rtt since))
additive_step-least b rtt since = least_step _

-- of at least 1,000 that are added rounding takes 1 at most
sum-high : (x step : Float) → InRange x → T (le (nat 1000) step) → T (le (plus x 999) (add x step))
sum-high x step h l = climb x (10 ^ 10) 999 (omega arith) (in-wider h (unfold floats in tt)) step l

raised-high : (c : RateControl) (since : ℕ) → InRange (estimate c) → T (le (plus (estimate c) 999) (raised c since))
unfolding raised additive_increase multiplicative_increase
raised-high c since h =
    chosen (λ (x : Float). T (le (plus (estimate c) 999) x)) (is_near_convergence c)
    (sum-high (estimate c) _ h (additive_step-least c.estimated_bitrate (unwrap_or c.last_rtt 0) since)) (sum-high (estimate c) _ h (least_step _))

-- the limit is at least 1.5 times the observed rate; both may be infinite
le-limit : (x : Float) → T (fits binary64 x) → T (ordered x) → T (le x (add x increase_limit_margin))
le-limit nan t p = absurd p
le-limit (inf true) t p = unfold floats in tt
le-limit (inf false) t p = unfold floats in tt
le-limit (fin s m e) t p = le-add binary64 (fin s m e) increase_limit_margin t tt (unfold floats in tt) (unfold floats in tt)

module _ (c : RateControl) (observed : Bitrate) (now : ℕ) (f : T (finite observed.0)) (h : Sound c) where
  abbrev Reached : Float → Type 0
  Reached x = AtLeastSmallest (plus (estimate c) 999) (ratio observed) (nat (10 ^ 10)) x

  limit-high : T (le (ratio observed) (increase_limit observed.0))
  limit-high = le-limit (ratio observed) (mul-fits binary64 observed.0 max_estimate_ratio) (ratio-ordered observed f)

  reached-le : (x y : Float) → T (le x y) → Reached x → Reached y
  reached-le x y g (inl r) = inl (le_trans (plus (estimate c) 999) x y r g)
  reached-le x y g (inr (inl r)) = inr (inl (le_trans (ratio observed) x y r g))
  reached-le x y g (inr (inr r)) = inr (inr (le_trans (nat (10 ^ 10)) x y r g))

  reached-min : (r : Float) → T (le (plus (estimate c) 999) r) → Reached (min (min (ratio observed) r) (increase_limit observed.0))
  reached-min r g =
      min-either Reached (min (ratio observed) r) (increase_limit observed.0)
      (min-either Reached (ratio observed) r (inr (inl (le_refl (ratio observed) (ratio-ordered observed f)))) (inl g)) (inr (inl limit-high))

  reached-clamp : (x : Float) → T (ordered x) → Reached x → Reached (clamp x min_estimate.0 max_estimate.0)
  reached-clamp x p r =
      let y = clamp x min_estimate.0 max_estimate.0 in
      elim (le_total x max_estimate.0 p (unfold floats in tt)) [
        | inl g ↦ reached-le x y (le-clamp x x min_estimate.0 max_estimate.0 (le_refl x p) g) r
        | inr g ↦ inr (inr (le_trans (nat (10 ^ 10)) max_estimate.0 y (unfold floats in tt) (le-clamp max_estimate.0 x min_estimate.0 max_estimate.0 g (unfold floats in tt))))
      ]

  -- the new estimate is at least the smallest of the old one + 999, 1.5 times the observed rate, and 10 ^ 10, compared as exact numbers
  pub increase-high : AtLeastSmallest (plus (estimate c) 999) (mul observed.0 max_estimate_ratio) (nat (10 ^ 10)) (estimate (increase c observed now))
  unfolding increase update_estimate with_estimate with_average B.clamp
  increase-high =
      cases (λ (x : RateControl). Reached (estimate x)) (le (increase_limit observed.0) (estimate c))
      (λ e. inr (inl (le_trans (ratio observed) (increase_limit observed.0) (estimate c) limit-high (holds e))))
      (λ e. rw (h.low-is, h.high_is) (reached-clamp _ (min-ordered _ _ (min-ordered (ratio observed) _ (ratio-ordered observed f))) (reached-min _ (raised-high _ _ h.in-range))))
