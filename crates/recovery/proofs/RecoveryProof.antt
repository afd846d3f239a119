-- The proof of Recovery: each update from a state that is not Decrease raises what is reached by 999, and the first one leaves Decrease.
use Rattle.std.specs.Prelude.{◌≡◌, List, [], ◌∷◌, ℕ, suc, ◌+◌, ◌-◌, ◌*◌, ◌^◌, ◌≤◌, T, Float}
use Rattle.std.proofs.Math.Path.{refl}
use Rattle.std.proofs.Math.Logic.{inl, inr}
use Rattle.std.proofs.Common.{arith}
use Rattle.std.specs.Float.{binary64}
use Rattle.std.specs.Float.Ieee.{le}
use Rattle.std.specs.Float.Ieee.Scale.{finite}
use Rattle.float_order.specs.Binary64.{mul}
use Rattle.float_order.specs.Order.{le_trans, finite-ordered}
use Rattle.float_order.specs.Ops.{mul-mono-l}
use Rattle.float_order.specs.Range.{nat, in-finite}
use Rattle.float_order.specs.Interval.{floats}
use Rattle.float_order.specs.Plus.{plus, plus_none, plus-more, plus-mono, plus-trans}
use Rattle.rate_control.specs.RateControl as Rate
use Rattle.rate_control.specs.Laws.{NotDecrease, Sound, estimate, normal-holds, normal-increases, normal-state, set_probe_result-sound}
use Rattle.rate_control.proofs.Laws.{increase-high, update-sound}
use Rattle.rate_control.specs.declared.Signal.TheVariants.{Normal}
use Rattle.rate_control.specs.declared.State.{State}
use Rattle.rate_control.specs.declared.State.TheVariants.{Increase, Hold, Decrease}
use Rattle.rate_control.specs.declared.RateControl.{RateControl}
use Rattle.recovery.specs.Recovery.{Change, Each, Finite, Reached, Recovers, Steady, Update, after, after_all, three_halves, updates}
use Rattle.recovery.specs.Recovery.Change.{update, probe, nothing}

-- ---- the range
pub after-sound : (c : RateControl) (x : Change) → Finite x → Sound c → Sound (after c x)
after-sound c (update u) f s = update-sound c (Rate.signal u.hypothesis) u.observed u.rtt u.moment f s
after-sound c (probe b moment) f s = set_probe_result-sound c b moment (finite-ordered b.0 f) s
after-sound c nothing f s = s

-- ---- an update
module _ (E R : Float) (p : T (finite E)) (r : T (finite R)) where
  fewer : (j k : ℕ) (x : Float) → j ≤ k → Reached E k R x → Reached E j R x
  fewer j k x l (inl g) = inl (le_trans (plus E j) (plus E k) x (plus-mono E j k p l) g)
  fewer j k x l (inr g) = inr g

  -- what is reached from x on is reached from E on
  onward : (k : ℕ) (x O y : Float) → T (finite x) → T (finite O) → T (le R O) → Reached E k R x → Reached x 999 O y → Reached E (k + 999) R y
  onward k x O y q f l g (inr (inl h)) = inr (inl (le_trans (mul R three_halves) (mul O three_halves) y (mul-mono-l binary64 R O three_halves r f tt (unfold floats in tt) l) h))
  onward k x O y q f l g (inr (inr h)) = inr (inr h)
  onward k x O y q f l (inl g) (inl h) = inl (plus-trans E x y k 999 p q g h)
  onward k x O y q f l (inr (inl g)) (inl h) = inr (inl (le_trans (mul R three_halves) x y g (le_trans x (plus x 999) y (plus-more x 999 q) h)))
  onward k x O y q f l (inr (inr g)) (inl h) = inr (inr (le_trans (nat (10 ^ 10)) x y g (le_trans x (plus x 999) y (plus-more x 999 q) h)))

  module _ (c : RateControl) (u : Update) (k : ℕ) (s : Sound c) (f : T (finite u.observed.0)) (g : Steady R (update u)) (h : Reached E k R (estimate c)) where
    abbrev next : RateControl
    next = Rate.update c Normal u.observed u.rtt u.moment

    is-next : after c (update u) ≡ next
    unfolding Rate.signal
    is-next = rw g.0 refl

    -- from a state that is not Decrease
    raise : NotDecrease c.state → Reached E (k + 999) R (estimate next)
    unfolding Rate.with_inputs
    raise n =
        rw (normal-increases c u.observed u.rtt u.moment n)
        (onward k (estimate c) u.observed.0 _ (in-finite s.in-range tt) f g.1 h (unfold floats in increase-high (Rate.with_inputs c Normal u.observed u.rtt) u.observed u.moment f s))

    -- from any state
    keep : Reached E k R (estimate next)
    unfolding Rate.with_inputs
    keep = go c.state refl
      where
        go : (state : State) → c.state ≡ state → Reached E k R (estimate next)
        go Increase e = fewer k (k + 999) _ (omega arith) (raise (rw e tt))
        go Hold e = fewer k (k + 999) _ (omega arith) (raise (rw e tt))
        go Decrease e = rw (normal-holds c u.observed u.rtt u.moment e) h

    raised : NotDecrease c.state → Reached E (k + 999) R (estimate (after c (update u)))
    raised n = rw is-next (raise n)

    kept : Reached E k R (estimate (after c (update u)))
    kept = rw is-next keep

    state : NotDecrease (after c (update u)).state
    state = rw is-next (normal-state c u.observed u.rtt u.moment)

  -- ---- a list
  -- from a state that is not Decrease every update raises it
  rises : (c : RateControl) (xs : List Change) (k : ℕ) → Sound c → NotDecrease c.state → Each Finite xs → Each (Steady R) xs → Reached E k R (estimate c)
      → Reached E (k + 999 * updates xs) R (estimate (after_all c xs))
  rises c [] k s n f g h = fewer (k + 999 * 0) k (estimate c) (omega arith) h
  rises c (nothing ∷ xs) k s n f g h = rises c xs k s n f.1 g.1 h
  rises c (probe b moment ∷ xs) k s n f g h = absurd g.0
  rises c (update u ∷ xs) k s n f g h =
      fewer (k + 999 * suc (updates xs)) (k + 999 + 999 * updates xs) _ (omega arith)
      (rises (after c (update u)) xs (k + 999) (after-sound c (update u) f.0 s) (state c u k s f.0 g.0 h) f.1 g.1 (raised c u k s f.0 g.0 h n))

  -- from any state every update but the first does
  rises-later : (c : RateControl) (xs : List Change) → Sound c → Each Finite xs → Each (Steady R) xs → Reached E 0 R (estimate c)
      → Reached E (999 * (updates xs - 1)) R (estimate (after_all c xs))
  rises-later c [] s f g h = h
  rises-later c (nothing ∷ xs) s f g h = rises-later c xs s f.1 g.1 h
  rises-later c (probe b moment ∷ xs) s f g h = absurd g.0
  rises-later c (update u ∷ xs) s f g h =
      fewer (999 * (suc (updates xs) - 1)) (0 + 999 * updates xs) _ (omega arith)
      (rises (after c (update u)) xs 0 (after-sound c (update u) f.0 s) (state c u 0 s f.0 g.0 h) f.1 g.1 (kept c u 0 s f.0 g.0 h))

pub recovers : (c : RateControl) (changes : List Change) → Sound c → Each Finite changes → Recovers c changes
recovers c changes s f n R r g l =
    let p : T (finite (estimate c)) = in-finite s.in-range tt in
    fewer (estimate c) R p r _ (999 * (updates changes - 1)) _ (omega arith) (rises-later (estimate c) R p r c changes s f g (inl (plus_none (estimate c) p)))
