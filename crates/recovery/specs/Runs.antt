-- Range and recovery over the runs of any machine that holds a rate control, such as a link, whose calls are reports and timeouts.
use Rattle.std.specs.Prelude.{◌≡◌, List, [], ◌∷◌, ◌++◌, ℕ, ◌*◌, ◌<◌, T, Float}
use Rattle.std.specs.Float.Ieee.Scale.{finite}
use Rattle.float_order.specs.Range.{In, nat}
use Rattle.rate_control.specs.Laws.{InRange, Sound, estimate}
use Rattle.rate_control.specs.declared.RateControl.{RateControl}
use Rattle.recovery.specs.Recovery.{Change, Each, Finite, Reached, Steady, after, updates}

-- what a call makes of the machine, its rate control and delay threshold, and what a call does to the rate control
pub record Machine (Link Call : Type 0) : Type 0 where
  pub step : Link → Call → Link
  pub control : Link → RateControl
  pub threshold : Link → Float
  pub change : Link → Call → Change

module _ {Link Call : Type 0} (m : Machine Link Call) where
  abbrev pub run : Link → List Call → Link
  run l [] = l
  run l (k ∷ ks) = run (m.step l k) ks

  abbrev pub changes : Link → List Call → List Change
  changes l [] = []
  changes l (k ∷ ks) = m.change l k ∷ changes (m.step l k) ks

  abbrev pub shown : Link → Float
  shown l = estimate (m.control l)

  -- The claim of a list of calls from l: after it the estimate is from 40,000 to 10 ^ 10 and the threshold from 6 to 600; and from any point of it, where the
  -- estimate is E, if no call after that is a probe, and every rate update has a normal hypothesis and an observed rate of R at least, and these are n + 1 or
  -- more, then after the list the estimate is at least the smallest of E + 999 × n, 1.5 × R and 10 ^ 10.
  pub record Holds (l : Link) (calls : List Call) : Type 0 where
    pub estimate-in : InRange (shown (run l calls))
    pub threshold-in : In (nat 6) (nat 600) (m.threshold (run l calls))
    pub recovery : (before later : List Call) → calls ≡ before ++ later → (n : ℕ) (R : Float) → T (finite R)
        → Each (Steady R) (changes (run l before) later) → n < updates (changes (run l before) later)
        → Reached (shown (run l before)) (999 * n) R (shown (run l calls))

  -- what the claim takes: the rate control goes by the changes, and a fact of machines that every call keeps, with which rates are finite and ranges hold
  pub record Keeps (Good : Link → Type 0) : Type 0 where
    pub control-after : (l : Link) (k : Call) → m.control (m.step l k) ≡ after (m.control l) (m.change l k)
    pub good-after : (l : Link) (k : Call) → Good l → Good (m.step l k)
    pub good-finite : (l : Link) (k : Call) → Good l → Finite (m.change l k)
    pub good-sound : (l : Link) → Good l → Sound (m.control l)
    pub good-threshold : (l : Link) → Good l → In (nat 6) (nat 600) (m.threshold l)
