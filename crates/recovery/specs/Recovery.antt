-- What calls do to a rate control, and how its estimate recovers: the claim, whose proof is proofs/RecoveryProof.antt.
use Rattle.std.specs.Prelude.{◌≡◌, false, List, [], ◌∷◌, ℕ, suc, ◌*◌, ◌^◌, ◌<◌, negsuc, T, Float, Option}
use Rattle.std.specs.Float.{fin}
use Rattle.std.specs.Float.Ieee.{le}
use Rattle.std.specs.Float.Ieee.Scale.{finite}
use Rattle.float_order.specs.Binary64.{mul}
use Rattle.float_order.specs.Range.{nat}
use Rattle.float_order.specs.Plus.{plus}
use Rattle.bandwidth.specs.declared.Bitrate.{Bitrate}
use Rattle.bandwidth.specs.declared.BandwidthUsage.{BandwidthUsage}
use Rattle.bandwidth.specs.declared.BandwidthUsage.TheVariants as Usage
use Rattle.rate_control.specs.RateControl as Rate
use Rattle.rate_control.specs.Laws.{AtLeastSmallest, estimate}
use Rattle.rate_control.specs.declared.RateControl.{RateControl}

-- a rate update: the hypothesis and the acknowledged rate that are handed on, the round trip, and when
pub record Update : Type 0 where
  pub hypothesis : BandwidthUsage
  pub observed : Bitrate
  pub rtt : Option ℕ
  pub moment : ℕ

-- what a call does to a rate control; a refused call, and a timeout that hands no rate on, do nothing
pub data Change : Type 0 where
  update : Update → Change
  probe : Bitrate → ℕ → Change
  nothing : Change

abbrev pub after : RateControl → Change → RateControl
after c (update u) = Rate.update c (Rate.signal u.hypothesis) u.observed u.rtt u.moment
after c (probe b moment) = Rate.set_probe_result c b moment
after c nothing = c

abbrev pub after_all : RateControl → List Change → RateControl
after_all c [] = c
after_all c (x ∷ xs) = after_all (after c x) xs

-- how many of them are rate updates
abbrev pub updates : List Change → ℕ
updates [] = 0
updates (update u ∷ xs) = suc (updates xs)
updates (probe b moment ∷ xs) = updates xs
updates (nothing ∷ xs) = updates xs

abbrev pub Each : (Change → Type 0) → List Change → Type 0
Each P [] = Unit
Each P (x ∷ xs) = P x × Each P xs

-- observed rates and probes are finite
abbrev pub Finite : Change → Type 0
Finite (update u) = T (finite u.observed.0)
Finite (probe b moment) = T (finite b.0)
Finite nothing = Unit

-- no probe, and every update has a normal hypothesis and an observed rate of R at least
abbrev pub Steady : Float → Change → Type 0
Steady R (update u) = (u.hypothesis ≡ Usage.Normal) × T (le R u.observed.0)
Steady R (probe b moment) = ⊥
Steady R nothing = Unit

-- 3 / 2
abbrev pub three_halves : Float
three_halves = fin false 3 (negsuc 0)

-- x is at least the smallest of E + k, which is exact, 1.5 × R, rounded once and maybe infinite, and 10 ^ 10
abbrev pub Reached : Float → ℕ → Float → Float → Type 0
Reached E k R x = AtLeastSmallest (plus E k) (mul R three_halves) (nat (10 ^ 10)) x

-- The claim: for every n and every finite R, if all of the changes are steady for R and n + 1 of them or more are updates, the estimate after them has
-- reached E + 999 × n, 1.5 × R or 10 ^ 10, where E is the estimate before.
abbrev pub Recovers : RateControl → List Change → Type 0
Recovers c changes =
    (n : ℕ) (R : Float) → T (finite R) → Each (Steady R) changes → n < updates changes → Reached (estimate c) (999 * n) R (estimate (after_all c changes))
