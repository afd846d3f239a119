-- Laws of groups: the bounds of what an accumulator holds after any packets, and of the deltas that it gives.
use Rattle.std.specs.Option.{unwrap_or}
use Rattle.std.specs.Prelude.{ℕ, ◌+◌, ◌-◌, ◌*◌, ◌/◌, ◌^◌, ◌≤◌, ◌<◌, ◌≡◌, ltb, Option, Some, None}
use native.Mathlib.Omega.{arith}
use borrow.Author.Tests.{le-leb, ltb-false}
use Rattle.bool_laws.specs.Bools.{cases}
use Rattle.time.specs.Time.{limit, difference, exact, saturating_add}
use Rattle.time.specs.Laws.{since-exact}
use Rattle.time.specs.declared.TimeDelta.{TimeDelta}
use Rattle.time.specs.declared.TimeDelta.TheVariants.{NegativeInfinity, Negative, Positive, PositiveInfinity}
use Rattle.arrival_group.specs.declared.ArrivalGroup.{ArrivalGroup}
use Rattle.arrival_group.specs.declared.Belongs.{Belongs}
use Rattle.arrival_group.specs.declared.Belongs.TheVariants.{Yes, NewGroup, Skipped}
use Rattle.arrival_group.specs.declared.InterGroupDelayDelta.{InterGroupDelayDelta}
use Rattle.arrival_group.specs.declared.ArrivalGroupAccumulator.{ArrivalGroupAccumulator}
use Rattle.arrival_group.specs.declared.Accumulated.{Accumulated}
use Rattle.arrival_group.specs.ArrivalGroup.{
  accumulate_added,
  accumulate_packet,
  accumulate_rounded,
  add_as,
  add_packet,
  belongs_to_group,
  between,
  delta_between,
  new,
  new_accumulator,
  rounded,
  with_packet,
}

-- ---- rounding
-- a whole number of ms after the origin, and within half a ms of what is rounded
pub record Nearest (origin elapsed r : ℕ) : Type 0 where
  pub ms : ℕ
  pub whole : r ≡ origin + ms * 1000000
  pub high : r ≤ origin + elapsed + 500000
  pub low : origin + elapsed < r + 500000

pub rounded-nearest : (origin elapsed : ℕ) → origin + elapsed ≤ 2 ^ 63 → Nearest origin elapsed (rounded origin elapsed)
unfolding rounded saturating_add
rounded-nearest origin elapsed h =
    record { ms = (elapsed / 1000 + 500) / 1000; whole = omega arith; high = omega arith; low = omega arith }

-- ---- groups of packets that were sent by S and received by R; rounding to a ms adds at most 500 µs
pub record Bounded (S R : ℕ) (g : ArrivalGroup) : Type 0 where
  pub first-send : g.first_local_send_time ≤ S + 500000
  pub first-remote : g.first_remote_recv_time ≤ R
  pub last-send : g.last_local_send_time ≤ S + 500000
  pub last-remote : g.last_remote_recv_time ≤ R

abbrev pub BoundedIfAny : ℕ → ℕ → Option ArrivalGroup → Type 0
BoundedIfAny S R None = Unit {0}
BoundedIfAny S R (Some g) = Bounded S R g

pub record Sound (S R : ℕ) (a : ArrivalGroupAccumulator) : Type 0 where
  pub origin : unwrap_or a.send_time_origin 0 ≤ S
  pub previous : BoundedIfAny S R a.previous_group
  pub current : BoundedIfAny S R a.current_group

-- ---- the delay between two groups, which may be negative
abbrev pub AtMost : ℕ → TimeDelta → Type 0
AtMost n NegativeInfinity = ⊥
AtMost n (Negative d) = d ≤ n
AtMost n (Positive d) = d ≤ n
AtMost n PositiveInfinity = ⊥

pub record Measured (S R : ℕ) (previous current : ArrivalGroup) (d : InterGroupDelayDelta) : Type 0 where
  pub send : d.send_delta ≡ difference current.last_local_send_time previous.last_local_send_time
  pub send-bound : AtMost (S + 500000) d.send_delta
  pub arrival-bound : AtMost R d.arrival_delta
  pub last-bound : d.last_remote_recv_time ≤ R

-- ---- proofs
module _ {n a b : ℕ} (l : n ≤ limit) (h : a ≤ n) (k : b ≤ n) where
  between-difference : between a b ≡ difference a b
  unfolding exact
  between-difference = rw (le-leb a limit (omega arith), le-leb b limit (omega arith)) (since-exact a b (omega arith) (omega arith))

  between-bound : AtMost n (between a b)
  unfolding difference
  between-bound = rw between-difference (cases (AtMost n) (ltb a b) (λ e. omega arith) (λ e. omega arith))

pub measured : {S R : ℕ} {p g : ArrivalGroup} → S + 500000 ≤ limit → R ≤ limit → Bounded S R p → Bounded S R g → Measured S R p g (delta_between p g)
measured x y v w =
    record {
      send = between-difference x w.last-send v.last-send;
      send-bound = between-bound x w.last-send v.last-send;
      arrival-bound = between-bound y w.last-remote v.last-remote;
      last-bound = w.last-remote;
    }

-- a packet whose send instant is rounded
module _ {S R origin send remote : ℕ} (o : origin ≤ S) (h : send ≤ S + 500000) (k : remote ≤ R) where
  added-bounded : {g : ArrivalGroup} (b : Belongs) → Bounded S R g → BoundedIfAny S R (add_as b g send remote)
  unfolding with_packet
  added-bounded Yes w =
      record { first-send = w.first-send; first-remote = w.first-remote; last-send = omega arith; last-remote = omega arith }
  added-bounded NewGroup w = tt
  added-bounded Skipped w = w

  new-bounded : Bounded S R (new send remote)
  new-bounded = record { first-send = h; first-remote = k; last-send = h; last-remote = k }

  rounded-sound : (current previous : Option ArrivalGroup) → BoundedIfAny S R current → BoundedIfAny S R previous → Sound S R (accumulate_rounded current previous origin send remote).accumulator
  unfolding accumulate_rounded add_packet
  rounded-sound None previous w v = record { origin = o; previous = v; current = new-bounded }
  rounded-sound (Some g) previous w v = sound-added (add_packet g send remote) (added-bounded (belongs_to_group g send remote) w)
    where
      sound-added : (a : Option ArrivalGroup) → BoundedIfAny S R a → Sound S R (accumulate_added a g previous origin send remote).accumulator
      sound-added None b = record { origin = o; previous = w; current = new-bounded }
      sound-added (Some group) b = record { origin = o; previous = v; current = b }

pub new-sound : (S R : ℕ) → Sound S R new_accumulator
new-sound S R = record { origin = omega arith; previous = tt; current = tt }

pub accumulate-sound : {S R send remote : ℕ} (a : ArrivalGroupAccumulator) → S ≤ 2 ^ 63 → send ≤ S → remote ≤ R → Sound S R a → Sound S R (accumulate_packet a send remote).accumulator
unfolding accumulate_packet
accumulate-sound {S} {R} {send} {remote} a x h k s =
    let origin = unwrap_or a.send_time_origin send in
    cases (λ (y : Accumulated). Sound S R y.accumulator) (ltb send origin) (λ e. s)
    (λ e.
    let l = ltb-false send origin e in
    let n = rounded-nearest origin (send - origin) (omega arith) in
    rounded-sound {origin = origin} (omega arith) (omega (arith, n.high)) k a.current_group a.previous_group s.current s.previous)
