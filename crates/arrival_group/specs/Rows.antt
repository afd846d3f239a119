-- Rows of document 01, and a case that later proofs must not forget, computed from the definitions.
use Rattle.std.specs.Prelude.{ℕ, ◌*◌, ◌≡◌, refl, Bool, true, Some}
use Rattle.time.specs.Time.{
  saturating_add,
  since,
  since_limited,
  limited_instant,
  exact,
  difference,
  place,
  place_limited,
  limited,
  positive,
  negative,
  add,
  add_limited,
  neg,
  sub,
}
use Rattle.time.specs.declared.TimeDelta.TheVariants.{Negative, Positive}
use Rattle.arrival_group.specs.declared.Accumulated.{Accumulated}
use Rattle.arrival_group.specs.ArrivalGroup.{
  accumulate_packet,
  accumulate_rounded,
  add_packet,
  belongs_to_group,
  delta,
  new,
  new_accumulator,
  rounded,
  with_packet,
}

abbrev ms : ℕ → ℕ
ms n = n * 1000000

-- opens every definition that the rows below compute
unfoldable groups : Bool
unfolding accumulate_packet accumulate_rounded add_packet belongs_to_group with_packet rounded saturating_add since since_limited limited_instant exact difference place place_limited limited positive negative add add_limited neg sub delta
groups = true

-- ---- a first packet, and one sent and received so many ms later
abbrev pub second : ℕ → Accumulated
second n = accumulate_packet (accumulate_packet new_accumulator 0 0).accumulator (ms n) (ms n)

pub five-ms-joins : (second 5).accumulator.current_group ≡ Some (with_packet (new 0 0) (ms 5) (ms 5))
unfolding groups
five-ms-joins = refl

pub six-ms-starts-anew : (second 6).accumulator.current_group ≡ Some (new (ms 6) (ms 6))
unfolding groups
six-ms-starts-anew = refl

-- ---- a group's last send instant may be before that of the group before it: a burst carries the first group's to 20 ms, and a packet
-- sent at 10 ms, which comes later, starts the second
abbrev pub after_burst : Accumulated
after_burst =
    accumulate_packet
    (accumulate_packet (accumulate_packet (accumulate_packet new_accumulator 0 0).accumulator (ms 20) (ms 1)).accumulator (ms 10) (ms 2)).accumulator
    (ms 30)
    (ms 40)

pub send-delta-may-be-negative :
    after_burst.delta ≡ Some record { send_delta = Negative (ms 10); arrival_delta = Positive (ms 1); last_remote_recv_time = ms 2 }
unfolding groups
send-delta-may-be-negative = refl
