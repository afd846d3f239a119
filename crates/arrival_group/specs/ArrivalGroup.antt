-- src/bwe/delay/arrival_group.rs: how packets are grouped by their send times, and the delay between groups. Instants are ns.
use Rattle.std.specs.Option.{unwrap_or}
use Rattle.std.specs.Prelude.{ℕ, ◌+◌, ◌-◌, ◌*◌, ◌/◌, max, Bool, ◌&&◌, cond, ltb, Option, Some, None}
use Rattle.time.specs.Time as Time
use Rattle.time.specs.Time.{saturating_duration_since, saturating_add, exact, since, positive}
use Rattle.time.specs.declared.TimeDelta.{TimeDelta}
use Rattle.time.specs.declared.TimeDelta.TheVariants.{Positive}
use Rattle.arrival_group.specs.declared.ArrivalGroup.{ArrivalGroup}
use Rattle.arrival_group.specs.declared.Belongs.{Belongs}
use Rattle.arrival_group.specs.declared.Belongs.TheVariants.{Yes, NewGroup, Skipped}
use Rattle.arrival_group.specs.declared.InterGroupDelayDelta.{InterGroupDelayDelta}
use Rattle.arrival_group.specs.declared.ArrivalGroupAccumulator.{ArrivalGroupAccumulator}
use Rattle.arrival_group.specs.declared.Accumulated.{Accumulated}

-- ---- constants: 5 ms, 5 ms and 100 ms
abbrev pub burst_time_interval : ℕ
burst_time_interval = 5000000

abbrev pub send_time_group_length : ℕ
send_time_group_length = 5000000

abbrev pub max_burst_duration : ℕ
max_burst_duration = 100000000

-- ---- a group: the instants of its first packet, and the latest of its packets
-- of one packet
abbrev pub new : ℕ → ℕ → ArrivalGroup
new send remote =
    record { first_local_send_time = send; first_remote_recv_time = remote; last_local_send_time = send; last_remote_recv_time = remote }

-- the length between two instants
abbrev pub between : ℕ → ℕ → TimeDelta
between later earlier = since (exact later) (exact earlier)

-- a packet that arrives in a burst: it waited less than its group's last, at most 5 ms after it, and the group spans less than 100 ms
abbrev pub in_burst : TimeDelta → TimeDelta → ℕ → Bool
in_burst sent arrived span =
    Time.lt (Time.sub arrived sent) (Positive 0) && Time.le arrived (positive burst_time_interval) && ltb span max_burst_duration

-- a packet sent before the group's first is skipped; one sent with the last, in a burst, or within 5 ms of the first belongs to it
unfoldable pub belongs_to_group : ArrivalGroup → ℕ → ℕ → Belongs
belongs_to_group g send remote =
    let sent = between send g.last_local_send_time in
    let arrived = between remote g.last_remote_recv_time in
    cond (ltb send g.first_local_send_time) Skipped
    (cond (Time.eq sent (Positive 0)) Yes
    (cond (in_burst sent arrived (saturating_duration_since remote g.first_remote_recv_time)) Yes
    (cond (ltb send_time_group_length (send - g.first_local_send_time)) NewGroup Yes)))

unfoldable pub with_packet : ArrivalGroup → ℕ → ℕ → ArrivalGroup
with_packet g send remote =
    record {
      first_local_send_time = g.first_local_send_time;
      first_remote_recv_time = g.first_remote_recv_time;
      last_local_send_time = max g.last_local_send_time send;
      last_remote_recv_time = max g.last_remote_recv_time remote;
    }

-- the group after a packet; none where the packet needs a new one
abbrev pub add_as : Belongs → ArrivalGroup → ℕ → ℕ → Option ArrivalGroup
add_as Yes g send remote = Some (with_packet g send remote)
add_as NewGroup g send remote = None
add_as Skipped g send remote = Some g

unfoldable pub add_packet : ArrivalGroup → ℕ → ℕ → Option ArrivalGroup
add_packet g send remote = add_as (belongs_to_group g send remote) g send remote

-- the lengths from a group to a later one, by their last instants
abbrev pub departure_delta : ArrivalGroup → ArrivalGroup → TimeDelta
departure_delta g later = between later.last_local_send_time g.last_local_send_time

abbrev pub arrival_delta : ArrivalGroup → ArrivalGroup → TimeDelta
arrival_delta g later = between later.last_remote_recv_time g.last_remote_recv_time

abbrev pub delta_between : ArrivalGroup → ArrivalGroup → InterGroupDelayDelta
delta_between g later =
    record {
      send_delta = departure_delta g later;
      arrival_delta = arrival_delta g later;
      last_remote_recv_time = later.last_remote_recv_time;
    }

-- ---- the accumulator
abbrev pub new_accumulator : ArrivalGroupAccumulator
new_accumulator = record { send_time_origin = None; previous_group = None; current_group = None }

unfoldable pub delta : Option ArrivalGroup → ArrivalGroup → Option InterGroupDelayDelta
delta None current = None
delta (Some previous) current = Some (delta_between previous current)

-- send times are rounded to ms from the first packet's: µs plus 500, divided by 1,000
unfoldable pub rounded : ℕ → ℕ → ℕ
rounded origin elapsed = saturating_add origin ((elapsed / 1000 + 500) / 1000 * 1000000)

abbrev pub new_accumulated : ℕ → Option ArrivalGroup → ArrivalGroup → Option InterGroupDelayDelta → Accumulated
new_accumulated origin previous current delta =
    record {
      accumulator = record { send_time_origin = Some origin; previous_group = previous; current_group = Some current };
      delta = delta;
    }

abbrev pub accumulate_added : Option ArrivalGroup → ArrivalGroup → Option ArrivalGroup → ℕ → ℕ → ℕ → Accumulated
accumulate_added None current previous origin send remote = new_accumulated origin (Some current) (new send remote) (delta previous current)
accumulate_added (Some group) current previous origin send remote = new_accumulated origin previous group None

-- the first packet starts a group; one that needs a new group closes the current one
unfoldable pub accumulate_rounded : Option ArrivalGroup → Option ArrivalGroup → ℕ → ℕ → ℕ → Accumulated
accumulate_rounded None previous origin send remote = new_accumulated origin previous (new send remote) None
accumulate_rounded (Some current) previous origin send remote =
    accumulate_added (add_packet current send remote) current previous origin send remote

-- a packet sent before the first one joins no group
unfoldable pub accumulate_packet : ArrivalGroupAccumulator → ℕ → ℕ → Accumulated
accumulate_packet a send remote =
    let origin = unwrap_or a.send_time_origin send in
    cond (ltb send origin) (record { accumulator = a; delta = None })
    (accumulate_rounded a.current_group a.previous_group origin (rounded origin (send - origin)) remote)
