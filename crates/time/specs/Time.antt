-- src/bwe/time.rs: what each operation on instants and lengths of time gives. Numbers are ns.
use Rattle.std.specs.Prelude.{ℕ, suc, ◌+◌, ◌-◌, ◌*◌, ◌/◌, ◌^◌, ◌≤◌, min, Bool, true, false, cond, ℤ, pos, negsuc, ◌==◌, nat_le, nat_lt, Float, Option, Some, None}
use Rattle.std.specs.Float.Ieee as Ieee
use Rattle.std.specs.Float.{inf}
use Rattle.seconds.specs.Seconds as Seconds
use Rattle.bandwidth.specs.Bandwidth as Bandwidth
use Rattle.bandwidth.specs.declared.Bitrate.{Bitrate}
use Rattle.bandwidth.specs.declared.DataSize.{DataSize}
use Rattle.std.specs.Ordering.{nat_cmp}
use Rattle.std.specs.declared.cmp.Ordering.{Ordering}
use Rattle.time.specs.declared.Timestamp.{Timestamp}
use Rattle.time.specs.declared.Timestamp.TheVariants.{DistantPast, Exact, DistantFuture}
use Rattle.time.specs.declared.TimeDelta.{TimeDelta}
use Rattle.time.specs.declared.TimeDelta.TheVariants.{NegativeInfinity, Negative, Positive, PositiveInfinity}

-- the longest finite length, and the last exact instant (document 01's 4 × 10^18 ns)
abbrev pub limit : ℕ
limit = 4 * 10 ^ 18

-- ---- instants as Rust's `Instant`: plain numbers
-- 0 where the instant is the earlier one
abbrev pub saturating_duration_since : ℕ → ℕ → ℕ
saturating_duration_since later earlier = later - earlier

unfoldable pub saturating_add : ℕ → ℕ → ℕ
saturating_add a b = min (a + b) (2 ^ 64 - 1)

unfoldable pub longest : Option ℕ → ℕ → Option ℕ
longest None other = Some other
longest (Some d) other = Some (cond (nat_lt d other) other d)

-- ---- the added limits: a finite length above the limit is the infinity of its sign, such an instant `DistantFuture`.
-- An operation puts them to what it is given first: its table, by a name with `Limited`, is for values within them.
unfoldable pub positive : ℕ → TimeDelta
positive d = cond (nat_le d limit) (Positive d) PositiveInfinity

unfoldable pub negative : ℕ → TimeDelta
negative d = cond (nat_le d limit) (Negative d) NegativeInfinity

-- so many units of ns, of either sign
unfoldable pub units : ℤ → ℕ → TimeDelta
units (pos n) ns = positive (n * ns)
units (negsuc n) ns = negative (suc n * ns)

abbrev pub from_secs : ℤ → TimeDelta
from_secs secs = units secs (10 ^ 9)

abbrev pub from_millis : ℤ → TimeDelta
from_millis millis = units millis (10 ^ 6)

unfoldable pub exact : ℕ → Timestamp
exact t = cond (nat_le t limit) (Exact t) DistantFuture

unfoldable pub limited : TimeDelta → TimeDelta
limited NegativeInfinity = NegativeInfinity
limited (Negative d) = negative d
limited (Positive d) = positive d
limited PositiveInfinity = PositiveInfinity

unfoldable pub limited_instant : Timestamp → Timestamp
limited_instant DistantPast = DistantPast
limited_instant (Exact t) = exact t
limited_instant DistantFuture = DistantFuture

abbrev pub Within : TimeDelta → Type 0
Within NegativeInfinity = Unit {0}
Within (Negative d) = d ≤ limit
Within (Positive d) = d ≤ limit
Within PositiveInfinity = Unit {0}

abbrev pub WithinInstant : Timestamp → Type 0
WithinInstant DistantPast = Unit {0}
WithinInstant (Exact t) = t ≤ limit
WithinInstant DistantFuture = Unit {0}

-- ---- the order: each length has a place, and negative zero is just below zero
unfoldable pub place_limited : TimeDelta → ℕ
place_limited NegativeInfinity = 0
place_limited (Negative d) = limit + 1 - d
place_limited (Positive d) = limit + 2 + d
place_limited PositiveInfinity = 2 * limit + 3

unfoldable pub place : TimeDelta → ℕ
place a = place_limited (limited a)

unfoldable pub place_limited_instant : Timestamp → ℕ
place_limited_instant DistantPast = 0
place_limited_instant (Exact t) = t + 1
place_limited_instant DistantFuture = limit + 2

unfoldable pub place_instant : Timestamp → ℕ
place_instant a = place_limited_instant (limited_instant a)

abbrev pub cmp : TimeDelta → TimeDelta → Ordering
cmp a b = nat_cmp (place a) (place b)

abbrev pub eq : TimeDelta → TimeDelta → Bool
eq a b = place a == place b

abbrev pub lt : TimeDelta → TimeDelta → Bool
lt a b = nat_lt (place a) (place b)

abbrev pub le : TimeDelta → TimeDelta → Bool
le a b = nat_le (place a) (place b)

abbrev pub cmp_instant : Timestamp → Timestamp → Ordering
cmp_instant a b = nat_cmp (place_instant a) (place_instant b)

abbrev pub eq_instant : Timestamp → Timestamp → Bool
eq_instant a b = place_instant a == place_instant b

abbrev pub lt_instant : Timestamp → Timestamp → Bool
lt_instant a b = nat_lt (place_instant a) (place_instant b)

abbrev pub le_instant : Timestamp → Timestamp → Bool
le_instant a b = nat_le (place_instant a) (place_instant b)

-- ---- sums and differences
unfoldable pub neg : TimeDelta → TimeDelta
neg NegativeInfinity = PositiveInfinity
neg (Negative d) = positive d
neg (Positive d) = negative d
neg PositiveInfinity = NegativeInfinity

-- a - b; equal numbers give zero and not negative zero
unfoldable pub difference : ℕ → ℕ → TimeDelta
difference a b = cond (nat_lt a b) (Negative (b - a)) (Positive (a - b))

unfoldable pub add_limited : TimeDelta → TimeDelta → TimeDelta
add_limited PositiveInfinity b = PositiveInfinity
add_limited NegativeInfinity NegativeInfinity = NegativeInfinity
add_limited NegativeInfinity (Negative d) = NegativeInfinity
add_limited NegativeInfinity (Positive d) = NegativeInfinity
add_limited NegativeInfinity PositiveInfinity = PositiveInfinity
add_limited (Negative c) NegativeInfinity = NegativeInfinity
add_limited (Negative c) (Negative d) = negative (c + d)
add_limited (Negative c) (Positive d) = difference d c
add_limited (Negative c) PositiveInfinity = PositiveInfinity
add_limited (Positive c) NegativeInfinity = NegativeInfinity
add_limited (Positive c) (Negative d) = difference c d
add_limited (Positive c) (Positive d) = positive (c + d)
add_limited (Positive c) PositiveInfinity = PositiveInfinity

unfoldable pub add : TimeDelta → TimeDelta → TimeDelta
add a b = add_limited (limited a) (limited b)

unfoldable pub sub : TimeDelta → TimeDelta → TimeDelta
sub a b = add a (neg b)

-- an instant and a length; below 0 it is `DistantPast`
unfoldable pub add_limited_delta : Timestamp → TimeDelta → Timestamp
add_limited_delta t PositiveInfinity = DistantFuture
add_limited_delta DistantPast NegativeInfinity = DistantPast
add_limited_delta DistantPast (Negative d) = DistantPast
add_limited_delta DistantPast (Positive d) = DistantPast
add_limited_delta (Exact t) NegativeInfinity = DistantPast
add_limited_delta (Exact t) (Negative d) = cond (nat_lt t d) DistantPast (Exact (t - d))
add_limited_delta (Exact t) (Positive d) = exact (t + d)
add_limited_delta DistantFuture NegativeInfinity = DistantFuture
add_limited_delta DistantFuture (Negative d) = DistantFuture
add_limited_delta DistantFuture (Positive d) = DistantFuture

unfoldable pub add_delta : Timestamp → TimeDelta → Timestamp
add_delta t d = add_limited_delta (limited_instant t) (limited d)

unfoldable pub sub_delta : Timestamp → TimeDelta → Timestamp
sub_delta t d = add_delta t (neg d)

-- the length from the second instant to the first
unfoldable pub since_limited : Timestamp → Timestamp → TimeDelta
since_limited DistantFuture b = PositiveInfinity
since_limited DistantPast DistantPast = PositiveInfinity
since_limited DistantPast (Exact b) = NegativeInfinity
since_limited DistantPast DistantFuture = NegativeInfinity
since_limited (Exact a) DistantPast = PositiveInfinity
since_limited (Exact a) (Exact b) = difference a b
since_limited (Exact a) DistantFuture = NegativeInfinity

unfoldable pub since : Timestamp → Timestamp → TimeDelta
since a b = since_limited (limited_instant a) (limited_instant b)

abbrev pub is_exact : Timestamp → Bool
is_exact DistantPast = false
is_exact (Exact t) = nat_le t limit
is_exact DistantFuture = false

-- ---- division, seconds, rates
-- a finite length divided by 0 is the infinity of its sign
unfoldable pub div_limited : TimeDelta → ℕ → TimeDelta
div_limited NegativeInfinity n = NegativeInfinity
div_limited (Negative d) n = cond (n == 0) NegativeInfinity (Negative (d / n))
div_limited (Positive d) n = cond (n == 0) PositiveInfinity (Positive (d / n))
div_limited PositiveInfinity n = PositiveInfinity

unfoldable pub div : TimeDelta → ℕ → TimeDelta
div a n = div_limited (limited a) n

unfoldable pub secs_limited : TimeDelta → Float
secs_limited NegativeInfinity = inf true
secs_limited (Negative d) = Ieee.neg (Seconds.as_secs_f64 d)
secs_limited (Positive d) = Seconds.as_secs_f64 d
secs_limited PositiveInfinity = inf false

unfoldable pub as_secs_f64 : TimeDelta → Float
as_secs_f64 a = secs_limited (limited a)

abbrev pub rate : DataSize → TimeDelta → Bitrate
rate size length = Bandwidth.per_secs size (as_secs_f64 length)
