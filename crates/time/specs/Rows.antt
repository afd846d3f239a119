-- Rows of the definitions, computed: lengths of whole seconds and ms, the infinities, negative zero, the limit, division.
use Rattle.std.specs.Prelude.{◌≡◌, ◌+◌, ◌-◌, ◌*◌, ◌^◌, Bool, true, pos, negsuc}
use Rattle.std.proofs.Math.Path.{refl}
use Rattle.time.specs.declared.Timestamp.TheVariants.{DistantPast, Exact, DistantFuture}
use Rattle.time.specs.declared.TimeDelta.TheVariants.{NegativeInfinity, Negative, Positive, PositiveInfinity}
use Rattle.time.specs.Time.{positive, negative, units, from_secs, from_millis, exact, limited, limited_instant, neg, difference, add_limited, add, sub, add_limited_delta, add_delta, sub_delta, since_limited, since, div_limited, div}

-- `unfold operations in refl` opens every operation
unfoldable operations : Bool
unfolding positive negative units exact limited limited_instant neg difference add_limited add sub add_limited_delta add_delta sub_delta since_limited since div_limited div
operations = true

minus-one-second : from_secs (negsuc 0) ≡ Negative (10 ^ 9)
minus-one-second = unfold operations in refl

longest-millis : from_millis (pos (4 * 10 ^ 12)) ≡ Positive (4 * 10 ^ 18)
longest-millis = unfold operations in refl

above-limit-millis : from_millis (pos (4 * 10 ^ 12 + 1)) ≡ PositiveInfinity
above-limit-millis = unfold operations in refl

-- the least i64, where the Rust overflows
least-seconds : from_secs (negsuc (2 ^ 63 - 1)) ≡ NegativeInfinity
least-seconds = unfold operations in refl

past-past : since DistantPast DistantPast ≡ PositiveInfinity
past-past = unfold operations in refl

future-future : since DistantFuture DistantFuture ≡ PositiveInfinity
future-future = unfold operations in refl

past-future : since DistantPast DistantFuture ≡ NegativeInfinity
past-future = unfold operations in refl

above-above : sub PositiveInfinity PositiveInfinity ≡ PositiveInfinity
above-above = unfold operations in refl

below-below : sub NegativeInfinity NegativeInfinity ≡ PositiveInfinity
below-below = unfold operations in refl

negative-zero : sub (Negative 0) (Positive 0) ≡ Negative 0
negative-zero = unfold operations in refl

zero-zero : sub (Positive 0) (Positive 0) ≡ Positive 0
zero-zero = unfold operations in refl

above-limit : add (Positive (4 * 10 ^ 18)) (Positive 1) ≡ PositiveInfinity
above-limit = unfold operations in refl

above-limit-given : neg (Positive (4 * 10 ^ 18 + 1)) ≡ NegativeInfinity
above-limit-given = unfold operations in refl

last-instant : add_delta (Exact (4 * 10 ^ 18)) (Positive 1) ≡ DistantFuture
last-instant = unfold operations in refl

before-origin : sub_delta (Exact 0) (Positive 1) ≡ DistantPast
before-origin = unfold operations in refl

half : div (Positive 5000000) 2 ≡ Positive 2500000
half = unfold operations in refl

over_zero : div (Negative 5000000) 0 ≡ NegativeInfinity
over_zero = unfold operations in refl
