-- crates/proto/src/bandwidth.rs: what each operation on rates and sizes gives.
use Rattle.std.specs.Prelude.{◌≡◌, ℕ, ◌-◌, ◌^◌, Bool, cond, ℤ, pos, negsuc, ◌+ℤ◌, int_lt, Float}
use Rattle.std.proofs.Math.Path.{refl}
use Rattle.std.specs.Float.Ieee as Ieee
use Rattle.std.specs.Float.{binary64}
use Rattle.std.specs.Float.Ieee.{of_int}
use Rattle.float_order.specs.Binary64.{mul as times, div, lit, decimal}
use Rattle.float_order.specs.Interval.{floats}
use Rattle.float.specs.Float as Float
use Rattle.seconds.specs.Seconds.{as_secs_f64}
use Rattle.bandwidth.specs.declared.Bitrate.{Bitrate}
use Rattle.bandwidth.specs.declared.DataSize.{DataSize}

abbrev pub bits_per_byte : Float
bits_per_byte = lit 0x4020_0000_0000_0000

pub bits_per_byte-is : bits_per_byte ≡ decimal 8 1
bits_per_byte-is = unfold floats in refl

-- ---- Bitrate
abbrev pub rate : Float → Bitrate
rate x = record { 0 = x }

abbrev pub zero : Bitrate
zero = rate (lit 0)

-- the limits of an estimate
abbrev pub min_estimate : Bitrate
min_estimate = rate (lit 0x40e3_8800_0000_0000)

pub min_estimate-is : min_estimate.0 ≡ decimal 40000 1
min_estimate-is = unfold floats in refl

abbrev pub max_estimate : Bitrate
max_estimate = rate (lit 0x4202_a05f_2000_0000)

pub max_estimate-is : max_estimate.0 ≡ decimal (10 ^ 10) 1
max_estimate-is = unfold floats in refl

-- the greatest rate of a probe, and the greatest acknowledged rate
abbrev pub most_rate : Bitrate
most_rate = rate (lit 0x42d6_bcc4_1e90_0000)

pub most_rate-is : most_rate.0 ≡ decimal (10 ^ 14) 1
most_rate-is = unfold floats in refl

abbrev pub bps : ℕ → Bitrate
bps n = rate (of_int binary64 (pos n))

unfoldable pub clamp : Bitrate → Bitrate → Bitrate → Bitrate
clamp b low high = rate (Float.clamp b.0 low.0 high.0)

abbrev pub within : Bitrate → Bitrate → Bitrate → Bool
within b low high = Float.within low.0 high.0 b.0

abbrev pub mul : Bitrate → Float → Bitrate
mul b k = rate (times b.0 k)

abbrev pub eq : Bitrate → Bitrate → Bool
eq a b = Ieee.eq a.0 b.0

abbrev pub lt : Bitrate → Bitrate → Bool
lt a b = Ieee.lt a.0 b.0

-- ---- DataSize
abbrev pub bytes : ℤ → DataSize
bytes n = record { 0 = n }

-- the greatest byte sum of a window
abbrev pub most_sum : ℕ
most_sum = 2147483647

abbrev pub most_bytes : DataSize
most_bytes = bytes (pos most_sum)

abbrev pub as_bytes_f64 : DataSize → Float
as_bytes_f64 s = of_int binary64 s.0

abbrev pub less : DataSize → DataSize → Bool
less a b = int_lt a.0 b.0

-- the ends of i64
abbrev pub least : ℤ
least = negsuc (2 ^ 63 - 1)

abbrev pub most : ℤ
most = pos (2 ^ 63 - 1)

-- the number, or the end of i64 that it is past
unfoldable pub saturated : ℤ → ℤ
saturated z = cond (int_lt most z) most (cond (int_lt z least) least z)

abbrev pub saturating_add : ℤ → ℤ → ℤ
saturating_add a b = saturated (a +ℤ b)

abbrev pub add_size : DataSize → DataSize → DataSize
add_size a b = bytes (saturating_add a.0 b.0)

-- bits over seconds, each operation rounded, and 0 where the seconds are a zero
unfoldable pub per_secs : DataSize → Float → Bitrate
per_secs s secs = rate (cond (Ieee.eq secs (lit 0)) (lit 0) (div (times (as_bytes_f64 s) bits_per_byte) secs))

abbrev pub per_duration : DataSize → ℕ → Bitrate
per_duration s d = per_secs s (as_secs_f64 d)
