-- What std's comparisons answer of two sizes and of two rates, in the definitions' words.
use Rattle.std.specs.Prelude.{◌≡◌, refl, Bool, true, false, cond, ℤ, int_lt, Float, Some, None}
use Rattle.std.specs.Ordering.{is_lt, int_cmp, float_partial_cmp, partial_lt}
use Rattle.std.specs.declared.cmp.Ordering.TheVariants.{Less, Equal, Greater}
use Rattle.std.specs.Float.Ieee as Ieee
use Rattle.bandwidth.specs.Bandwidth.{less, lt, eq}
use Rattle.bandwidth.specs.declared.Bitrate.{Bitrate}
use Rattle.bandwidth.specs.declared.DataSize.{DataSize}
use Rattle.bandwidth.specs.contracts.DataSizePartialOrd.TheImpl as SizeOrder
use Rattle.bandwidth.specs.contracts.BitratePartialOrd.TheImpl as RateOrder
use Rattle.bandwidth.specs.contracts.BitratePartialEq.TheImpl as RateEquality

pub size-below : (x y : ℤ) → is_lt (int_cmp x y) ≡ int_lt x y
size-below x y = first (int_lt x y) (int_lt y x)
  where
    first : (a b : Bool) → is_lt (cond a Less (cond b Greater Equal)) ≡ a
    first true b = refl
    first false true = refl
    first false false = refl

pub rate-below : (x y : Float) → partial_lt float_partial_cmp x y ≡ Ieee.lt x y
rate-below x y = first (Ieee.lt x y) (Ieee.eq x y) (Ieee.lt y x)
  where
    first : (a b c : Bool) → partial_lt (λ (_ _ : Float). cond a (Some Less) (cond b (Some Equal) (cond c (Some Greater) None))) x y ≡ a
    first true b c = refl
    first false true c = refl
    first false false true = refl
    first false false false = refl

-- ---- the derived comparisons
pub size-lt : (a b : DataSize) → partial_lt SizeOrder.ghosts.partial_cmp a b ≡ less a b
size-lt a b = size-below a.0 b.0

pub rate-lt : (a b : Bitrate) → partial_lt RateOrder.ghosts.partial_cmp a b ≡ lt a b
rate-lt a b = rate-below a.0 b.0

pub rate-eq : (a b : Bitrate) → RateEquality.ghosts.eq a b ≡ eq a b
rate-eq a b = refl
