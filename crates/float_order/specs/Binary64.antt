-- The operations of binary64 by short names, for definitions: each rounds once. A literal of the code stands by its bits.
use Rattle.std.specs.Prelude.{◌≡◌, ℕ, false, Float}
use Rattle.std.proofs.Math.Path.{refl}
use Rattle.std.specs.Float.Ieee as Ieee
use Rattle.std.specs.Float.{binary64}

abbrev pub add : Float → Float → Float
add x y = Ieee.add binary64 x y

abbrev pub sub : Float → Float → Float
sub x y = Ieee.sub binary64 x y

abbrev pub mul : Float → Float → Float
mul x y = Ieee.mul binary64 x y

abbrev pub div : Float → Float → Float
div x y = Ieee.div binary64 x y

abbrev pub lit : ℕ → Float
lit b = Ieee.of_bits binary64 b

-- n / d rounded once: `decimal 85 100` is 0.85
abbrev pub decimal : ℕ → ℕ → Float
decimal n d = Ieee.round binary64 false n d

pub zero_is : lit 0 ≡ decimal 0 1
zero_is = unfold Ieee.of_bits Ieee.round in refl

abbrev pub one : Float
one = lit 0x3ff0_0000_0000_0000

pub one-is : one ≡ decimal 1 1
one-is = unfold Ieee.of_bits Ieee.round in refl

abbrev pub thousand : Float
thousand = lit 0x408f_4000_0000_0000

pub thousand-is : thousand ≡ decimal 1000 1
thousand-is = unfold Ieee.of_bits Ieee.round in refl
