-- The lines of document 01's example, computed.
use Rattle.std.specs.Prelude.{◌≡◌, refl, List, [] as []ᴸ, ◌∷◌ as ◌∷ᴸ◌, ℕ}
use Prim.Native.Char.{code}
use Prim.Native.String.{String, [], ◌∷◌}
use Rattle.listing_line.specs.ListingLine.{line}

-- the bytes of an ASCII text
unfoldable pub bytes : String → List ℕ
bytes [] = []ᴸ
bytes (c ∷ text) = code c ∷ᴸ bytes text

pub record-1 : line (record { record_number = 1; refusal = 0; letter = code "N"; bits = 0x412e848000000000; next_timeout = 1025000000 }) ≡ bytes "1 0 N 412e848000000000 1025000000\n"
unfolding line bytes
record-1 = refl

pub record-3 : line (record { record_number = 3; refusal = 0; letter = code "N"; bits = 0x413e848000000000; next_timeout = 1035000000 }) ≡ bytes "3 0 N 413e848000000000 1035000000\n"
unfolding line bytes
record-3 = refl
