-- Numbers in bytes, the least significant first.
use Rattle.std.specs.Prelude.{ℕ, zero, suc, ◌+◌, ◌*◌, List, get_or}

-- the number that the n bytes of s from place at on stand for
unfoldable pub le : ℕ → List ℕ → ℕ → ℕ
le zero s at = 0
le (suc n) s at = get_or s at 0 + 256 * le n s (suc at)
