-- Two general facts of `le`: past a list's end it is 0, and bytes joined by shifts are it.
use mathlib.Core.Path.{◌≡◌, refl}
use Prim.Native.Nat.{ℕ, zero, suc, ◌+◌, ◌*◌, ◌%◌, ◌^◌, ◌≤◌, ◌<◌}
use mathlib.Core.List.{List, [], ◌∷◌}
use native.Mathlib.Omega.{arith}
use native.Mathlib.Nat.{le_of_suc-le-suc, not-suc-le-zero, add-zero, add-suc, suc-add, mul-suc, mul_assoc}
use lib.Bits.{bit_or, or_shifted_r}
use lib.ListN.{length, get_or}
use lib.Pow.{pow-add, shl_exact}
use mir.Syntax.{w8}
use mir.Val.{Fits}
use Rattle.le_bytes.specs.LeBytes.{le}

past : (xs : List ℕ) (i : ℕ) → length xs ≤ i → 0 ≡ get_or xs i 0
past [] i h = refl
past (x ∷ xs) zero h = absurd (not-suc-le-zero h)
past (x ∷ xs) (suc i) h = past xs i (le_of_suc-le-suc h)

-- past the end every byte is 0
pub le-past : (n : ℕ) (s : List ℕ) (at : ℕ) → length s ≤ at → 0 ≡ le n s at
unfolding le
le-past zero s at h = refl
le-past (suc n) s at h = omega (arith, past s at h, le-past n s (suc at) (omega arith))

-- eight bits more
byte-up : (n : ℕ) → 2 ^ (8 * suc n) ≡ 2 ^ (8 * n) * 256
byte-up n = simp (mul-suc, pow-add)

-- n + 1 bytes in w bits, each shifted to its place
abbrev pub joined : ℕ → ℕ → List ℕ → ℕ → ℕ
joined w zero s at = get_or s at 0
joined w (suc n) s at = bit_or (joined w n s at) ((get_or s (at + suc n) 0 * 2 ^ (8 * suc n)) % 2 ^ w)

module _ (s : List ℕ) (bytes : (i : ℕ) → Fits w8 (get_or s i 0)) where
  le_below : (n at : ℕ) → le n s at < 2 ^ (8 * n)
  unfolding le
  le_below zero at = omega arith
  le_below (suc n) at = rw byte-up (omega (arith, bytes at, le_below n (suc at)))

  -- the last byte, above the bytes before it
  le-last : (n at : ℕ) → get_or s (at + n) 0 * 2 ^ (8 * n) + le n s at ≡ le (suc n) s at
  unfolding le
  le-last zero at = simp add-zero (omega arith)
  le-last (suc n) at = rw (byte-up, add-suc, ← suc-add, ← mul_assoc) (omega (arith, le-last n (suc at)))

  -- the byte after n bytes, shifted above them
  or-last : (w n at : ℕ) → 8 + 8 * n ≤ w → bit_or (le n s at) ((get_or s (at + n) 0 * 2 ^ (8 * n)) % 2 ^ w) ≡ le (suc n) s at
  or-last w n at h = rw (shl_exact 8 (8 * n) w (bytes (at + n)).fits h, or_shifted_r (get_or s (at + n) 0) (8 * n) (le n s at) (le_below n at)) (le-last n at)

  pub joined-le : (w n at : ℕ) → 8 + 8 * n ≤ w → joined w n s at ≡ le (suc n) s at
  unfolding le
  joined-le w zero at h = omega arith
  joined-le w (suc n) at h = rw (joined-le w n at (omega arith)) (or-last w (suc n) at h)
