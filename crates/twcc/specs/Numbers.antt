-- Signed numbers: two's complement in 32 bits, and laws.
use Rattle.std.specs.Prelude.{◌≡◌, refl, ℕ, zero, suc, ◌-ℤ◌, ◌+◌, ◌*◌, ◌-◌, ◌^◌, ◌≤◌, ◌<◌, Bool, true, false, cond, ltb, ℤ, pos, negsuc, List, get_or}
use Rattle.std.proofs.Common.{sym, ap, ◌∙◌, arith, lt-ltb, le-ltb, ltb-true, ltb-false, to_z-of_z}
use Rattle.std.proofs.Math.IntN.{sub_ℕ}
use borrow.Author.Rules.{sfits_of}
use Rattle.std.specs.Int.{w16, w32, cast_signed, cast_unsigned, int_shr}
use Rattle.twcc.specs.Feedback.{signed, read_header, read_u16}

-- two's complement, with `half` the top bit alone, in 32 bits
unfoldable pub sign_extend : ℕ → ℕ → ℕ
sign_extend half bits = cond (ltb bits half) bits (bits + (2 ^ 32 - 2 * half))

pub sub-above : (a b : ℕ) → b ≤ a → sub_ℕ a b ≡ pos (a - b)
sub-above a b h = simp (le-ltb a b h)

pub sub-below : (a b : ℕ) → a < b → sub_ℕ a b ≡ negsuc (b - suc a)
sub-below a b h = simp (lt-ltb a b h)

pub signed_low : (half bits : ℕ) → bits < half → signed half bits ≡ pos bits
unfolding signed
signed_low half bits h = rw (lt-ltb bits half h) (sub-above bits 0 (omega arith) ∙ ap pos (omega arith))

pub signed_high : (half bits : ℕ) → half ≤ bits → bits < 2 * half → signed half bits ≡ negsuc (2 * half - suc bits)
unfolding signed
signed_high half bits h l = rw (le-ltb bits half h) (sub-below bits (2 * half) l)

pub minus : (n : ℕ) → negsuc 0 -ℤ pos n ≡ negsuc n
minus zero = refl
minus (suc n) = ap negsuc (omega arith)

-- a number in 32 bits is the same number
pub signed-extend : (half bits : ℕ) → bits < 2 * half → half ≤ 2 ^ 31 → signed 0x8000_0000 (sign_extend half bits) ≡ signed half bits
unfolding sign_extend
signed-extend half bits h l = go (ltb bits half) refl
  where
    go : (t : Bool) → ltb bits half ≡ t → signed 0x8000_0000 (cond t bits (bits + (2 ^ 32 - 2 * half))) ≡ signed half bits
    go true e =
        let k : bits < half = ltb-true bits half e in
        signed_low 0x8000_0000 bits (omega arith) ∙ sym (signed_low half bits k)
    go false e =
        let k : half ≤ bits = ltb-false bits half e in
        signed_high 0x8000_0000 (bits + (2 ^ 32 - 2 * half)) (omega arith) (omega arith) ∙ ap negsuc (omega arith) ∙ sym (signed_high half bits k h)

-- ---- what std's conversions give
-- by the sign bit
split : {A : Type 0} (bits half : ℕ) → (bits < half → A) → (half ≤ bits → A) → A
split {A} bits half f g = go (ltb bits half) refl
  where
    go : (t : Bool) → ltb bits half ≡ t → A
    go true e = f (ltb-true bits half e)
    go false e = g (ltb-false bits half e)

-- 32 bits as a signed number
pub cast-signed : (bits : ℕ) → bits < 2 ^ 32 → cast_signed w32 bits ≡ signed 0x8000_0000 bits
cast-signed bits h =
    split bits 0x8000_0000
    (λ l. sym (signed_low 0x8000_0000 bits l ∙ sym (simp (lt-ltb bits 0x8000_0000 l))))
    (λ l. sym (signed_high 0x8000_0000 bits l (omega arith) ∙ sym (simp (le-ltb bits 0x8000_0000 l))))

-- 16 bits as a signed number, in 32 bits
pub cast-extend : (bits : ℕ) → bits < 2 ^ 16 → cast_unsigned w32 (cast_signed w16 bits) ≡ sign_extend 0x8000 bits
unfolding sign_extend
cast-extend bits h = split bits 0x8000 (λ l. simp (lt-ltb bits 0x8000 l)) (λ l. simp (le-ltb bits 0x8000 l) (omega arith))

-- 24 bits as a signed number
pub shift-signed : (bits : ℕ) → bits < 2 ^ 24 → int_shr (cast_signed w32 (bits * 256)) 8 ≡ signed 0x80_0000 bits
shift-signed bits h =
    split bits 0x80_0000
    (λ l. let k : bits * 256 < 0x8000_0000 = omega arith in simp (lt-ltb (bits * 256) 0x8000_0000 k) (ap pos (omega arith) ∙ sym (signed_low 0x80_0000 bits l)))
    (λ l. let k : 0x8000_0000 ≤ bits * 256 = omega arith in simp (le-ltb (bits * 256) 0x8000_0000 k) (ap negsuc (omega arith) ∙ sym (signed_high 0x80_0000 bits l (omega arith))))

-- a header by its four numbers
pub header_is :
    (message : List ℕ) (b n f : ℕ) (r : ℤ) → b ≡ read_u16 message 0 → n ≡ read_u16 message 2 → r ≡ (read_header message).reference_time → f ≡ get_or message 7 0 →
    record { base_seq = b; status_count = n; reference_time = r; feedback_count = f } ≡ read_header message
header_is message b n f r p q s t = rw (p, q, s, t)

-- what functions go by that cast a number
pub ruleset casts = (to_z-of_z, sfits_of, cast-signed, cast-extend)
