-- What the proofs cite of a number's digits, of a line's fields and of its room.
use mathlib.Core.Path.{◌≡◌, ◌∙◌}
use Prim.Native.Nat.{ℕ, suc, ◌+◌, ◌/◌, ◌%◌, ◌*◌, ◌^◌, ◌≤◌, ◌<◌}
use mathlib.Core.List.{List, [], ◌∷◌, ◌++◌}
use native.Mathlib.Nat.{add-zero, add-suc, suc-add, pow-suc}
use native.Mathlib.Omega.{arith}
use lib.ListN.{length, set, length-append}
use lib.Seq.{sets, set_comm, length-sets}
use Rattle.std.specs.Prelude.{Option, Some, None, IfSome, IfNone}
use Rattle.std.specs.Option.{unwrap_or}
use Rattle.listing_line.specs.ListingLine.{digit, digits, width, field, put_line, place_after, Wrote}
use Rattle.listing_line.specs.Laws.{length_digits, width-le, width-gt, width-pos, length-line, length-number, then, sets-append, put-room, put-no-room}

-- the last byte of a text may be written first
sets_last : (xs l : List ℕ) (at x : ℕ) → sets l at (xs ++ (x ∷ [])) ≡ sets (set l (at + length xs) x) at xs
sets_last [] l at x = rw add-zero
sets_last (y ∷ xs) l at x =
    sets_last xs (set l at y) (suc at) x
    ∙ rw (suc-add, add-suc, set_comm l at (suc (at + length xs)) y x (λ e. omega arith))

-- a turn of `put_digits`: the last digit is written, and those before it are left
pub digits-turn :
    (out : List ℕ) (at b k n : ℕ)
    → sets out at (digits b (suc k) n) ≡ sets (set out (at + k) (digit (n % b))) at (digits b k (n / b))
unfolding digits
digits-turn out at b k n = sets_last (digits b k (n / b)) out at (digit (n % b)) ∙ rw length_digits

-- all digits are written, and the byte that ends them
pub digits-end :
    (out : List ℕ) (at b k n end : ℕ)
    → Wrote out at (field (digits b k n) end) (set (sets out at (digits b k n)) (at + k) end) (at + k + 1)
digits-end out at b k n end = record {
  bytes = rw (← sets-append, length_digits);
  after = simp (length-append, length_digits) (omega arith);
}

-- after a text there is room for what had room after it
pub room-left : {old text new : List ℕ} {at next : ℕ} → (more : ℕ) → Wrote old at text new next → at + length text + more < length old → next + more < length new
room-left {old} {text} {new} {at} more w h =
    let n : length new ≡ length old = rw (w.bytes, length-sets) in
    omega (arith, w.after, h, n)

-- ---- how many digits a number takes
-- one more than its logarithm; 0 has none
pub width_by_log : (log : Option ℕ) (n : ℕ) → IfNone log (n ≡ 0) → IfSome log (λ d. 10 ^ d ≤ n) → IfSome log (λ d. n < 10 * 10 ^ d) → IfSome log (λ d. d < 20)
    → 1 + unwrap_or log 0 ≡ width n
unfolding width
width_by_log None n h i j k = rw h
width_by_log (Some d) n h i j k =
    let next : n < 10 ^ suc d = rw pow-suc (omega arith) in
    omega (arith, width-gt d n (omega arith) i, width-le d n next)

-- ---- a line
-- the answer with room, and without
pub with-room : {old new text : List ℕ} {at next : ℕ} → at + length text ≤ length old → Wrote old at text new next → new ≡ put_line old at text
with-room {old} {text = text} {at} h w = let v = put-room old at text h in cc

pub with-room-place : {old new text : List ℕ} {at next : ℕ} → at + length text ≤ length old → Wrote old at text new next → next ≡ place_after old at text
with-room-place {old} {text = text} {at} h w = let v = put-room old at text h in cc

pub without-room : (out : List ℕ) (at : ℕ) (text : List ℕ) → length out < at + length text → out ≡ put_line out at text
without-room out at text h = let v = put-no-room out at text h in cc

pub without-room-place : (out : List ℕ) (at : ℕ) (text : List ℕ) → length out < at + length text → at ≡ place_after out at text
without-room-place out at text h = let v = put-no-room out at text h in cc

pub ruleset lengths = (length-line, length-number, length_digits, then)
