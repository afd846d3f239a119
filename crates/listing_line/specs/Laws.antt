-- Laws of a line and of its writing: how long it is, which bytes it has, what it leaves in the buffer.
use Rattle.std.specs.Prelude.{◌≡◌, Bool, true, false, cond, ltb, set}
use Rattle.std.proofs.Math.Path.{refl}
use Rattle.std.proofs.Common.{◌∙◌, ⊎_elim, add-zero, add-suc, suc-add, pow-suc, arith, length-append, le-leb, lt-ltb, le-ltb, ltb-true, ltb-false}
use Prim.Native.Nat.{ℕ, zero, suc, ◌+◌, ◌*◌, ◌/◌, ◌%◌, ◌^◌, ◌≤◌, ◌<◌}
use mathlib.Core.List.Memᴰ
use mathlib.Core.List.{List, [], ◌∷◌, ◌++◌, Memᴰ}
use Rattle.std.proofs.Math.Nat.{one-le-pow, mod-lt}
use Rattle.std.proofs.Math.ListN.{length}
use Rattle.std.proofs.lemmas.List.Edits.{sets}
use Rattle.std.proofs.lemmas.Bool.{lt-leb}
use Rattle.listing_line.specs.declared.Line.{Line}
use Rattle.listing_line.specs.ListingLine.{digit, digits, width_by, width, decimal, hexadecimal, space, line_feed, field, line, number_line, put_line, place_after, Wrote}

-- ---- the length of a line
pub length_digits : (b k n : ℕ) → length (digits b k n) ≡ k
unfolding digits
length_digits b zero n = refl
length_digits b (suc k) n = simp (length-append, length_digits b k (n / b)) (omega arith)

one_more : (t : Bool) {x d : ℕ} → x ≤ suc d → cond t 1 (suc x) ≤ suc (suc d)
one_more true h = omega arith
one_more false h = omega arith

width_by-le : (d f n : ℕ) → n < 10 ^ suc d → width_by f n ≤ suc d
unfolding width_by
width_by-le d zero n h = omega arith
width_by-le zero (suc f) n h = simp (lt-ltb n 10 h) (omega arith)
width_by-le (suc d) (suc f) n h =
    let p : n < 10 ^ suc d * 10 = rw pow-suc at h in
    one_more (ltb n 10) (width_by-le d f (n / 10) (omega arith))

-- a number below 10 ^ (d + 1) takes at most d + 1 digits
pub width-le : (d n : ℕ) → n < 10 ^ suc d → width n ≤ suc d
unfolding width
width-le d n h = width_by-le d 19 n h

one-or-more : (t : Bool) (x : ℕ) → 0 < cond t 1 (suc x)
one-or-more true x = omega arith
one-or-more false x = omega arith

width_by-pos : (f n : ℕ) → 0 < width_by f n
unfolding width_by
width_by-pos zero n = omega arith
width_by-pos (suc f) n = one-or-more (ltb n 10) _

width_by-gt : (d f n : ℕ) → d ≤ f → 10 ^ d ≤ n → d < width_by f n
unfolding width_by
width_by-gt zero f n i h = width_by-pos f n
width_by-gt (suc d) zero n i h = absurd (omega arith)
width_by-gt (suc d) (suc f) n i h =
    let p : 10 ^ d * 10 ≤ n = rw pow-suc at h in
    simp (le-ltb n 10 (omega (arith, one-le-pow d 10 (omega arith)))) (omega (arith, width_by-gt d f (n / 10) (omega arith) (omega arith)))

-- a number takes at least one digit
pub width-pos : (n : ℕ) → 0 < width n
unfolding width
width-pos n = width_by-pos 19 n

-- a number of 10 ^ d or more takes more than d digits
pub width-gt : (d n : ℕ) → d ≤ 19 → 10 ^ d ≤ n → d < width n
unfolding width
width-gt d n i h = width_by-gt d 19 n i h

pub length-number : (n : ℕ) → length (number_line n) ≡ width n + 1
length-number n = simp (length-append, length_digits) (omega arith)

pub length-line : (l : Line) → length (line l) ≡ width l.record_number + width l.refusal + width l.next_timeout + 22
unfolding line
length-line l = simp (length-append, length_digits) (omega arith)

-- ---- the bytes of a line: 0 to 9, a to f, the letter, a space, a line feed
pub data Printed (letter x : ℕ) : Type 0 where
  zero-to-nine : 48 ≤ x → x ≤ 57 → Printed letter x
  a-to-f : 97 ≤ x → x ≤ 102 → Printed letter x
  the-letter : x ≡ letter → Printed letter x
  a-space : x ≡ space → Printed letter x
  a-line-feed : x ≡ line_feed → Printed letter x

in_either : {P : Type 0} {x : ℕ} (xs : List ℕ) {ys : List ℕ} → (Memᴰ x xs → P) → (Memᴰ x ys → P) → Memᴰ x (xs ++ ys) → P
in_either xs f g m = ⊎_elim f g (Memᴰ.append_cases xs m)

module _ {letter x : ℕ} where
  digit-printed : (d : ℕ) → d < 16 → x ≡ digit d → Printed letter x
  digit-printed d h e = go (ltb d 10) (ltb-true d 10) (ltb-false d 10) e
    where
      go : (t : Bool) → (t ≡ true → d < 10) → (t ≡ false → 10 ≤ d) → x ≡ cond t (48 + d) (87 + d) → Printed letter x
      go true f g e = let k = f refl in zero-to-nine (omega arith) (omega arith)
      go false f g e = let k = g refl in a-to-f (omega arith) (omega arith)

  digits-printed : (b k n : ℕ) → 0 < b → b ≤ 16 → Memᴰ x (digits b k n) → Printed letter x
  unfolding digits
  digits-printed b zero n h i m = absurd (Memᴰ.not-nil m)
  digits-printed b (suc k) n h i m =
      in_either
      (digits b k (n / b))
      (digits-printed b k (n / b) h i)
      (λ w. digit-printed (n % b) (omega (arith, mod-lt n {m = b} h)) (Memᴰ.eq_of_singleton w))
      m

pub line-printed : (l : Line) (x : ℕ) → Memᴰ x (line l) → Printed l.letter x
unfolding line
line-printed l x =
    in_either _
    (in_either _
    (in_either _
    (in_either _
    (ended (decimal l.record_number) (digits-printed 10 (width l.record_number) l.record_number (omega arith) (omega arith)) a-space)
    (ended (decimal l.refusal) (digits-printed 10 (width l.refusal) l.refusal (omega arith) (omega arith)) a-space))
    (ended (l.letter ∷ []) (λ m. the-letter (Memᴰ.eq_of_singleton m)) a-space))
    (ended (hexadecimal l.bits) (digits-printed 16 16 l.bits (omega arith) (omega arith)) a-space))
    (ended (decimal l.next_timeout) (digits-printed 10 (width l.next_timeout) l.next_timeout (omega arith) (omega arith)) a-line-feed)
  where
    ended : (text : List ℕ) {end : ℕ} → (Memᴰ x text → Printed l.letter x) → (x ≡ end → Printed l.letter x) → Memᴰ x (field text end) → Printed l.letter x
    ended text f g = in_either text f (λ m. g (Memᴰ.eq_of_singleton m))

-- ---- the buffer
-- two runs of stores, one after the other, are one
pub sets-append : (xs ys l : List ℕ) (at : ℕ) → sets (sets l at xs) (at + length xs) ys ≡ sets l at (xs ++ ys)
sets-append [] ys l at = rw add-zero
sets-append (x ∷ xs) ys l at = rw (add-suc, ← suc-add) (sets-append xs ys (set l at x) (suc at))

-- two texts that were written one after the other are one
pub then : {old text mid more new : List ℕ} {at place next : ℕ} → Wrote old at text mid place → Wrote mid place more new next → Wrote old at (text ++ more) new next
then {text = text} {more = more} w v = record {
  bytes = v.bytes ∙ simp (w.bytes, w.after, sets-append);
  after = omega (arith, length-append text more);
}

module _ (out : List ℕ) (at : ℕ) (text : List ℕ) where
  -- with room, the text is written, and the bytes before and after it are as they were
  pub put-room : at + length text ≤ length out → Wrote out at text (put_line out at text) (place_after out at text)
  unfolding put_line place_after
  put-room h = rw (le-leb (at + length text) (length out) h) (record { bytes = refl; after = refl })

  -- without, nothing is
  pub put-no-room : length out < at + length text → (put_line out at text ≡ out) × (place_after out at text ≡ at)
  unfolding put_line place_after
  put-no-room h = rw (lt-leb (at + length text) (length out) h) (refl, refl)
