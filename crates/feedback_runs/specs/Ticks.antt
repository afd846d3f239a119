-- The sum of the deltas modulo 2 ^ 32 is their sum: 65,535 deltas of 16 bits stay within 32 bits.
use Rattle.std.specs.Prelude.{◌≡◌, refl, ℕ, suc, ◌+◌, ◌*◌, ◌-◌, ◌%◌, ◌^◌, ◌≤◌, ◌<◌, Bool, true, false, List, eqb, ltb, pos, negsuc, ◌+ℤ◌, get_or, drop}
use Rattle.std.proofs.Common.{sym, ap, ◌∙◌, arith, add-zero, get_or-drop, lt-ltb, le-ltb, ltb-true, ltb-false}
use Rattle.std.proofs.Math.IntN.{sub_ℕ}
use Rattle.status_chunk.specs.Chunk.{small_delta, large_delta}
use Rattle.twcc.specs.Feedback.{read_u16, signed, recv_delta}
use Rattle.twcc.specs.Numbers.{sign_extend, sub-above, sub-below, signed_low}
use Rattle.feedback_reader.specs.Reader.{delta_bits}

-- by an order
pub split : {A : Type 0} (a b : ℕ) → (a < b → A) → (b ≤ a → A) → A
split {A} a b f g = go (ltb a b) refl
  where
    go : (t : Bool) → ltb a b ≡ t → A
    go true e = f (ltb-true a b e)
    go false e = g (ltb-false a b e)

-- ---- differences
pub sub_same : (a b c d : ℕ) → a + d ≡ c + b → sub_ℕ a b ≡ sub_ℕ c d
sub_same a b c d e =
    split a b
    (λ l. sub-below a b l ∙ ap negsuc (omega arith) ∙ sym (sub-below c d (omega arith)))
    (λ l. sub-above a b l ∙ ap pos (omega arith) ∙ sym (sub-above c d (omega arith)))

pub sub-add : (a b c d : ℕ) → sub_ℕ a b +ℤ sub_ℕ c d ≡ sub_ℕ (a + c) (b + d)
sub-add a b c d =
    split a b
    (λ l.
    split c d
    (λ k. rw (sub-below a b l, sub-below c d k) (ap negsuc (omega arith) ∙ sym (sub-below (a + c) (b + d) (omega arith))))
    (λ k. rw (sub-below a b l, sub-above c d k) (sub_same (c - d) (suc (b - suc a)) (a + c) (b + d) (omega arith))))
    (λ l.
    split c d
    (λ k. rw (sub-above a b l, sub-below c d k) (sub_same (a - b) (suc (d - suc c)) (a + c) (b + d) (omega arith)))
    (λ k. rw (sub-above a b l, sub-above c d k) (ap pos (omega arith) ∙ sym (sub-above (a + c) (b + d) (omega arith)))))

-- ---- signed numbers as differences
below_half : (half n : ℕ) → n < half → signed half n ≡ sub_ℕ n 0
unfolding signed
below_half half n h = rw (lt-ltb n half h)

from-half : (half n : ℕ) → half ≤ n → signed half n ≡ sub_ℕ n (2 * half)
unfolding signed
from-half half n h = rw (le-ltb n half h)

pub extend-low : (half n : ℕ) → n < half → sign_extend half n ≡ n
unfolding sign_extend
extend-low half n h = rw (lt-ltb n half h)

pub extend-high : (half n : ℕ) → half ≤ n → sign_extend half n ≡ n + (2 ^ 32 - 2 * half)
unfolding sign_extend
extend-high half n h = rw (le-ltb n half h)

-- ---- sums
-- bits of a sum of so many deltas of 16 bits
pub record SumOf (count bits : ℕ) : Type 0 where
  pub fits : bits < 2 ^ 32
  pub high : bits < 2 ^ 31 → bits ≤ 32768 * count
  pub low : 2 ^ 31 ≤ bits → 2 ^ 32 ≤ bits + 32768 * count

module _ (count bits n : ℕ) (few : count < 65535) (h : SumOf count bits) (small : n < 65536) where
  abbrev sum : ℕ
  sum = (bits + sign_extend 0x8000 n) % 2 ^ 32

  pub sum_of : SumOf (count + 1) sum
  sum_of =
      split n 0x8000
      (λ l. rw (extend-low 0x8000 n l) (split bits (2 ^ 31)
      (λ k. let b = h.high k in record { fits = omega arith; high = λ j. omega arith; low = λ j. omega arith })
      (λ k. let b = h.low k in record { fits = omega arith; high = λ j. omega arith; low = λ j. omega arith })))
      (λ l. rw (extend-high 0x8000 n l) (split bits (2 ^ 31)
      (λ k. let b = h.high k in record { fits = omega arith; high = λ j. omega arith; low = λ j. omega arith })
      (λ k. let b = h.low k in record { fits = omega arith; high = λ j. omega arith; low = λ j. omega arith })))

  joined :
      (x y z : ℕ) → signed 0x8000_0000 sum ≡ sub_ℕ sum z → signed 0x8000_0000 bits ≡ sub_ℕ bits x → signed 0x8000 n ≡ sub_ℕ n y → sum + (x + y) ≡ bits + n + z →
      signed 0x8000_0000 sum ≡ signed 0x8000_0000 bits +ℤ signed 0x8000 n
  joined x y z p q r e = rw (p, q, r) (sub_same sum z (bits + n) (x + y) e ∙ sym (sub-add bits x n y))

  pub sum_is : signed 0x8000_0000 sum ≡ signed 0x8000_0000 bits +ℤ signed 0x8000 n
  sum_is =
      split n 0x8000
      (λ l. let e = extend-low 0x8000 n l in
      split bits (2 ^ 31)
      (λ k. let b = h.high k in joined 0 0 0 (below_half _ _ (omega arith)) (below_half _ _ k) (below_half _ _ l) (omega arith))
      (λ k. let b = h.low k in
      split sum (2 ^ 31)
      (λ j. joined (2 ^ 32) 0 0 (below_half _ _ j) (from-half _ _ k) (below_half _ _ l) (omega arith))
      (λ j. joined (2 ^ 32) 0 (2 ^ 32) (from-half _ _ j) (from-half _ _ k) (below_half _ _ l) (omega arith))))
      (λ l. let e = extend-high 0x8000 n l in
      split bits (2 ^ 31)
      (λ k. let b = h.high k in
      split sum (2 ^ 31)
      (λ j. joined 0 65536 0 (below_half _ _ j) (below_half _ _ k) (from-half _ _ l) (omega arith))
      (λ j. joined 0 65536 (2 ^ 32) (from-half _ _ j) (below_half _ _ k) (from-half _ _ l) (omega arith)))
      (λ k. let b = h.low k in joined (2 ^ 32) 65536 (2 ^ 32) (from-half _ _ (omega arith)) (from-half _ _ k) (from-half _ _ l) (omega arith)))

-- ---- the delta of a symbol
-- as a number of 16 bits
pub record Delta16 (symbol : ℕ) (message : List ℕ) (at : ℕ) : Type 0 where
  pub value : ℕ
  pub small : value < 65536
  pub bits : delta_bits symbol message at ≡ sign_extend 0x8000 value
  pub number : recv_delta symbol (drop at message) ≡ signed 0x8000 value

pub delta16 : (symbol : ℕ) (message : List ℕ) (at : ℕ) → ((i : ℕ) → get_or message i 0 < 256) → Delta16 symbol message at
unfolding delta_bits recv_delta
delta16 symbol message at bytes = two (eqb symbol large_delta) refl
  where
    one : (t : Bool) → eqb symbol large_delta ≡ false → eqb symbol small_delta ≡ t → Delta16 symbol message at
    one true d e =
        record {
          value = get_or message at 0;
          small = omega (arith, bytes at);
          bits = rw (d, e, extend-low 0x8000 (get_or message at 0) (omega (arith, bytes at)));
          number = rw (d, e, get_or-drop, add-zero, signed_low 0x8000 (get_or message at 0) (omega (arith, bytes at)));
        }
    one false d e = record { value = 0; small = omega arith; bits = rw (d, e, extend-low 0x8000 0 (omega arith)); number = rw (d, e, signed_low 0x8000 0 (omega arith)) }

    two : (t : Bool) → eqb symbol large_delta ≡ t → Delta16 symbol message at
    two true e = record { value = read_u16 message at; small = omega (arith, bytes at, bytes (at + 1)); bits = rw e; number = rw (e, get_or-drop, get_or-drop, add-zero) }
    two false e = one (eqb symbol small_delta) e refl
