-- Laws of a chunk's symbols.
use Rattle.std.specs.Prelude.{◌≡◌, Bool, true, false, ◌&&◌, ◌||◌, List, [], ◌∷◌, ◌++◌, eqb, ltb, length, take}
use Rattle.std.proofs.Math.Path.{refl, sym, ap}
use Rattle.std.proofs.Common.{◌∙◌, append-nil, zero-mul, suc-mul, add-one}
use Prim.Native.Nat.{ℕ, zero, suc, ◌+◌, ◌*◌, ◌-◌, ◌/◌, ◌%◌, ◌^◌, ◌≤◌, ◌<◌, min}
use native.Mathlib.Omega.{arith}
use Rattle.std.specs.Int.Count.{ones, ones_step}
use Rattle.std.proofs.Math.Seq.{take-nil}
use Rattle.std.proofs.Math.Pow.{field, shr-shr, mod-mod-pow}
use borrow.Author.Tests.{lt-ltb, le-ltb, ltb-true, ltb-false, eq-eqb, ne_eqb}
use Rattle.bool_laws.specs.Bools.{cases}
use Rattle.status_chunk.specs.declared.Symbol.{Symbol}
use Rattle.status_chunk.specs.declared.Symbol.TheVariants.{NotReceived, SmallDelta, LargeDelta, Reserved}
use Rattle.status_chunk.specs.Chunk.{status_vector, two_bit_vector, not_received, reserved, number, vector_symbol, symbol_count, symbol, symbols_from, symbols_of, delta_bytes, any_reserved}

-- ---- how many symbols
pub count-one-bit : (chunk : ℕ) → status_vector ≤ chunk → chunk < two_bit_vector → symbol_count chunk ≡ 14
unfolding symbol_count
count-one-bit chunk h l = simp (le-ltb _ _ h, lt-ltb _ _ l)

pub count-two-bit : (chunk : ℕ) → status_vector ≤ chunk → two_bit_vector ≤ chunk → symbol_count chunk ≡ 7
unfolding symbol_count
count-two-bit chunk h l = simp (le-ltb _ _ h, le-ltb _ _ l)

pub count_small : (chunk : ℕ) → symbol_count chunk < 8192
unfolding symbol_count
count_small chunk =
    cases (λ n. n < 8192) (ltb chunk status_vector) (λ e. omega arith) (λ e. cases (λ n. n < 8192) (ltb chunk two_bit_vector) (λ f. omega arith) (λ f. omega arith))

-- ---- the symbols
pub symbols-length : (chunk i n : ℕ) → length (symbols_from chunk i n) ≡ n
unfolding symbols_from
symbols-length chunk i zero = refl
symbols-length chunk i (suc n) = ap suc (symbols-length chunk (suc i) n)

-- a symbol has two bits
pub symbol-small : (chunk i : ℕ) → chunk < 2 ^ 16 → symbol chunk i ≤ 3
unfolding symbol
symbol-small chunk i h =
    cases (λ s. s ≤ 3) (ltb chunk status_vector) (λ e. omega (arith, ltb-true chunk status_vector e))
    (λ e. cases (λ s. s ≤ 3) (ltb chunk two_bit_vector) (λ f. omega arith) (λ f. omega arith))

-- the next symbol, and those after it
pub symbols-turn : (chunk i n : ℕ) → i < n → symbols_from chunk i (n - i) ≡ symbol chunk i ∷ symbols_from chunk (i + 1) (n - (i + 1))
unfolding symbols_from
symbols-turn chunk i n h =
    let e : n - i ≡ suc (n - (i + 1)) = omega arith in
    rw (e, add-one)

pub symbols-end : (chunk i n : ℕ) → n ≤ i → symbols_from chunk i (n - i) ≡ []
unfolding symbols_from
symbols-end chunk i n h =
    let e : n - i ≡ 0 = omega arith in
    rw e

-- the first n symbols, those of a chunk first
pub take_split : (chunk i k n : ℕ) (after : List ℕ) → take n (symbols_from chunk i k ++ after) ≡ symbols_from chunk i (min k n) ++ take (n - min k n) after
unfolding symbols_from
take_split chunk i zero n after =
    let e : min 0 n ≡ 0 = omega arith in
    let f : n - 0 ≡ n = omega arith in
    rw (e, f)
take_split chunk i (suc k) zero after =
    let e : min (suc k) 0 ≡ 0 = omega arith in
    rw e
take_split chunk i (suc k) (suc n) after =
    let e : min (suc k) (suc n) ≡ suc (min k n) = omega arith in
    let f : suc n - suc (min k n) ≡ n - min k n = omega arith in
    rw (e, f) (ap (λ (l : List ℕ). symbol chunk i ∷ l) (take_split chunk (suc i) k n after))

pub take-from : (chunk i k n : ℕ) → take n (symbols_from chunk i k) ≡ symbols_from chunk i (min k n)
take-from chunk i k n = rw append-nil at (take_split chunk i k n []) ∙ rw (take-nil (n - min k n), append-nil)

-- those of n statuses that a chunk covers
pub take-symbols : (chunk n : ℕ) → take n (symbols_of chunk) ≡ symbols_from chunk 0 (min (symbol_count chunk) n)
take-symbols chunk n = take-from chunk 0 (symbol_count chunk) n

pub take-length : (chunk n : ℕ) → length (take n (symbols_of chunk)) ≡ min (symbol_count chunk) n
take-length chunk n = rw (take-symbols chunk n) (symbols-length chunk 0 (min (symbol_count chunk) n))

-- the number of a symbol that is none of one kind
pub received : (s : Symbol) → (s ≡ NotReceived → ⊥) → eqb (number s) not_received ≡ false
received NotReceived differs = absurd (differs refl)
received SmallDelta differs = refl
received LargeDelta differs = refl
received Reserved differs = refl

pub unreserved : (s : Symbol) → (s ≡ Reserved → ⊥) → eqb (number s) reserved ≡ false
unreserved NotReceived differs = refl
unreserved SmallDelta differs = refl
unreserved LargeDelta differs = refl
unreserved Reserved differs = absurd (differs refl)

-- ---- lists of symbols
or-assoc : (x y z : Bool) → x || (y || z) ≡ (x || y) || z
or-assoc true y z = refl
or-assoc false y z = refl

pub any_append : (a b : List ℕ) → any_reserved (a ++ b) ≡ any_reserved a || any_reserved b
unfolding any_reserved
any_append [] b = refl
any_append (s ∷ a) b = rw (any_append a b) (or-assoc (eqb s 3) (any_reserved a) (any_reserved b))

pub bytes-append : (a b : List ℕ) → delta_bytes (a ++ b) ≡ delta_bytes a + delta_bytes b
unfolding delta_bytes
bytes-append [] b = omega arith
bytes-append (s ∷ a) b = omega (arith, bytes-append a b)

-- ---- the bytes of their deltas
-- the symbol behind n others
last-bytes : (chunk i n : ℕ) → delta_bytes (symbols_from chunk i (suc n)) ≡ symbol chunk (i + n) + delta_bytes (symbols_from chunk i n)
unfolding delta_bytes symbols_from
last-bytes chunk i zero =
    let e : i + 0 ≡ i = omega arith in
    rw e
last-bytes chunk i (suc n) =
    let e : i + suc n ≡ suc i + n = omega arith in
    rw e (omega (arith, last-bytes chunk (suc i) n))

-- n symbols of which i are read, from the last on: one more
pub bytes-turn :
    (chunk n i bytes whole : ℕ) → i < n → bytes + delta_bytes (symbols_from chunk 0 (n - i)) ≡ whole →
    (bytes + symbol chunk (n - (i + 1))) + delta_bytes (symbols_from chunk 0 (n - (i + 1))) ≡ whole
bytes-turn chunk n i bytes whole h e =
    let k : n - i ≡ suc (n - (i + 1)) = omega arith in
    let z : 0 + (n - (i + 1)) ≡ n - (i + 1) = omega arith in
    omega (arith, rw k at e, rw z at (last-bytes chunk 0 (n - (i + 1))))

pub delta-bytes-turn : (chunk i n bytes whole : ℕ) → i < n → bytes + delta_bytes (symbols_from chunk i (n - i)) ≡ whole → (bytes + symbol chunk i) + delta_bytes (symbols_from chunk (i + 1) (n - (i + 1))) ≡ whole
unfolding delta_bytes
delta-bytes-turn chunk i n bytes whole h e = omega (arith, rw (symbols-turn chunk i n h) at e)

pub delta-bytes-most : (chunk i n : ℕ) → chunk < 2 ^ 16 → delta_bytes (symbols_from chunk i n) ≤ 3 * n
unfolding delta_bytes symbols_from
delta-bytes-most chunk i zero h = omega arith
delta-bytes-most chunk i (suc n) h = omega (arith, symbol-small chunk i h, delta-bytes-most chunk (suc i) n h)

pub take-bytes-most : (chunk n : ℕ) → chunk < 2 ^ 16 → delta_bytes (take n (symbols_of chunk)) ≤ 3 * min (symbol_count chunk) n
take-bytes-most chunk n h = rw (take-symbols chunk n) (delta-bytes-most chunk 0 (min (symbol_count chunk) n) h)

-- ---- a reserved one among them
last-reserved : (chunk i n : ℕ) → any_reserved (symbols_from chunk i (suc n)) ≡ any_reserved (symbols_from chunk i n) || eqb (symbol chunk (i + n)) reserved
unfolding any_reserved symbols_from
last-reserved chunk i zero =
    let e : i + 0 ≡ i = omega arith in
    rw e (or-false (eqb (symbol chunk i) reserved))
  where
    or-false : (t : Bool) → t || false ≡ t
    or-false true = refl
    or-false false = refl
last-reserved chunk i (suc n) =
    let e : i + suc n ≡ suc i + n = omega arith in
    rw (e, last-reserved chunk (suc i) n) (or-assoc (eqb (symbol chunk i) reserved) _ _)

-- n symbols of which i are read, from the last on: one more, that is reserved or not
module _ (chunk n i : ℕ) (whole : Bool) (h : i < n) (e : any_reserved (symbols_from chunk 0 (n - i)) ≡ whole) where
  split-last : any_reserved (symbols_from chunk 0 (n - (i + 1))) || eqb (symbol chunk (n - (i + 1))) reserved ≡ whole
  split-last =
      let k : n - i ≡ suc (n - (i + 1)) = omega arith in
      let z : 0 + (n - (i + 1)) ≡ n - (i + 1) = omega arith in
      sym (rw z at (last-reserved chunk 0 (n - (i + 1)))) ∙ (rw k at e)

  pub last-reserved-met : symbol chunk (n - (i + 1)) ≡ reserved → true ≡ whole
  last-reserved-met s = or-true (any_reserved (symbols_from chunk 0 (n - (i + 1)))) ∙ (rw (eq-eqb _ _ s) at split-last)
    where
      or-true : (t : Bool) → true ≡ t || true
      or-true true = refl
      or-true false = refl

  pub last-reserved-turn : (symbol chunk (n - (i + 1)) ≡ reserved → ⊥) → any_reserved (symbols_from chunk 0 (n - (i + 1))) ≡ whole
  last-reserved-turn s = or-false (any_reserved (symbols_from chunk 0 (n - (i + 1)))) ∙ (rw (ne_eqb _ _ s) at split-last)
    where
      or-false : (t : Bool) → t ≡ t || false
      or-false true = refl
      or-false false = refl

pub reserved-met : (chunk i n : ℕ) (whole : Bool) → i < n → symbol chunk i ≡ reserved → any_reserved (symbols_from chunk i (n - i)) ≡ whole → true ≡ whole
unfolding any_reserved
reserved-met chunk i n whole h s e = (sym (rw (symbols-turn chunk i n h) (simp (eq-eqb _ _ s)))) ∙ e

pub reserved-turn : (chunk i n : ℕ) (whole : Bool) → i < n → (symbol chunk i ≡ reserved → ⊥) → any_reserved (symbols_from chunk i (n - i)) ≡ whole → any_reserved (symbols_from chunk (i + 1) (n - (i + 1))) ≡ whole
unfolding any_reserved
reserved-turn chunk i n whole h s e = (sym (rw (symbols-turn chunk i n h) (simp (ne_eqb _ _ s)))) ∙ e

-- ---- a run
pub run-symbol : (chunk i : ℕ) → chunk < status_vector → symbol chunk i ≡ chunk / 2 ^ 13
unfolding symbol
run-symbol chunk i h = rw (lt-ltb chunk status_vector h)

pub run-bytes : (chunk i n : ℕ) → chunk < status_vector → n * (chunk / 8192) ≡ delta_bytes (symbols_from chunk i n)
unfolding delta_bytes symbols_from
run-bytes chunk i zero h = zero-mul (chunk / 8192)
run-bytes chunk i (suc n) h = rw (run-symbol chunk i h, suc-mul, ← run-bytes chunk (suc i) n h) (omega arith)

pub run-reserved : (chunk i n : ℕ) → chunk < status_vector → ltb 0 n && eqb (chunk / 8192) reserved ≡ any_reserved (symbols_from chunk i n)
unfolding any_reserved symbols_from
run-reserved chunk i zero h = refl
run-reserved chunk i (suc n) h =
    rw (run-symbol chunk i h, ← run-reserved chunk (suc i) n h, lt-ltb 0 (suc n) (omega arith)) (go (eqb (chunk / 8192) reserved) (ltb 0 n))
  where
    go : (t u : Bool) → t ≡ t || u && t
    go true u = refl
    go false true = refl
    go false false = refl

-- ---- a vector of two-bit symbols
pub two-bit-symbol : (chunk i : ℕ) → two_bit_vector ≤ chunk → symbol chunk i ≡ vector_symbol 2 chunk i
unfolding symbol
two-bit-symbol chunk i h = rw (le-ltb chunk status_vector (omega arith), le-ltb chunk two_bit_vector h)

-- n of them of which i are read, from the last on: the bits that are left, those of the next lowest
abbrev pub rest_of : ℕ → ℕ → ℕ → ℕ
rest_of chunk n i = chunk % 2 ^ 14 / 2 ^ (14 - 2 * (n - i))

module _ (chunk n i : ℕ) (few : n ≤ 7) where
  pub rest-turn : rest_of chunk n i / 2 ^ 2 ≡ rest_of chunk n (i + 1)
  rest-turn = go (ltb i n) refl
    where
      go : (t : Bool) → ltb i n ≡ t → rest_of chunk n i / 2 ^ 2 ≡ rest_of chunk n (i + 1)
      go true t =
          let h = ltb-true i n t in
          let e : 14 - 2 * (n - i) + 2 ≡ 14 - 2 * (n - (i + 1)) = omega arith in
          shr-shr (chunk % 2 ^ 14) (14 - 2 * (n - i)) 2 ∙ ap (λ (k : ℕ). chunk % 2 ^ 14 / 2 ^ k) e
      go false t =
          let h = ltb-false i n t in
          let e : 14 - 2 * (n - i) ≡ 14 = omega arith in
          let f : 14 - 2 * (n - (i + 1)) ≡ 14 = omega arith in
          let z : chunk % 2 ^ 14 / 2 ^ 14 ≡ 0 = omega arith in
          rw (e, f, z)

  pub rest-none : n ≤ i → rest_of chunk n i ≡ 0
  rest-none h =
      let e : 14 - 2 * (n - i) ≡ 14 = omega arith in
      let z : chunk % 2 ^ 14 / 2 ^ 14 ≡ 0 = omega arith in
      rw (e, z)

  pub rest-symbol : i < n → two_bit_vector ≤ chunk → rest_of chunk n i % 4 ≡ symbol chunk (n - (i + 1))
  rest-symbol h v =
      let k : 2 * (n - i) + (14 - 2 * (n - i)) ≡ 14 = omega arith in
      let p : 2 * (n - i) ≡ 2 * (n - (i + 1)) + 2 = omega arith in
      let q : 14 - 2 * (n - i) ≡ 14 - 2 * (n - (i + 1) + 1) = omega arith in
      ap (λ (j : ℕ). chunk % 2 ^ j / 2 ^ (14 - 2 * (n - i)) % 4) (sym k)
      ∙ ap (λ (j : ℕ). j % 4) (field chunk (2 * (n - i)) (14 - 2 * (n - i)))
      ∙ ap (λ (j : ℕ). chunk / 2 ^ (14 - 2 * (n - i)) % 2 ^ j % 4) p
      ∙ mod-mod-pow (chunk / 2 ^ (14 - 2 * (n - i))) (2 * (n - (i + 1))) 2
      ∙ ap (λ (j : ℕ). chunk / 2 ^ j % 4) q
      ∙ sym (two-bit-symbol chunk (n - (i + 1)) v)

-- ---- a vector of one-bit symbols
module _ (chunk : ℕ) (vector : status_vector ≤ chunk) (one : chunk < two_bit_vector) where
  one-bit-symbol : (i : ℕ) → symbol chunk i ≡ chunk / 2 ^ (13 - i) % 2
  unfolding symbol
  one-bit-symbol i =
      let e : 14 - 1 * (i + 1) ≡ 13 - i = omega arith in
      rw (le-ltb chunk status_vector vector, lt-ltb chunk two_bit_vector one, e)

  pub one-bit-unreserved : (i n : ℕ) → any_reserved (symbols_from chunk i n) ≡ false
  unfolding any_reserved symbols_from
  one-bit-unreserved i zero = refl
  one-bit-unreserved i (suc n) =
      rw (ne_eqb (symbol chunk i) reserved (λ e. absurd (omega (arith, one-bit-symbol i)))) (one-bit-unreserved (suc i) n)

  -- the first n symbols as a number, the last of them its lowest digit
  bits : ℕ → ℕ
  bits n = chunk % 2 ^ 14 / 2 ^ (14 - n)

  bits-half : (n : ℕ) → n < 14 → bits (suc n) / 2 ≡ bits n
  unfolding bits
  bits-half n h =
      let e : 14 - suc n + 1 ≡ 14 - n = omega arith in
      shr-shr (chunk % 2 ^ 14) (14 - suc n) 1 ∙ ap (λ (k : ℕ). chunk % 2 ^ 14 / 2 ^ k) e

  bits-last : (n : ℕ) → n < 14 → bits (suc n) % 2 ≡ symbol chunk n
  unfolding bits
  bits-last n h =
      let e : suc n + (14 - suc n) ≡ 14 = omega arith in
      let f : 14 - suc n ≡ 13 - n = omega arith in
      let g : n + 1 ≡ suc n = omega arith in
      ap (λ (k : ℕ). chunk % 2 ^ k / 2 ^ (14 - suc n) % 2) (sym e)
      ∙ ap (λ (k : ℕ). k % 2) (field chunk (suc n) (14 - suc n))
      ∙ ap (λ (k : ℕ). chunk / 2 ^ (14 - suc n) % 2 ^ k % 2) (sym g)
      ∙ mod-mod-pow (chunk / 2 ^ (14 - suc n)) n 1
      ∙ ap (λ (k : ℕ). chunk / 2 ^ k % 2) f
      ∙ sym (one-bit-symbol n)

  pub one-bit-bytes : (n : ℕ) → n ≤ 14 → ones (chunk % 2 ^ 14 / 2 ^ (14 - n)) ≡ delta_bytes (symbols_from chunk 0 n)
  unfolding bits delta_bytes symbols_from ones
  one-bit-bytes zero h =
      let e : chunk % 2 ^ 14 / 2 ^ 14 ≡ 0 = omega arith in
      rw e
  one-bit-bytes (suc n) h =
      ones_step (bits (suc n))
      ∙ rw (bits-last n (omega arith), bits-half n (omega arith), one-bit-bytes n (omega arith)) (sym (last-bytes chunk 0 n ∙ ap (λ (k : ℕ). symbol chunk k + delta_bytes (symbols_from chunk 0 n)) (omega arith)))

-- ---- what the functions go by: the kind of chunk, and what is left of a vector of two-bit symbols
pub ruleset by_kind = (take-symbols, run-bytes, run-reserved, count-one-bit, count-two-bit, one-bit-unreserved, one-bit-bytes)

pub ruleset by_rest = (rest-symbol, rest-none, rest-turn, last-reserved-turn, last-reserved-met)
