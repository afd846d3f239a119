-- A packet status chunk of draft-holmer-rmcat-transport-wide-cc-extensions-01, section 3.1: 16 bits that stand for a list of status symbols.
use Rattle.std.specs.Prelude.{ℕ, zero, suc, ◌+◌, ◌*◌, ◌-◌, ◌/◌, ◌%◌, ◌^◌, Bool, false, ◌||◌, cond, List, [], ◌∷◌, eqb, ltb}
use Rattle.status_chunk.specs.declared.Symbol.{Symbol}
use Rattle.status_chunk.specs.declared.Symbol.TheVariants.{NotReceived, SmallDelta, LargeDelta, Reserved}

-- ---- status symbols
-- 0 is a packet that was not received, 1 one received with a small delta, 2 one with a large delta. The recv delta of a packet has as many bytes as its symbol says.
abbrev pub not_received : ℕ
not_received = 0

abbrev pub small_delta : ℕ
small_delta = 1

abbrev pub large_delta : ℕ
large_delta = 2

abbrev pub reserved : ℕ
reserved = 3

abbrev pub number : Symbol → ℕ
number NotReceived = not_received
number SmallDelta = small_delta
number LargeDelta = large_delta
number Reserved = reserved

-- ---- the kinds of chunk
-- Below this the top bit is 0: a run length chunk. From here on a status vector.
abbrev pub status_vector : ℕ
status_vector = 0x8000

-- From here on the two top bits are 1: a status vector of two-bit symbols.
abbrev pub two_bit_vector : ℕ
two_bit_vector = 0xc000

-- ---- the symbols of a chunk
-- How many: the low 13 bits of a run, 14 symbols of one bit, 7 of two bits.
unfoldable pub symbol_count : ℕ → ℕ
symbol_count chunk = cond (ltb chunk status_vector) (chunk % 2 ^ 13) (cond (ltb chunk two_bit_vector) 14 7)

-- symbol i of a vector of symbols of so many bits, from the high end of its low 14
abbrev pub vector_symbol : ℕ → ℕ → ℕ → ℕ
vector_symbol bits chunk i = chunk / 2 ^ (14 - bits * (i + 1)) % 2 ^ bits

-- Symbol i. A run has one symbol, the two bits after the top one. In a vector of one bit 1 is a small delta and 0 not received, as in the draft's example and against its text.
unfoldable pub symbol : ℕ → ℕ → ℕ
symbol chunk i = cond (ltb chunk status_vector) (chunk / 2 ^ 13) (cond (ltb chunk two_bit_vector) (vector_symbol 1 chunk i) (vector_symbol 2 chunk i))

-- the first of so many that are left, the first of all where there are not so many
abbrev pub symbol_left : ℕ → ℕ → ℕ
symbol_left chunk left = symbol chunk (symbol_count chunk - left)

-- n symbols from symbol i on
unfoldable pub symbols_from : ℕ → ℕ → ℕ → List ℕ
symbols_from chunk i zero = []
symbols_from chunk i (suc n) = symbol chunk i ∷ symbols_from chunk (suc i) n

-- all of them
abbrev pub symbols_of : ℕ → List ℕ
symbols_of chunk = symbols_from chunk 0 (symbol_count chunk)

-- ---- a list of symbols
-- how many bytes their recv deltas have
unfoldable pub delta_bytes : List ℕ → ℕ
delta_bytes [] = 0
delta_bytes (s ∷ ss) = s + delta_bytes ss

unfoldable pub any_reserved : List ℕ → Bool
any_reserved [] = false
any_reserved (s ∷ ss) = eqb s reserved || any_reserved ss
