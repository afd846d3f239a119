-- Document 01, pass file and program: a line of the listing in ASCII, and the buffer that it is written into.
use Rattle.std.specs.Prelude.{◌≡◌, ℕ, zero, suc, ◌+◌, ◌/◌, ◌%◌, Bool, cond, List, [], ◌∷◌, ◌++◌, leb, ltb, length}
use Rattle.std.proofs.lemmas.List.Edits.{sets}
use Rattle.listing_line.specs.declared.Line.{Line}

-- a digit below 16: `0` to `9`, then `a` to `f`
abbrev pub digit : ℕ → ℕ
digit d = cond (ltb d 10) (48 + d) (87 + d)

-- the last k digits of n in base b, the most significant first
unfoldable pub digits : ℕ → ℕ → ℕ → List ℕ
digits b zero n = []
digits b (suc k) n = digits b k (n / b) ++ (digit (n % b) ∷ [])

-- how many digits n takes in base 10, of at most f + 1
unfoldable pub width_by : ℕ → ℕ → ℕ
width_by zero n = 1
width_by (suc f) n = cond (ltb n 10) 1 (suc (width_by f (n / 10)))

-- a number of 64 bits takes at most 20
unfoldable pub width : ℕ → ℕ
unfolding width_by
width n = width_by 19 n

abbrev pub decimal : ℕ → List ℕ
decimal n = digits 10 (width n) n

abbrev pub hexadecimal : ℕ → List ℕ
hexadecimal n = digits 16 16 n

abbrev pub space : ℕ
space = 32

abbrev pub line_feed : ℕ
line_feed = 10

-- a text, and the byte that ends it
abbrev pub field : List ℕ → ℕ → List ℕ
field text end = text ++ (end ∷ [])

-- record number, refusal number or 0, hypothesis letter, estimate bits, next timeout
unfoldable pub line : Line → List ℕ
unfolding digits width
line l =
    field (decimal l.record_number) space
    ++ field (decimal l.refusal) space
    ++ field (l.letter ∷ []) space
    ++ field (hexadecimal l.bits) space
    ++ field (decimal l.next_timeout) line_feed

-- a number alone on a line
abbrev pub number_line : ℕ → List ℕ
number_line n = field (decimal n) line_feed

-- whether a text has room in a buffer from place at on
abbrev pub has_room : List ℕ → ℕ → List ℕ → Bool
has_room out at text = leb (at + length text) (length out)

-- the buffer after: the text from place at on, all else as it was; without room, nothing is written
unfoldable pub put_line : List ℕ → ℕ → List ℕ → List ℕ
put_line out at text = cond (has_room out at text) (sets out at text) out

-- the place after the text, or at
unfoldable pub place_after : List ℕ → ℕ → List ℕ → ℕ
place_after out at text = cond (has_room out at text) (at + length text) at

-- text was written into `old` from place at on, which left `new`, and `next` is the place after it
pub record Wrote (old : List ℕ) (at : ℕ) (text new : List ℕ) (next : ℕ) : Type 0 where
  pub bytes : new ≡ sets old at text
  pub after : next ≡ at + length text
