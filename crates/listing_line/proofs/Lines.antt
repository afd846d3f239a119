-- Laws that rest on what a line is and on what writing one gives.
use Rattle.std.specs.Prelude.{◌≡◌, ℕ, ◌+◌, ◌≤◌, List, ◌++◌, take, drop}
use Rattle.std.proofs.Common.{◌∙◌, arith, length}
use Rattle.std.proofs.lemmas.List.Edits.{sets-eq}
use Rattle.listing_line.specs.declared.Line.{Line}
use Rattle.listing_line.specs.ListingLine.{line, put_line}
use Rattle.listing_line.specs.Laws.{length-line, put-room, width-le}

-- a line of a pass file: at most five digits of a record's number, one of a refusal, 19 of a moment
pub line-short : (l : Line) → l.record_number ≤ 65535 → l.refusal ≤ 9 → l.next_timeout ≤ 2_000_000_000_000_000_000 → length (line l) ≤ 48
line-short l h i j =
    omega (
      arith,
      length-line l,
      width-le 4 l.record_number (omega arith),
      width-le 0 l.refusal (omega arith),
      width-le 18 l.next_timeout (omega arith),
    )

-- with room, the bytes before and after the text are as they were
module _ (out : List ℕ) (at : ℕ) (text : List ℕ) where
  pub put-around : at + length text ≤ length out → put_line out at text ≡ take at out ++ text ++ drop (at + length text) out
  put-around h = (put-room out at text h).bytes ∙ sets-eq text out at h
