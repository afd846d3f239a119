-- Five texts, one after another.
use Rattle.std.proofs.Common.{arith, length-append}
use Rattle.listing_line.specs.ListingLine.{line}
use Rattle.listing_line.specs.Laws.{then, length-line, length_digits}
use Rattle.listing_line.proofs.Writing.{room-left}
use Rattle.listing_line.proofs.Line.put_fields.Goals as goal

pub decimal-requires-2 : goal.decimal-requires-2
decimal-requires-2 c =
    room-left _ c.decimal.ensures.wrote (simp (length-append, length_digits) (omega (arith, c.requires, length-line c.args.self)))

pub letter-requires : goal.letter-requires
letter-requires c =
    room-left 1
    (then c.decimal.ensures.wrote c.decimal-2.ensures.wrote)
    (simp (length-append, length_digits) (omega (arith, c.requires, length-line c.args.self)))

pub digits-requires-clause-room : goal.digits-requires-clause-room
digits-requires-clause-room c =
    room-left 16
    (then (then c.decimal.ensures.wrote c.decimal-2.ensures.wrote) c.letter.ensures.wrote)
    (simp (length-append, length_digits) (omega (arith, c.requires, length-line c.args.self)))

pub decimal-requires-3 : goal.decimal-requires-3
decimal-requires-3 c =
    room-left _
    (then (then (then c.decimal.ensures.wrote c.decimal-2.ensures.wrote) c.letter.ensures.wrote) c.digits.ensures.wrote)
    (simp (length-append, length_digits) (omega (arith, c.requires, length-line c.args.self)))

pub returns-clause-wrote : goal.returns-clause-wrote
unfolding line
returns-clause-wrote c =
    then
    (then
    (then
    (then c.decimal.ensures.wrote c.decimal-2.ensures.wrote)
    c.letter.ensures.wrote)
    c.digits.ensures.wrote)
    c.decimal-3.ensures.wrote
