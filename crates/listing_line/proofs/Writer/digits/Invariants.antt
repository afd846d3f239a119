-- The digits that are left, written too, give all of them.
use Rattle.std.proofs.Common.{◌≡◌, length}
use lib.Seq.{sets}
use Rattle.listing_line.specs.ListingLine.{digits}
use Rattle.listing_line.proofs.Writer.digits.Given as goal

abbrev pub invariant-loop-i : goal.invariant-loop-i
invariant-loop-i g l =
    (l.self.at ≡ l.initial.self.at)
    × (l.self.out.ghost_name ≡ l.initial.self.out.ghost_name)
    × (length l.self.out.now ≡ length l.initial.self.out.now)
    × (sets l.initial.self.out.now l.initial.self.at (digits g.row.BASE l.k l.n) ≡ sets l.self.out.now l.self.at (digits g.row.BASE l.i l.rest))
