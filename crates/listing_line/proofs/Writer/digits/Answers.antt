use Rattle.std.proofs.Common.{◌≡◌, ◌∙◌, ◌-◌, suc, arith}
use lib.ListN.{length-set}
use Rattle.listing_line.specs.ListingLine.{digits}
use Rattle.listing_line.proofs.Writing.{digits-turn, digits-end}
use Rattle.listing_line.proofs.Writer.digits.Goals as goal

pub loop-i-preserved : goal.loop-i-preserved
loop-i-preserved g c =
    let e : c.loop-i.i ≡ suc (c.loop-i.i - 1) = omega arith in
    let v = c.loop-i.invariant in
    (v.0, v.1, length-set _ _ _ ∙ v.2, rw e at v.3 ∙ digits-turn _ _ _ _ _ ∙ rw c.digit.ensures)

pub returns-clause-wrote : goal.returns-clause-wrote
unfolding digits
returns-clause-wrote g c =
    let z : c.loop-i.i ≡ 0 = omega arith in
    let v = c.loop-i.invariant in
    let d = digits-end _ _ g.row.BASE c.args.k c.args.n c.args.end in
    record { bytes = rw (v.0, ← rw z at v.3) d.bytes; after = omega (arith, v.0, d.after) }
