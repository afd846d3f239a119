-- `sqrt::sqrt` meets its contract: each test sends one kind of float on (`Cases.antt`).
use Rattle.std.proofs.Common.{sym, ap, ◌∙◌}
use lib.Ieee.{binary64}
use lib.Ieee.Bits.{of_bits-to_bits}
use Rattle.sqrt.specs.Sqrt.{sqrt}
use Rattle.sqrt.proofs.Cases.{at-nan, root-of-nan, at_zero, at-below, nan_is, at-infinity, in-range}
use Rattle.float_order.specs.Order.{is_true}
use Rattle.sqrt.proofs.sqrt.Goals as goal

pub returns-then-is_nan : goal.returns-then-is_nan
returns-then-is_nan c = rw (at-nan c.args.x (sym c.is_nan.ensures.value ∙ c.if-is_nan.true)) (sym root-of-nan)

pub returns-then-x : goal.returns-then-x
returns-then-x c = at_zero c.args.x c.if-x.true

pub returns-then-x-2 : goal.returns-then-x-2
returns-then-x-2 c = nan_is ∙ sym (at-below c.args.x c.if-x-2.true)

pub returns-then-b-eq9218868437227405312 : goal.returns-then-b-eq9218868437227405312
returns-then-b-eq9218868437227405312 c = at-infinity c.args.x c.well_formed.0.1 c.if-b-eq9218868437227405312.true

pub root_at-requires : goal.root_at-requires
root_at-requires c =
    let start = c in
    in-range start.args.x start.well_formed.0.1 (sym c.is_nan.ensures.value ∙ c.if-is_nan.false) c.if-x.false c.if-x-2.false c.if-b-eq9218868437227405312.false

pub returns : goal.returns
returns c = c.value.ensures ∙ sym c.root_at.ensures ∙ ap sqrt (of_bits-to_bits binary64 c.args.x (is_true _ c.well_formed.0.1))
