-- `sqrt::is_sqrt` meets its contract: each test sends one kind of float on (`Cases.antt`), and what is left is told by its bits (`Equal.antt`).
use Rattle.std.proofs.Common.{sym, ap, ◌∙◌}
use lib.Ieee.{binary64, eq}
use lib.Ieee.Bits.{of_bits-to_bits}
use Rattle.sqrt.specs.Sqrt.{sqrt}
use Rattle.sqrt.proofs.Cases.{at-nan, root-of-nan, zero_same, at-below, at-infinity, in-range}
use Rattle.sqrt.proofs.Equal.{eq-nan, by_bits}
use Rattle.float_order.specs.Order.{is_true}
use Rattle.sqrt.proofs.is_sqrt.Goals as goal

pub returns-then-is_nan-2 : goal.returns-then-is_nan-2
returns-then-is_nan-2 c = rw (at-nan c.args.v (sym c.is_nan-2.ensures.value ∙ c.if-is_nan-2.true), root-of-nan) (sym (eq-nan c.args.d))

pub returns-then-v : goal.returns-then-v
returns-then-v c = zero_same c.args.d c.args.v c.if-v.true

pub returns-then-v-2 : goal.returns-then-v-2
returns-then-v-2 c = rw (at-below c.args.v c.if-v-2.true) (sym (eq-nan c.args.d))

pub returns-then-b-eq9218868437227405312 : goal.returns-then-b-eq9218868437227405312
returns-then-b-eq9218868437227405312 c =
    let start = c in
    ap (eq start.args.d) (at-infinity start.args.v start.well_formed.1.0.1 c.if-b-eq9218868437227405312.true)

pub root_at-requires : goal.root_at-requires
root_at-requires c =
    let start = c in
    in-range start.args.v start.well_formed.1.0.1 (sym c.is_nan-2.ensures.value ∙ c.if-is_nan-2.false) c.if-v.false c.if-v-2.false c.if-b-eq9218868437227405312.false

pub returns : goal.returns
returns c =
    let root = c.root_at.result in
    c.has_bits.ensures.told
    ∙ by_bits root c.has_bits.ensures.range.0 c.has_bits.ensures.range.1 c.args.d (is_true _ c.well_formed.0.1)
    ∙ ap (eq c.args.d) (sym c.root_at.ensures ∙ ap sqrt (of_bits-to_bits binary64 c.args.v (is_true _ c.well_formed.1.0.1)))
