-- At the ends by the order of `from_secs_f64`, and between them by the fields of the bits (`Fields.antt`).
use mathlib.Core.Path.{◌∙◌}
use Prim.Native.Nat.{◌+◌, ◌-◌, ◌/◌, ◌%◌, ◌^◌}
use native.Mathlib.Omega.{arith}
use lib.Ieee.{binary64, to_bits}
use Rattle.float_order.specs.Order.{ordered-no-nan, le-ordered-r, is_true}
use Rattle.seconds.proofs.Fields.{Fields, too_many, none, fields}
use Rattle.seconds.proofs.from_secs_f64.Goals as goal
use Rattle.seconds.proofs.from_secs_f64.Goals.{Then-x-2}

-- past the tests
between : (c : Then-x-2)
    → Fields c.args.x (to_bits binary64 c.args.x % 2 ^ 52 + 2 ^ 52) (1075 - to_bits binary64 c.args.x / 2 ^ 52)
between c = fields c.args.x c.if-x-2.true c.if-x.false c.well_formed.0.1

pub returns-then-x : goal.returns-then-x
returns-then-x c = too_many c.args.x c.if-x.true

pub float_to_bits-bits : goal.float_to_bits-bits
float_to_bits-bits c = ordered-no-nan _ (le-ordered-r _ _ (is_true _ c.if-x-2.true))

pub overflow_sub-bits : goal.overflow_sub-bits
overflow_sub-bits c = omega (arith, (between (goal.at.overflow_sub-bits c).Then-x-2).least)

pub closest_ns-requires : goal.closest_ns-requires
closest_ns-requires c = let f = between (goal.at.closest_ns-requires c).Then-x-2 in (omega arith, f.least, f.most, f.small)

pub returns-then-x-2 : goal.returns-then-x-2
returns-then-x-2 c = c.closest_ns.ensures ∙ (between (goal.at.returns-then-x-2 c).Then-x-2).same

pub returns : goal.returns
returns c = none c.args.x c.if-x-2.false
