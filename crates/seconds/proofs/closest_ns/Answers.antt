-- An even number of ns, those of the whole seconds, may be taken apart before rounding, and a quotient of two limbs is that of the number they make (`Closest.antt`).
use mathlib.Core.Path.{◌∙◌}
use Prim.Native.Nat.{◌-◌}
use native.Mathlib.Omega.{arith}
use Rattle.seconds.proofs.Closest.{rest_lt, divisor, in-seconds, in-limbs}
use Rattle.seconds.proofs.closest_ns.Goals as goal

pub nonzero_div-result : goal.nonzero_div-result
nonzero_div-result c = (divisor c.args.k (omega arith) (omega arith)).above

pub overflow_mul-result : goal.overflow_mul-result
overflow_mul-result c = omega (arith, in-seconds c.args.m c.args.k c.if-k-lt23.true)

pub nonzero_rem-m : goal.nonzero_rem-m
nonzero_rem-m c = (divisor c.args.k (omega arith) (omega arith)).above

pub overflow_mul-m : goal.overflow_mul-m
overflow_mul-m c = omega (arith, rest_lt c.args.m c.args.k c.if-k-lt23.true)

pub closest_split-requires : goal.closest_split-requires
closest_split-requires c =
    let d = divisor c.args.k (omega arith) (omega arith) in
    (omega (arith, rest_lt c.args.m c.args.k c.if-k-lt23.true), omega arith, d.above, d.most, d.even)

pub overflow_add-result : goal.overflow_add-result
overflow_add-result c = omega (arith, c.closest_split.ensures, in-seconds c.args.m c.args.k c.if-k-lt23.true)

pub returns-then-k-lt23 : goal.returns-then-k-lt23
returns-then-k-lt23 c = omega (arith, c.closest_split.ensures, in-seconds c.args.m c.args.k c.if-k-lt23.true)

pub closest_split-requires-2 : goal.closest_split-requires-2
closest_split-requires-2 c =
    let d = divisor (c.args.k - 22) (omega arith) (omega arith) in
    (omega arith, omega arith, d.above, d.most, d.even)

pub returns : goal.returns
returns c = c.closest_split-2.ensures ∙ in-limbs c.args.m c.args.k c.if-k-lt23.false c.requires.2
