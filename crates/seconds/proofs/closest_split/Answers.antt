-- By how twice the remainder compares with the divisor (`Closest.antt`).
use native.Mathlib.Nat.{mod-lt, div-le_self}
use native.Mathlib.Omega.{arith}
use Rattle.seconds.proofs.Closest.{at_less, at_more, at-tie, at-past}
use Rattle.seconds.proofs.closest_split.Goals as goal

pub overflow_mul-r : goal.overflow_mul-r
overflow_mul-r c = omega (arith, mod-lt c.args.a c.requires.2)

pub returns-then-r-d : goal.returns-then-r-d
returns-then-r-d c = let s = c in at_less s.args.a s.args.b s.args.d s.requires.1 s.requires.2 s.requires.4 c.if-r-d.true

pub overflow_mul-r-2 : goal.overflow_mul-r-2
overflow_mul-r-2 c = omega (arith, mod-lt c.args.a c.requires.2)

pub overflow_add-result : goal.overflow_add-result
overflow_add-result c = omega (arith, div-le_self c.args.a c.args.d)

pub returns-then-d-r : goal.returns-then-d-r
returns-then-d-r c = let s = c in at_more s.args.a s.args.b s.args.d s.requires.1 s.requires.2 s.requires.4 c.if-d-r.true

pub overflow_add-result-then-b-eq0 : goal.overflow_add-result-then-b-eq0
overflow_add-result-then-b-eq0 c = omega (arith, div-le_self c.args.a c.args.d)

pub overflow_add-result-else-b-eq0 : goal.overflow_add-result-else-b-eq0
overflow_add-result-else-b-eq0 c = omega (arith, div-le_self c.args.a c.args.d)

pub returns-then-b-eq0 : goal.returns-then-b-eq0
returns-then-b-eq0 c = let s = c in at-tie s.args.a s.args.b s.args.d s.requires.1 s.requires.2 s.requires.4 c.if-r-d.false c.if-d-r.false c.if-b-eq0.true

pub returns-else-b-eq0 : goal.returns-else-b-eq0
returns-else-b-eq0 c = let s = c in at-past s.args.a s.args.b s.args.d s.requires.1 s.requires.2 s.requires.4 c.if-r-d.false c.if-d-r.false c.if-b-eq0.false
