-- `sqrt::root54` meets its contract: the invariant is `Digits`.
use Rattle.std.proofs.Common.{◌≡◌, ℕ, subst, arith}
use Rattle.sqrt.proofs.Digits.{Digits, one_more, zero_more, end}
use Rattle.sqrt.proofs.root54.Goals as goal
use Rattle.sqrt.proofs.root54.Goals.{then-q-next, else-q-next}

pub loop-preserved : goal.loop-preserved
loop-preserved c =
    let l = c.loop in
    let m = c.args.m in
    elim c.if-q-next.branch [
      | then-q-next w ↦ rw (w.q-is, w.left-is) (one_more m l.a l.q l.left l.counter l.invariant c.loop-test.true w.if-q-next.true)
      | else-q-next w ↦ rw (w.q-is, w.left-is) (zero_more m l.a l.q l.left l.counter l.invariant c.loop-test.true w.if-q-next.false)
    ]

pub returns : goal.returns
returns c =
    let l = c.loop in
    let m = c.args.m in
    let e : l.counter ≡ 54 = omega arith in
    end m l.a l.q l.left (subst (λ (n : ℕ). Digits m l.a l.q l.left n) e l.invariant)
