use Rattle.sqrt.proofs.Digits.{Digits}
use Rattle.sqrt.proofs.root54.Given as goal

abbrev pub invariant-loop : goal.invariant-loop
invariant-loop l = Digits l.m l.a l.q l.left l.counter
