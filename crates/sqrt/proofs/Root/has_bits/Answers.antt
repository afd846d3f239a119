-- `sqrt::Root::has_bits` meets its contract: outside of 53 digits q is no significand, and within them the squares decide (`Products.antt`).
use Rattle.std.proofs.Common.{sym, arith, ne_eqb}
use Rattle.sqrt.specs.RootBits.{root_bits}
use Rattle.sqrt.specs.Units.{digits, in_range}
use Rattle.sqrt.proofs.Products.{tested}
use Rattle.sqrt.proofs.Root.has_bits.Goals as goal

pub returns-then-b-self-clause-told : goal.returns-then-b-self-clause-told
returns-then-b-self-clause-told c =
    let r = c.self.inside in
    rw (← c.self.view_is) (sym (ne_eqb c.args.b (root_bits r.big r.base) (λ e. omega (arith, (digits r.big r.base c.self.invariant).0))))

pub returns-then-q-ge9007199254740992-clause-told : goal.returns-then-q-ge9007199254740992-clause-told
returns-then-q-ge9007199254740992-clause-told c =
    let r = c.self.inside in
    rw (← c.self.view_is) (sym (ne_eqb c.args.b (root_bits r.big r.base) (λ e. omega (arith, (digits r.big r.base c.self.invariant).1))))

pub returns-clause-told : goal.returns-clause-told
returns-clause-told c =
    let r = c.self.inside in
    rw (← c.self.view_is, c.square_high.ensures, c.square_high-2.ensures) (tested r.big r.base c.args.b (omega arith))

pub returns-then-b-self-clause-range : goal.returns-then-b-self-clause-range
returns-then-b-self-clause-range c = rw (← c.self.view_is) (in_range c.self.inside.big c.self.inside.base c.self.invariant)

pub returns-then-q-ge9007199254740992-clause-range : goal.returns-then-q-ge9007199254740992-clause-range
returns-then-q-ge9007199254740992-clause-range c = rw (← c.self.view_is) (in_range c.self.inside.big c.self.inside.base c.self.invariant)

pub returns-clause-range : goal.returns-clause-range
returns-clause-range c = rw (← c.self.view_is) (in_range c.self.inside.big c.self.inside.base c.self.invariant)
