-- `sqrt::root_at` meets its contract: a pattern's fields say how many units its float has.
use Rattle.std.proofs.Common.{◌≡◌, suc, ◌+◌, ◌-◌, ◌*◌, ◌/◌, ◌%◌, ◌^◌, add_comm, mul-pos, arith, pow_pos}
use lib.Ieee.{binary64, of_bits}
use Rattle.float_order.specs.Bits.{low_value, high_value}
use Rattle.sqrt.specs.Laws.{root-at}
use Rattle.sqrt.proofs.root_at.Goals as goal

pub returns-then-k-eq0 : goal.returns-then-k-eq0
returns-then-k-eq0 c =
    let b = c.args.b in
    rw (root-at (of_bits binary64 b) (b % 2 ^ 52 * 2 ^ 0) (omega arith) (low_value b c.requires.1 c.if-k-eq0.true)) c.root_of.ensures

pub returns-else-k-eq0 : goal.returns-else-k-eq0
returns-else-k-eq0 c =
    let b = c.args.b in
    let k = b / 2 ^ 52 - 1 in
    let e : b / 2 ^ 52 ≡ suc k = omega arith in
    rw (root-at (of_bits binary64 b) ((2 ^ 52 + b % 2 ^ 52) * 2 ^ k) (mul-pos (omega arith) (pow_pos k)) (high_value b c.requires.1 k e), add_comm (2 ^ 52) (b % 2 ^ 52)) c.root_of-else-k-eq0.ensures
