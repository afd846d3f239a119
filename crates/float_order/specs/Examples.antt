-- How the laws are used: ends are literals, and the checker computes each test.
use Rattle.std.specs.Prelude.{◌≡◌, ℕ, ◌+◌, false, T, Float}
use Rattle.std.proofs.Math.Path.{refl}
use Rattle.std.proofs.Common.{arith}
use Rattle.std.specs.Float.Ieee.Scale.{finite}
use Rattle.std.specs.Float.Ieee.{binary64, of_bits, round, le, add, sub, mul}
use Rattle.float_order.specs.Range.{In, Within, nat, -nat, in-finite, in-wider, lit-in, sub_in, mul_in, add-in_lem, absorb}
use Rattle.float_order.specs.Interval.{floats, add_at, sub_at, mul_at}
use Rattle.float_order.specs.Whole.{sub-whole-in, mul-whole-in}
use Rattle.float_order.specs.Plus.{plus, plus-trans, climb}

-- 0.85
abbrev pub factor : Float
factor = of_bits binary64 0x3feb333333333333

pub factor-is : factor ≡ round binary64 false 85 100
factor-is = unfold floats in refl

-- a + 0.85 * (x - a), a range written at each operation
pub moved : (a x : Float) → In (nat 0) (nat 1000) a → In (nat 0) (nat 1000) x
    → In (-nat 850) (nat 1850) (add binary64 a (mul binary64 factor (sub binary64 x a)))
moved a x h k =
    let d : In (-nat 1000) (nat 1000) (sub binary64 x a) = sub_in k h (unfold floats in tt) in
    let m : In (-nat 850) (nat 850) (mul binary64 factor (sub binary64 x a)) = mul_in (lit-in factor (unfold of_bits in tt)) d (unfold floats in tt) in
    add-in_lem h m (unfold floats in tt)

-- the same with the ranges between worked out
pub moved_at : (a x : Float) → In (nat 0) (nat 1000) a → In (nat 0) (nat 1000) x
    → In (-nat 850) (nat 1850) (add binary64 a (mul binary64 factor (sub binary64 x a)))
moved_at a x h k =
    in-wider (add_at h (mul_at (lit-in factor (unfold of_bits in tt)) (sub_at k h tt) (unfold floats in tt)) (unfold floats in tt)) (unfold floats in tt)

-- what is within the float next to 10 ^ 30 stays there under steps of 4 * 10 ^ 12: half a unit of its last place is 7 * 10 ^ 13
pub stalled : (x d : Float) → Within (nat 1000000000000000019884624838656) x → Within (nat 4000000000000) d
    → Within (nat 1000000000000000019884624838656) (add binary64 x d)
stalled x d h k = absorb h k (unfold floats in tt)

-- a rate of 10 ^ 10 at most gains 999 at each step of 1,000
gained_lem : (x y : Float) → In (nat 40000) (nat 10000000000) x → T (le (nat 1000) y)
    → T (le (plus x 999)
    (add binary64 x y))
gained_lem x y h k = climb x 10000000000 999 (omega arith) (in-wider h (unfold floats in tt)) y k

pub gained : (x y : Float) → In (nat 40000) (nat 10000000000) x → T (le (nat 1000) y) → T (le (plus x 999) (add binary64 x y))
gained x y h k = gained_lem x y h k

-- and steps add up: from E + k to E + (k + 999)
pub gained-on : (E x y : Float) (k : ℕ) → T (finite E) → T (le (plus E k) x) → In (nat 40000) (nat 10000000000) x → T (le (nat 1000) y)
    → T (le (plus E (k + 999)) (add binary64 x y))
gained-on E x y k p g h s = plus-trans E x (add binary64 x y) k 999 p (in-finite h tt) g (gained_lem x y h s)

-- whole numbers are exact: 3 * 7 - 1
pub whole : (x y z : Float) → In (nat 3) (nat 3) x → In (nat 7) (nat 7) y → In (nat 1) (nat 1) z → In (nat 20) (nat 20) (sub binary64 (mul binary64 x y) z)
whole x y z h k l = sub-whole-in (mul-whole-in h k (omega arith)) l (omega arith) (omega arith)
