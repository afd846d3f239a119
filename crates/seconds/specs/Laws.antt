-- Both conversions keep the order, so the range of a result is that of its ends.
use Rattle.std.specs.Prelude.{◌≡◌, refl, true, false, ℕ, ◌+◌, ◌-◌, ◌*◌, ◌/◌, ◌%◌, ◌^◌, ◌≤◌, ◌<◌, min, T, pos, Float}
use Rattle.std.proofs.Common.{inl, inr, le_trans as nat-le-trans, eq-or-lt_of_le, le_of_mul-le-mul_right, mul_right_comm, mul-le-mul_right, arith}
use Rattle.std.proofs.Math.Nat.{min-le_left, min-le_right, le-min}
use Rattle.std.specs.Float.{nan, inf, fin}
use Rattle.std.specs.Float.Ieee.{binary64, up, down, le, add, div, of_int}
use Rattle.std.specs.Float.Ieee.Fits.{down_pos}
use Rattle.std.specs.Float.Ieee.Nearest.{closest, closest_mono}
use Rattle.std.specs.Float.Ieee.Scale.{finite}
use Rattle.float_order.specs.Order.{le→cross, cross→le, le_trans}
use Rattle.float_order.specs.Ops.{zero₊, add-mono, div-mono-l}
use Rattle.float_order.specs.Range.{In, nat, in-finite, lit-in, div-in}
use Rattle.float_order.specs.Casts.{of_int-mono, of_int-in, of_int-whole}
use Rattle.float_order.specs.Whole.{add-whole, add-whole-up}
use Rattle.float_order.specs.Interval.{floats}
use Rattle.seconds.specs.Seconds.{as_secs_f64, from_secs_f64}

-- ---- seconds of ns, of what a u64 holds
abbrev whole : ℕ → Float
whole n = of_int binary64 (pos (n / 10 ^ 9))

abbrev billion : Float
billion = of_int binary64 (pos (10 ^ 9))

abbrev fraction : ℕ → Float
fraction n = div binary64 (of_int binary64 (pos (n % 10 ^ 9))) billion

secs-is : (n : ℕ) → as_secs_f64 n ≡ add binary64 (whole n) (fraction n)
unfolding as_secs_f64
secs-is n = refl

whole_in : (n : ℕ) → n < 2 ^ 64 → In (nat (n / 10 ^ 9)) (nat (n / 10 ^ 9)) (whole n)
whole_in n h = of_int-whole (n / 10 ^ 9) (omega arith)

fraction-in : (n : ℕ) → In zero₊ (nat 1) (fraction n)
fraction-in n = div-in (of_int-in {lo = zero₊} {hi = nat (10 ^ 9)} 0 (10 ^ 9) (n % 10 ^ 9) (omega arith) (omega arith) (unfold floats in tt)) (lit-in billion (unfold floats in tt)) (unfold floats in tt)

fraction-mono : (m n : ℕ) → m % 10 ^ 9 ≤ n % 10 ^ 9 → T (le (fraction m) (fraction n))
fraction-mono m n h =
    div-mono-l binary64 (of_int binary64 (pos (m % 10 ^ 9))) (of_int binary64 (pos (n % 10 ^ 9))) billion (in-finite (of_int-whole (m % 10 ^ 9) (omega arith)) tt) (in-finite (of_int-whole (n % 10 ^ 9) (omega arith)) tt) (unfold floats in tt)
    (of_int-mono binary64 (m % 10 ^ 9) (n % 10 ^ 9) h)

-- of the same second the fractions are in order, and of a later one the whole number of seconds stands between
pub secs-mono : (m n : ℕ) → m ≤ n → n < 2 ^ 64 → T (le (as_secs_f64 m) (as_secs_f64 n))
secs-mono m n h l =
    let M = whole_in m (omega arith) in
    let N = whole_in n l in
    let F = fraction-in m in
    let G = fraction-in n in
    let s : m / 10 ^ 9 ≤ n / 10 ^ 9 = omega arith in
    rw (secs-is m, secs-is n)
    (elim (eq-or-lt_of_le s) [
      | inl e ↦ add-mono binary64 (whole m) (whole n) (fraction m) (fraction n) (in-finite M tt) (in-finite N tt) (in-finite F tt) (in-finite G tt) (of_int-mono binary64 (m / 10 ^ 9) (n / 10 ^ 9) s) (fraction-mono m n (omega arith))
      | inr e ↦
          le_trans (add binary64 (whole m) (fraction m)) (nat (m / 10 ^ 9 + 1)) (add binary64 (whole n) (fraction n))
          (add-whole-up (m / 10 ^ 9) 1 (whole m) (fraction m) (in-finite M tt) (in-finite F tt) (omega arith) M.high F.high)
          (le_trans (nat (m / 10 ^ 9 + 1)) (nat (n / 10 ^ 9 + 0)) (add binary64 (whole n) (fraction n)) (cross→le (nat (m / 10 ^ 9 + 1)) (nat (n / 10 ^ 9 + 0)) tt tt (omega arith))
          (add-whole (n / 10 ^ 9) 0 (whole n) (fraction n) (in-finite N tt) (in-finite G tt) (omega arith) N.low G.low))
    ])

-- from 0 to the seconds of the largest, which compute: `in-wider (secs-in n 1000 h l) (unfold as_secs_f64 floats in tt)`
pub secs-in : (n top : ℕ) → n ≤ top → top < 2 ^ 64 → In zero₊ (as_secs_f64 top) (as_secs_f64 n)
secs-in n top h l = record {
  low = le_trans zero₊ (as_secs_f64 0) (as_secs_f64 n) (unfold as_secs_f64 floats in tt) (secs-mono 0 n (omega arith) (omega arith));
  high = secs-mono n top h l;
}

pub secs-finite : (n : ℕ) → n < 2 ^ 64 → T (finite (as_secs_f64 n))
secs-finite n h = in-finite (secs-in n (2 ^ 64 - 1) (omega arith) (omega arith)) (unfold as_secs_f64 floats in tt)

-- ---- ns of seconds
-- a u64 holds them
pub ns-most : (x : Float) → from_secs_f64 x ≤ 2 ^ 64 - 1
unfolding from_secs_f64
ns-most nan = omega arith
ns-most (inf true) = omega arith
ns-most (inf false) = omega arith
ns-most (fin true m e) = omega arith
ns-most (fin false m e) = min-le_right (closest (m * up e * 10 ^ 9) (down e)) (2 ^ 64 - 1)

-- a / c ≤ b / d
parts-mono : (a c b d : ℕ) → 0 < c → 0 < d → a * d ≤ b * c → min (closest (a * 10 ^ 9) c) (2 ^ 64 - 1) ≤ min (closest (b * 10 ^ 9) d) (2 ^ 64 - 1)
parts-mono a c b d C D h =
    let k : closest (a * 10 ^ 9) c ≤ closest (b * 10 ^ 9) d = closest_mono (a * 10 ^ 9) c (b * 10 ^ 9) d C D (rw (mul_right_comm a (10 ^ 9) d, mul_right_comm b (10 ^ 9) c) (mul-le-mul_right (10 ^ 9) h)) in
    le-min (nat-le-trans (min-le_left (closest (a * 10 ^ 9) c) (2 ^ 64 - 1)) k) (min-le_right (closest (a * 10 ^ 9) c) (2 ^ 64 - 1))

-- what is at most a negative value is zero
nothing : (a b c d : ℕ) → 0 < d → a * d + b * c ≤ 0 * c + 0 * d → a * 1 ≤ 0 * c
nothing a b c d D h =
    let k : a ≤ 0 = le_of_mul-le-mul_right {m = a} {n = 0} {k = d} (omega arith) D in
    omega arith

-- of a y that is written out the bound computes: for 10 ^ 9 seconds it is 10 ^ 18
pub ns-mono : (x y : Float) → T (le x y) → from_secs_f64 x ≤ from_secs_f64 y
unfolding from_secs_f64 le
ns-mono nan y h = absurd h
ns-mono (inf true) y h = omega arith
ns-mono (inf false) nan h = absurd h
ns-mono (inf false) (inf true) h = absurd h
ns-mono (inf false) (inf false) h = omega arith
ns-mono (inf false) (fin t n d) h = absurd h
ns-mono (fin true m e) y h = omega arith
ns-mono (fin false m e) nan h = absurd h
ns-mono (fin false m e) (inf true) h = absurd h
ns-mono (fin false m e) (inf false) h = min-le_right (closest (m * up e * 10 ^ 9) (down e)) (2 ^ 64 - 1)
ns-mono (fin false m e) (fin true n d) h = parts-mono (m * up e) (down e) 0 1 (down_pos e) (omega arith) (nothing (m * up e) (n * up d) (down e) (down d) (down_pos d) (le→cross (fin false m e) (fin true n d) tt tt h))
ns-mono (fin false m e) (fin false n d) h = parts-mono (m * up e) (down e) (n * up d) (down d) (down_pos e) (down_pos d) (let k = le→cross (fin false m e) (fin false n d) tt tt h in omega arith)
