-- Lengths of time in ms, as floats: of n seconds at most n * 1000 either way.
use Rattle.std.specs.Prelude.{◌≡◌, ℕ, ◌+◌, ◌*◌, ◌/◌, ◌%◌, ◌^◌, ◌≤◌, ltb, pos, Float}
use Rattle.std.proofs.Common.{subst, le-leb}
use native.Mathlib.Omega.{arith}
use Rattle.std.proofs.Math.Dec.{T}
use Rattle.std.specs.Float.Ieee.{binary64, of_int, le, neg}
use Rattle.float_order.specs.Binary64 as F
use Rattle.float_order.specs.Binary64.{mul, div, thousand}
use Rattle.float_order.specs.Order.{le_trans, neg-le, neg-neg}
use Rattle.float_order.specs.Ops.{zero₊, mul-neg-l, mul-nonneg}
use Rattle.float_order.specs.Range.{In, Within, nat, in-finite, in-closed, sub_in}
use Rattle.float_order.specs.Interval.{floats}
use Rattle.float_order.specs.Whole.{nat_le, add-whole-up, mul-whole-up}
use Rattle.float_order.specs.Casts.{of_int-whole}
use Rattle.seconds.specs.Seconds as Seconds
use Rattle.seconds.specs.Laws.{secs-in, secs-finite}
use Rattle.time.specs.Time as Time
use Rattle.time.specs.Time.{limit, difference}
use Rattle.time.specs.Laws.{since-exact, seconds-positive, seconds-negative}
use Rattle.time.specs.declared.TimeDelta.{TimeDelta}
use Rattle.time.specs.declared.TimeDelta.TheVariants.{NegativeInfinity, Negative, Positive, PositiveInfinity}
use Rattle.arrival_group.specs.Laws.{AtMost}
use Rattle.arrival_group.specs.declared.InterGroupDelayDelta.{InterGroupDelayDelta}
use Rattle.bool_laws.specs.Bools.{cases}
use Rattle.trendline.specs.Trendline.{delay_delta, time_since}
use Rattle.trendline.specs.Slope.{wider, nonneg-within}

-- ---- ms of a length of time
within-neg : {a x : Float} → Within a x → Within a (neg x)
within-neg {a} {x} h = record { low = neg-le x a h.high; high = subst (λ (z : Float). T (le (neg x) z)) (neg-neg a) (neg-le (neg a) x h.low) }

module _ (n : ℕ) (few : n ≤ 10 ^ 9 + 2) where
  seconds-whole : T (le (Seconds.as_secs_f64 (n * 10 ^ 9)) (nat n))
  unfolding Seconds.as_secs_f64
  seconds-whole =
      let q : n * 10 ^ 9 / 10 ^ 9 ≡ n = omega arith in
      let r : n * 10 ^ 9 % 10 ^ 9 ≡ 0 = omega arith in
      let x = of_int binary64 (pos n) in
      let y = div (of_int binary64 (pos 0)) (of_int binary64 (pos (10 ^ 9))) in
      let h : In (nat n) (nat n) x = of_int-whole n (omega arith) in
      let z : In (nat 0) (nat 0) y = in-closed (unfold floats in tt) in
      rw (q, r) (le_trans (F.add x y) (nat (n + 0)) (nat n) (add-whole-up n 0 x y (in-finite h tt) (in-finite z tt) (omega arith) h.high z.high) (nat_le (n + 0) n (omega arith)))

  ms-nonneg : (d : ℕ) → d ≤ n * 10 ^ 9 → Within (nat (n * 1000)) (mul (Seconds.as_secs_f64 d) thousand)
  ms-nonneg d h =
      let x = Seconds.as_secs_f64 d in
      let w : In zero₊ (Seconds.as_secs_f64 (n * 10 ^ 9)) x = secs-in d (n * 10 ^ 9) h (omega arith) in
      let high : T (le x (nat n)) = le_trans x (Seconds.as_secs_f64 (n * 10 ^ 9)) (nat n) w.high seconds-whole in
      let X = secs-finite d (omega arith) in
      let k : In (nat 1000) (nat 1000) thousand = in-closed (unfold floats in tt) in
      nonneg-within
      (record {
        low = mul-nonneg binary64 x thousand X (in-finite k tt) w.low (unfold floats in tt);
        high = mul-whole-up n 1000 x thousand X (in-finite k tt) (omega arith) w.low high (unfold floats in tt) k.high;
      })

  ms-in : (d : TimeDelta) → AtMost (n * 10 ^ 9) d → Within (nat (n * 1000)) (mul (Time.as_secs_f64 d) thousand)
  ms-in NegativeInfinity h = absurd h
  ms-in (Negative d) h = rw (seconds-negative d (omega arith), mul-neg-l binary64 (Seconds.as_secs_f64 d) thousand) (within-neg (ms-nonneg d h))
  ms-in (Positive d) h = rw (seconds-positive d (omega arith)) (ms-nonneg d h)
  ms-in PositiveInfinity h = absurd h

at-most-wider : {m n : ℕ} → m ≤ n → (d : TimeDelta) → AtMost m d → AtMost n d
at-most-wider l NegativeInfinity h = h
at-most-wider l (Negative d) h = omega arith
at-most-wider l (Positive d) h = omega arith
at-most-wider l PositiveInfinity h = h

since-bound : {n a b : ℕ} → n ≤ limit → a ≤ n → b ≤ n → AtMost n (Time.since (Time.exact a) (Time.exact b))
unfolding Time.exact difference
since-bound {n} {a} {b} l h k =
    rw (le-leb a limit (omega arith), le-leb b limit (omega arith), since-exact a b (omega arith) (omega arith)) (cases (AtMost n) (ltb a b) (λ e. omega arith) (λ e. omega arith))

-- ---- the time of a group, and the difference of two
module _ {s : ℕ} (few : s ≤ 10 ^ 9 + 1) where
  pub time-in : {last start : ℕ} → last ≤ s * 10 ^ 9 → start ≤ s * 10 ^ 9 → Within (nat (s * 1000)) (time_since last start)
  time-in {last} {start} h k = ms-in s (omega arith) (Time.since (Time.exact last) (Time.exact start)) (since-bound (omega arith) h k)

  pub delta-in : (v : InterGroupDelayDelta) → AtMost (s * 10 ^ 9 + 500000) v.send_delta → AtMost (s * 10 ^ 9) v.arrival_delta
      → Within (nat (4 * 10 ^ 12)) (delay_delta v)
  unfolding delay_delta
  delta-in v h k =
      let ends : T (le (nat ((s + 1) * 1000)) (nat (10 ^ 12 + 2000))) = nat_le ((s + 1) * 1000) (10 ^ 12 + 2000) (omega arith) in
      let arrival = wider ends (ms-in (s + 1) (omega arith) v.arrival_delta (at-most-wider (omega arith) v.arrival_delta k)) in
      let send = wider ends (ms-in (s + 1) (omega arith) v.send_delta (at-most-wider (omega arith) v.send_delta h)) in
      sub_in arrival send (unfold floats in tt)
