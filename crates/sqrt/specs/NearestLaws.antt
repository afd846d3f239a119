-- The square root of a float above 0 is the nearest float, and the only one.
use Rattle.std.specs.Prelude.{◌≡◌, ℕ, zero, suc, ◌+◌, ◌-◌, ◌*◌, ◌/◌, ◌%◌, ◌^◌, ◌<◌, ◌≤◌, true, false, not, T, refl, Float}
use Rattle.std.proofs.Common.{sym, ap, ◌∙◌, subst, inl, inr, le_trans as nat-le-trans, le_of_eq, le_of_lt, lt_of_lt_of_le, lt_of_le_of_lt, lt_of_not-le, le_of_suc-le-suc, not-le_of_lt, mul_comm, mul_assoc, mul_left_comm, mul_right_comm, mul-pos, mul-le-mul, mul-le-mul_right, mul-lt-mul_of_pos_right, lt_of_mul-lt-mul_right, le_of_mul-le-mul_right, arith, pow_pos, pow-add, pow_mono}
use Rattle.std.proofs.Math.Nat.{mul-mul-mul_comm}
use Rattle.std.specs.Int.Count.{count_leading_zeros}
use Rattle.std.proofs.Math.Dec.{not_T}
use Rattle.std.specs.Float.{nan, inf, fin, binary64}
use Rattle.std.specs.Float.Ieee.{fits, lt, le}
use Rattle.std.specs.Float.Ieee.Exact.{HasValue}
use Rattle.std.specs.Float.Ieee.Positive.{den, den_pos, positive, positive-finite, positive_of_value, first_pos}
use Rattle.std.specs.Float.Ieee.Scale.{finite}
use Rattle.float_order.specs.Order.{over, under, ordered, finite-ordered, cross→le, lt→not-le, not-lt→le}
use Rattle.float_order.specs.Ops.{zero₊, nonneg-under, nonneg_of, positive-under, positive-over}
use Rattle.float_order.specs.Dyadic.{Is}
use Rattle.float_order.proofs.Dyadic.{is-of-value, dyadic-over, float-high, over-num}
use Rattle.float_order.proofs.Gaps.{gap}
use Rattle.float_order.specs.Same.{le_same}
use Rattle.sqrt.specs.Sqrt.{sqrt, whole_root}
use Rattle.sqrt.specs.WholeRoot.{IsRoot, whole, odd-below}
use Rattle.sqrt.specs.Laws.{positive-no-zero, root-at, sqrt-fits}
use Rattle.sqrt.specs.Rounded.{root-value}
use Rattle.sqrt.specs.Units.{normal, half, big, scale, sized, digits}
use Rattle.sqrt.specs.Nearest.{Nearest, sum_squared, four_times}

-- ---- squares of fractions
ruleset ac = (mul_assoc, mul_comm, mul_left_comm)

square_le : {a b : ℕ} → a ≤ b → a * a ≤ b * b
square_le h = mul-le-mul h h

square-less : {a b : ℕ} → a < b → a * a < b * b
square-less {a} {b} h = lt_of_le_of_lt (mul-le-mul (le_of_eq {n = a} refl) (le_of_lt h)) (mul-lt-mul_of_pos_right h (omega arith))

-- With 4 * N * U = m * w² and o / d = N / U: S² / D² is to 4 * o / d as (S * U)² to m * (w * D)².
module _ (S U w D m N o d : ℕ) (x-is : o * U ≡ N * d) (n-is : 4 * (N * U) ≡ m * (w * w)) (d-pos : 0 < d) where
  left : S * S * d * (U * U) ≡ S * U * (S * U) * d
  left = simp ac

  right : 4 * o * (D * D) * (U * U) ≡ m * (w * D * (w * D)) * d
  right = omega (arith, ap (λ (z : ℕ). 4 * (z * (U * D * D))) x-is, ap (λ (z : ℕ). z * (D * D * d)) n-is)

  less : S * U * (S * U) < m * (w * D * (w * D)) → S * S * d < 4 * o * (D * D)
  less h = lt_of_mul-lt-mul_right (U * U) (rw (left, right) (mul-lt-mul_of_pos_right h d-pos))

  more : m * (w * D * (w * D)) < S * U * (S * U) → 4 * o * (D * D) < S * S * d
  more h = lt_of_mul-lt-mul_right (U * U) (rw (left, right) (mul-lt-mul_of_pos_right h d-pos))

-- ---- p is the whole root of m, a multiple of 4
-- half of it, rounded up
abbrev halved : ℕ → ℕ
halved p = (p + 1) / 2

module _ (m p : ℕ) (four : m % 4 ≡ 0) (is : IsRoot m p) where
  -- v is below 2 * halved p * W, and at most (2 * halved p - 1) * W if p is odd
  under-root : (v W : ℕ) → 0 < W → v < 2 * halved p * W → (p % 2 ≡ 1 → v ≤ (2 * halved p - 1) * W) → v * v < m * (W * W)
  under-root v W P h f = go (p % 2) refl
    where
      go : (b : ℕ) → p % 2 ≡ b → v * v < m * (W * W)
      go zero e =
          let t : 2 * halved p ≡ p = omega arith in
          lt_of_lt_of_le (square-less (rw t at h)) (nat-le-trans (le_of_eq (mul-mul-mul_comm p W p W)) (mul-le-mul_right (W * W) is.0))
      go (suc zero) e =
          let t : 2 * halved p - 1 ≡ p = omega arith in
          lt_of_le_of_lt (square_le (rw t at (f e))) (lt_of_le_of_lt (le_of_eq (mul-mul-mul_comm p W p W)) (mul-lt-mul_of_pos_right (odd-below m p four is e) (mul-pos P P)))
      go (suc (suc b)) e = absurd (omega arith)

  over_root : (v W : ℕ) → 0 < W → (2 * halved p + 1) * W ≤ v → m * (W * W) < v * v
  over_root v W P h =
      let t : (p + 1) * W ≤ v = nat-le-trans (mul-le-mul_right {m = p + 1} {n = 2 * halved p + 1} W (omega arith)) h in
      lt_of_lt_of_le (mul-lt-mul_of_pos_right is.1 (mul-pos P P)) (nat-le-trans (le_of_eq (sym (mul-mul-mul_comm (p + 1) W (p + 1) W))) (square_le t))

-- ---- floats
-- two floats at 0 or above in order, as fractions
lt-fractions : (x y : Float) → T (finite x) → T (finite y) → under x ≡ 0 → under y ≡ 0 → T (lt x y) → over x * den y < over y * den x
lt-fractions x y p q u v h = lt_of_not-le (λ (g : over y * den x ≤ over x * den y). lt→not-le x y h (cross→le y x q p (rw (u, v) (omega arith))))

scaled : (N B m A C U : ℕ) → N * B ≡ m * (A * A) → 4 * U ≡ B * (C * C) → 4 * (N * U) ≡ m * (A * C * (A * C))
scaled N B m A C U h k = omega (arith, ap (λ (z : ℕ). z * (C * C)) h, ap (λ (z : ℕ). N * z) k)

-- o / d is r * w / U
record Known (o d U r w : ℕ) : Type 0 where
  is : o * U ≡ r * w * d
  d-pos : 0 < d
  U_pos : 0 < U

-- whether another fraction a / e is below, and the sum of the two
module _ {o d U r w : ℕ} (k : Known o d U r w) (a e : ℕ) where
  lower : a * d < o * e → a * U < r * w * e
  lower l = lt_of_mul-lt-mul_right d (omega (arith, mul-lt-mul_of_pos_right l k.U_pos, ap (λ (z : ℕ). z * e) k.is))

  higher : o * e < a * d → r * w * e < a * U
  higher l = lt_of_mul-lt-mul_right d (omega (arith, mul-lt-mul_of_pos_right l k.U_pos, ap (λ (z : ℕ). z * e) k.is))

  sum_below : a * U < r * w * e → (o * e + a * d) * U < 2 * r * (w * (d * e))
  sum_below l = omega (arith, mul-lt-mul_of_pos_right l k.d-pos, ap (λ (z : ℕ). z * e) k.is)

  sum-lower : (s : ℕ) → r ≡ suc s → a * U ≤ s * w * e → (o * e + a * d) * U ≤ (2 * r - 1) * (w * (d * e))
  sum-lower s t l = let f : 2 * r - 1 ≡ r + s = omega arith in rw f (omega (arith, mul-le-mul_right d l, ap (λ (z : ℕ). z * e) k.is))

  sum-higher : suc r * w * e ≤ a * U → (2 * r + 1) * (w * (d * e)) ≤ (o * e + a * d) * U
  sum-higher l = omega (arith, mul-le-mul_right d l, ap (λ (z : ℕ). z * e) k.is)

-- ---- the root in the smallest values, 2 ^ -1074
-- x has N of them, and sqrt x half of p, rounded up, times 2 ^ (j + 485), where p, of 54 digits, is the whole root of N * 4 ^ 53 / 4 ^ j
record Root (x : Float) : Type 0 where
  N : ℕ
  m : ℕ
  j : ℕ
  p : ℕ
  x-is : over x * 2 ^ 1074 ≡ N * den x
  n-is : N * 4 ^ 53 ≡ m * (2 ^ j * 2 ^ j)
  four : m % 4 ≡ 0
  is : IsRoot m p
  low : 2 ^ 53 ≤ p
  y-is : HasValue (sqrt x) false (halved p * 2 ^ (j + 1 + 484)) (2 ^ 1074)

-- below 2 ^ 2098 of the smallest values j is below 1049
in-format : (j N m : ℕ) → 2 ^ 106 ≤ m → N * 4 ^ 53 ≡ m * (2 ^ j * 2 ^ j) → N < 2 ^ 2098 → j + 485 < 2046
in-format j N m l e h =
    let k : 2 ^ j * 2 ^ j * 4 ^ 53 ≤ N * 4 ^ 53 = nat-le-trans (le_of_eq (mul_comm (2 ^ j * 2 ^ j) (4 ^ 53))) (nat-le-trans (mul-le-mul_right (2 ^ j * 2 ^ j) l) (le_of_eq (sym e))) in
    let t : 2 ^ (j + j) < 2 ^ 2098 = lt_of_le_of_lt (nat-le-trans (le_of_eq (pow-add 2 j j)) (le_of_mul-le-mul_right k (pow_pos 106))) h in
    let u : j + j < 2098 = lt_of_not-le (λ (g : 2098 ≤ j + j). not-le_of_lt t (pow_mono g)) in
    omega arith

below_top : (x : Float) (N : ℕ) → T (fits binary64 x) → T (positive x) → over x * 2 ^ 1074 ≡ N * den x → N < 2 ^ 2098
below_top x N h pos e =
    let l = float-high x (positive-finite x pos) h in
    lt_of_mul-lt-mul_right (den x) (rw (← e, over-num x (positive-under x pos)) (lt_of_lt_of_le (mul-lt-mul_of_pos_right l (pow_pos 1074)) (le_of_eq (mul_right_comm (2 ^ 1024) (den x) (2 ^ 1074)))))

value_of : (x : Float) (a c : ℕ) → T (positive x) → over x * c ≡ a * den x → HasValue x false a c
value_of nan a c p e = absurd p
value_of (inf s) a c p e = absurd p
value_of (fin true m k) a c p e = absurd p
value_of (fin false m k) a c p e = (refl, e)

root : (x : Float) → T (fits binary64 x) → T (positive x) → Root x
root x h pos =
    let g = dyadic-over x (positive-finite x pos) h (positive-under x pos) in
    let q = g.digits in
    let N = q * 2 ^ g.shift in
    let N-pos : 0 < N = first_pos N (den x) (subst (λ (n : ℕ). 0 < n) g.value (mul-pos (positive-over x pos) (pow_pos 1074))) in
    let z = count_leading_zeros 64 q - 11 in
    let n = (normal q (first_pos q (2 ^ g.shift) N-pos) g.few).1 in
    let s = sized q g.shift z n 0 (omega arith) in
    let d = digits (big q g.shift z n) 0 s in
    let m = big q g.shift z n * 2 ^ 54 in
    let j = half q g.shift z n - 1 in
    let e = scale q g.shift z n in
    record {
      N = N;
      m = m;
      j = j;
      p = whole_root m;
      x-is = g.value;
      n-is = e;
      four = omega arith;
      is = whole m;
      low = d.0;
      y-is =
          rw (root-at x N N-pos (value_of x N (2 ^ 1074) pos g.value))
          (root-value N m j (whole_root m) e (omega arith) (whole m) d.0 d.1 (in-format j N m (omega (arith, s.low)) e (below_top x N h pos g.value)));
    }

-- ---- the rule holds of it
module _ (x : Float) (t : Root x) (z : Float) (held : T (fits binary64 z)) (fine : T (finite z)) (nonneg : T (le zero₊ z)) where
  abbrev y : Float
  y = sqrt x

  abbrev r : ℕ
  r = halved t.p

  abbrev w : ℕ
  w = 2 ^ (t.j + 1 + 484)

  is_y : Is y (r * w) (2 ^ 1074)
  is_y = is-of-value y (r * w) (2 ^ 1074) t.y-is

  known : Known (over y) (den y) (2 ^ 1074) r w
  known = record { is = is_y.same; d-pos = den_pos y; U_pos = pow_pos 1074 }

  under-z : under z ≡ 0
  under-z = nonneg-under z fine nonneg

  four-n : 4 * (t.N * 2 ^ 1074) ≡ t.m * (w * w)
  four-n =
      let e : t.j + 1 + 484 ≡ t.j + 485 = omega arith in
      rw (ap (λ (n : ℕ). 2 ^ n) e ∙ pow-add 2 t.j 485) (scaled t.N (4 ^ 53) t.m (2 ^ t.j) (2 ^ 485) (2 ^ 1074) t.n-is refl)

  W-pos : 0 < w * (den y * den z)
  W-pos = mul-pos (pow_pos (t.j + 1 + 484)) (mul-pos (den_pos y) (den_pos z))

  z-below : T (lt z y) → sum_squared x y z < four_times x y z
  z-below h =
      less (over y * den z + over z * den y) (2 ^ 1074) w (den y * den z) t.m t.N (over x) (den x) t.x-is four-n (den_pos x)
      (under-root t.m t.p t.four t.is _ (w * (den y * den z)) W-pos (sum_below known (over z) (den z) l) odd)
    where
      l : over z * 2 ^ 1074 < r * w * den z
      l = lower known (over z) (den z) (lt-fractions z y fine is_y.fine under-z is_y.nonneg h)

      odd : t.p % 2 ≡ 1 → (over y * den z + over z * den y) * 2 ^ 1074 ≤ (2 * r - 1) * (w * (den y * den z))
      odd o =
          let s = t.p / 2 in
          let e : r ≡ suc s = omega arith in
          sum-lower known (over z) (den z) s e (gap z s (t.j + 1 + 484) fine held under-z (omega (arith, t.low)) (rw e at l))

  z-above : T (lt y z) → four_times x y z < sum_squared x y z
  z-above h =
      more (over y * den z + over z * den y) (2 ^ 1074) w (den y * den z) t.m t.N (over x) (den x) t.x-is four-n (den_pos x)
      (over_root t.m t.p t.four t.is _ (w * (den y * den z)) W-pos (sum-higher known (over z) (den z) g))
    where
      l : r * w * den z < over z * 2 ^ 1074
      l = higher known (over z) (den z) (lt-fractions y z is_y.fine fine is_y.nonneg under-z h)

      g : suc r * w * den z ≤ over z * 2 ^ 1074
      g = le_of_suc-le-suc (lt_of_not-le (λ (a : over z * 2 ^ 1074 < suc r * w * den z). not-le_of_lt l (gap z r (t.j + 1 + 484) fine held under-z (omega (arith, t.low)) a)))

pub sqrt-nearest : (x : Float) → T (fits binary64 x) → T (positive x) → Nearest x (sqrt x)
sqrt-nearest x h p =
    let t = root x h p in
    record {
      held = sqrt-fits x h;
      above_zero = positive_of_value (sqrt x) (halved t.p * 2 ^ (t.j + 1 + 484)) (2 ^ 1074) t.y-is (mul-pos (omega (arith, t.low)) (pow_pos (t.j + 1 + 484)));
      below = z-below x t;
      above = z-above x t;
    }

-- ---- and of no other float
same_sum : (x y z : Float) → sum_squared x y z ≡ sum_squared x z y
same_sum x y z = let e : over y * den z + over z * den y ≡ over z * den y + over y * den z = omega arith in ap (λ (s : ℕ). s * s * den x) e

same-four : (x y z : Float) → four_times x y z ≡ four_times x z y
same-four x y z = ap (λ (d : ℕ). 4 * over x * (d * d)) (mul_comm (den y) (den z))

not-less : (x y z : Float) → Nearest x y → Nearest x z → T (not (lt y z))
not-less x y z p q =
    not_T (lt y z) (λ h.
    let u : four_times x y z < sum_squared x y z = p.above z q.held (positive-finite z q.above_zero) (nonneg_of z (positive-finite z q.above_zero) (positive-under z q.above_zero)) h in
    let v : sum_squared x z y < four_times x z y = q.below y p.held (positive-finite y p.above_zero) (nonneg_of y (positive-finite y p.above_zero) (positive-under y p.above_zero)) h in
    omega (arith, u, v, same_sum x y z, same-four x y z))

pub nearest-alone : (x y z : Float) → Nearest x y → Nearest x z → y ≡ z
nearest-alone x y z p q =
    let o : T (ordered y) = finite-ordered y (positive-finite y p.above_zero) in
    let u : T (ordered z) = finite-ordered z (positive-finite z q.above_zero) in
    elim (le_same binary64 y z p.held q.held (not-lt→le z y u o (not-less x z y q p)) (not-lt→le y z o u (not-less x y z p q))) [
      | inl e ↦ e
      | inr b ↦ absurd (positive-no-zero y p.above_zero b.0)
    ]

pub sqrt-alone : (x y : Float) → T (fits binary64 x) → T (positive x) → Nearest x y → y ≡ sqrt x
sqrt-alone x y h p n = nearest-alone x y (sqrt x) n (sqrt-nearest x h p)
