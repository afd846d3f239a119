-- Results that need no rounding: where the format holds the exact sum, difference, product or quotient, that is the result.
-- So a difference of two floats within a factor 2 of each other is exact (Sterbenz). Whole numbers are in Whole, powers of two in Dyadic.
use Rattle.std.specs.Prelude.{◌≡◌, ℕ, ◌+◌, ◌-◌, ◌*◌, ◌^◌, ◌<◌, ◌≤◌, true, false, T, nat_le, Float}
use Rattle.std.proofs.Common.{sym, ap, ◌∙◌, subst, inl, inr, le_trans as nat-le-trans, le_of_eq as nat-le-of-eq, lt_of_le_of_lt, lt_of_lt_of_le, le_of_mul-le-mul_right, mul-le-mul_right, mul-lt-mul_of_pos_right, mul-pos, mul_assoc, le_of_lt, arith, leb→le, pow_pos}
use Rattle.std.proofs.Math.Dec.{nleb→lt}
use Rattle.std.specs.Float.{nan, inf, fin, binary64}
use Rattle.std.specs.Float.Ieee.{le, round, add, sub, mul, div, fits}
use Rattle.std.specs.Float.Ieee.Scale.{finite}
use Rattle.std.specs.Float.Ieee.Positive.{den, den_pos, positive}
use Rattle.float_order.specs.Arith.{either, dist, dist-mul, pow-split}
use Rattle.float_order.specs.Order.{over, under, le→cross, cross→le, cross-trans, over-neg, under-neg, den-neg, finite-neg}
use Rattle.float_order.specs.Round.{Rounds, neg-round}
use Rattle.float_order.specs.Ops.{zero₊, add_rounds, sub-rounds, mul-rounds, div-rounds, nonneg-under, positive-over}
use Rattle.float_order.specs.Dyadic.{Dyadic}
use Rattle.float_order.proofs.Dyadic.{dyadic-is, dyadic-over, over-num, float-high}
use Rattle.float_order.specs.Relative.{add-size, sub-size, mul-size, div-size}
use Rattle.float_order.specs.Equal.{IsDiff, double}

-- two such values compare as their fractions do
pub diff-le : {z w : Float} {p n d p' n' d' : ℕ} → IsDiff z p n d → IsDiff w p' n' d' → 0 < d → 0 < d' → p * d' + n' * d ≤ p' * d + n * d' → T (le z w)
diff-le {z} {w} {p} {n} {d} {p'} {n'} {d'} a b D D' h =
    cross→le z w a.fine b.fine
    (cross-trans (over z) (under z) (den z) p' n' d' (over w) (under w) (den w) D'
    (cross-trans (over z) (under z) (den z) p n d p' n' d' D (nat-le-of-eq a.same) h)
    (omega (arith, b.same)))

-- ---- an exact result (p - n) / d that the format holds is what comes out
above_zero : (o u e p n d a : ℕ) → a + n ≡ p → u ≡ 0 → o * d ≡ a * e → o * d + n * e ≡ p * e + u * d
above_zero o u e p n d a h z k = rw z (omega (arith, ap (λ (w : ℕ). w * e) h))

below-zero : (o u e p n d a : ℕ) → a + p ≡ n → u ≡ 0 → o * d ≡ a * e → u * d + n * e ≡ p * e + o * d
below-zero o u e p n d a h z k = rw z (omega (arith, ap (λ (w : ℕ). w * e) h))

pub rounds-diff : (z : Float) (p n d : ℕ) → Rounds binary64 z p n d → 0 < d → Dyadic (dist p n) d → dist p n < 2 ^ 1024 * d → IsDiff z p n d
rounds-diff z p n d (inl r) D g h =
    let k = r.0 in
    let w = round binary64 false (dist p n) d in
    let e : p - n ≡ dist p n = omega arith in
    let s : dist p n + n ≡ p = omega arith in
    let i = dyadic-is (dist p n) d g D h in
    subst (λ (v : Float). IsDiff v p n d) (sym (r.1 ∙ ap (λ (a : ℕ). round binary64 false a d) e))
    (record { fine = i.fine; same = above_zero (over w) (under w) (den w) p n d (dist p n) s i.nonneg i.same })
rounds-diff z p n d (inr r) D g h =
    let k = r.0 in
    let w = round binary64 false (dist p n) d in
    let e : n - p ≡ dist p n = omega arith in
    let s : dist p n + p ≡ n = omega arith in
    let i = dyadic-is (dist p n) d g D h in
    subst (λ (v : Float). IsDiff v p n d) (sym (r.1 ∙ ap (λ (a : ℕ). round binary64 true a d) e ∙ sym (neg-round binary64 (dist p n) d)))
    (record {
      fine = finite-neg w i.fine;
      same = rw (over-neg w, under-neg w, den-neg w) (below-zero (over w) (under w) (den w) p n d (dist p n) s i.nonneg i.same);
    })

-- ---- the operations
module _ (x y : Float) (p : T (finite x)) (q : T (finite y)) where
  D : 0 < den x * den y
  D = mul-pos (den_pos x) (den_pos y)

  pub add-exact : Dyadic (add-size x y) (den x * den y) → add-size x y < 2 ^ 1024 * (den x * den y)
      → IsDiff (add binary64 x y) (over x * den y + over y * den x) (under x * den y + under y * den x) (den x * den y)
  add-exact g h = rounds-diff (add binary64 x y) _ _ _ (add_rounds binary64 x y p q) D g h

  pub sub-exact : Dyadic (sub-size x y) (den x * den y) → sub-size x y < 2 ^ 1024 * (den x * den y)
      → IsDiff (sub binary64 x y) (over x * den y + under y * den x) (under x * den y + over y * den x) (den x * den y)
  sub-exact g h = rounds-diff (sub binary64 x y) _ _ _ (sub-rounds binary64 x y p q) D g h

  pub mul-exact : Dyadic (mul-size x y) (den x * den y) → mul-size x y < 2 ^ 1024 * (den x * den y)
      → IsDiff (mul binary64 x y) (over x * over y + under x * under y) (over x * under y + under x * over y) (den x * den y)
  mul-exact g h = rounds-diff (mul binary64 x y) _ _ _ (mul-rounds binary64 x y p q) D g h

pub div-exact : (x y : Float) → T (finite x) → T (positive y) → Dyadic (div-size x y) (over y * den x) → div-size x y < 2 ^ 1024 * (over y * den x)
    → IsDiff (div binary64 x y) (over x * den y) (under x * den y) (over y * den x)
div-exact x y p q g h = rounds-diff (div binary64 x y) _ _ _ (div-rounds binary64 x y p q) (mul-pos (positive-over y q) (den_pos x)) g h

double-cross : (x y : Float) → T (finite x) → T (finite y) → under x ≡ 0 → T (le x (double y)) → over x * den y ≤ 2 * (over y * den x)
double-cross x nan p q u h = absurd q
double-cross x (inf s) p q u h = absurd q
double-cross x (fin true m e) p q u h = let k = rw u at (le→cross x (fin true (2 * m) e) p tt h) in omega arith
double-cross x (fin false m e) p q u h = let k = rw u at (le→cross x (fin false (2 * m) e) p tt h) in omega arith

-- x and y are A and B units, U of them to 1
in-units : (ox dx oy dy A B U : ℕ) → 0 < dx * dy → ox * U ≡ A * dx → oy * U ≡ B * dy → ox * dy ≤ 2 * (oy * dx) → A ≤ 2 * B
in-units ox dx oy dy A B U C a b h = le_of_mul-le-mul_right (omega (arith, mul-le-mul_right U h, ap (λ (z : ℕ). z * dy) a, ap (λ (z : ℕ). z * dx) b)) C

-- the difference has the smaller shift, and no more digits than the one with that shift
few-digits : (a j b k : ℕ) → j ≤ k → a < 2 ^ 53 → b * 2 ^ k ≤ 2 * (a * 2 ^ j) → (q : ℕ) × (q < 2 ^ 53) × (dist (a * 2 ^ j) (b * 2 ^ k) ≡ q * 2 ^ j)
few-digits a j b k l h t =
    let B = b * 2 ^ (k - j) in
    let e : b * 2 ^ k ≡ B * 2 ^ j = ap (λ (z : ℕ). b * z) (sym (pow-split j k l)) ∙ sym (mul_assoc b (2 ^ (k - j)) (2 ^ j)) in
    let c : B ≤ 2 * a = le_of_mul-le-mul_right (nat-le-trans (nat-le-of-eq (sym e)) (nat-le-trans t (nat-le-of-eq (sym (mul_assoc 2 a (2 ^ j)))))) (pow_pos j) in
    (dist a B, lt_of_le_of_lt (near a B c) h, ap (dist (a * 2 ^ j)) e ∙ dist-mul a B (2 ^ j))
  where
    near : (m n : ℕ) → n ≤ 2 * m → dist m n ≤ m
    near m n g = omega arith

either-digits : (a j b k : ℕ) → a < 2 ^ 53 → b < 2 ^ 53 → a * 2 ^ j ≤ 2 * (b * 2 ^ k) → b * 2 ^ k ≤ 2 * (a * 2 ^ j)
    → (q : ℕ) × (i : ℕ) × (q < 2 ^ 53) × (dist (a * 2 ^ j) (b * 2 ^ k) ≡ q * 2 ^ i)
either-digits a j b k A B h t = elim (either (nat_le j k)) [
  | inl l ↦ let d = few-digits a j b k (leb→le j k l) A t in (d.0, j, d.1, d.2)
  | inr l ↦ let d = few-digits b k a j (le_of_lt (nleb→lt j k l)) B h in (d.0, k, d.1, turn (a * 2 ^ j) (b * 2 ^ k) ∙ d.2)
]
  where
    turn : (m n : ℕ) → dist m n ≡ dist n m
    turn m n = omega arith

pub sterbenz : (x y : Float) → T (finite x) → T (finite y) → T (fits binary64 x) → T (fits binary64 y) → T (le zero₊ x) → T (le zero₊ y) → T (le x (double y))
    → T (le y (double x))
    → IsDiff (sub binary64 x y) (over x * den y + under y * den x) (under x * den y + over y * den x) (den x * den y)
sterbenz x y p q f g zx zy h k =
    let u : under x ≡ 0 = nonneg-under x p zx in
    let v : under y ≡ 0 = nonneg-under y q zy in
    let C : 0 < den x * den y = mul-pos (den_pos x) (den_pos y) in
    let X = dyadic-over x p f u in
    let Y = dyadic-over y q g v in
    let A = X.digits * 2 ^ X.shift in
    let B = Y.digits * 2 ^ Y.shift in
    let H : over x * den y ≤ 2 * (over y * den x) = double-cross x y p q u h in
    let K : over y * den x ≤ 2 * (over x * den y) = double-cross y x q p v k in
    let d = either-digits X.digits X.shift Y.digits Y.shift X.few Y.few
    (in-units (over x) (den x) (over y) (den y) A B (2 ^ 1074) C X.value Y.value H)
    (in-units (over y) (den y) (over x) (den x) B A (2 ^ 1074) (mul-pos (den_pos y) (den_pos x)) Y.value X.value K) in
    let e : sub-size x y ≡ dist (over x * den y) (over y * den x) = rw (u, v) (plain (over x * den y) (over y * den x) (den x) (den y)) in
    sub-exact x y p q
    (record {
      digits = d.0;
      shift = d.1;
      few = d.2;
      value = in-dist (sub-size x y) (over x) (den x) (over y) (den y) A B (d.0 * 2 ^ d.1) (2 ^ 1074) e d.3 X.value Y.value;
    })
    (lt_of_le_of_lt (nat-le-trans (nat-le-of-eq e) (near (over x * den y) (over y * den x) K))
    (lt_of_lt_of_le (mul-lt-mul_of_pos_right (rw (over-num x u) (float-high x p f)) (den_pos y)) (nat-le-of-eq (mul_assoc (2 ^ 1024) (den x) (den y)))))
  where
    plain : (s t c d : ℕ) → dist (s + 0 * c) (0 * d + t) ≡ dist s t
    plain s t c d = omega arith

    near : (s t : ℕ) → t ≤ 2 * s → dist s t ≤ s
    near s t g = omega arith

    in-dist : (n ox dx oy dy A B Q U : ℕ) → n ≡ dist (ox * dy) (oy * dx) → dist A B ≡ Q → ox * U ≡ A * dx → oy * U ≡ B * dy → n * U ≡ Q * (dx * dy)
    in-dist n ox dx oy dy A B Q U e d a b =
        let l : ox * dy * U ≡ A * (dx * dy) = omega (arith, ap (λ (z : ℕ). z * dy) a) in
        let r : oy * dx * U ≡ B * (dx * dy) = omega (arith, ap (λ (z : ℕ). z * dx) b) in
        rw (e, ← dist-mul (ox * dy) (oy * dx) U, l, r, dist-mul A B (dx * dy), d)
