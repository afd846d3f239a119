-- The relative error of one rounding: |fl(a / c) - a / c| ≤ 2 ^ -53 * a / c, where a / c is 2 ^ -1022 at least, or a whole number of the smallest values,
-- 2 ^ -1074. Sums and differences of floats are such whole numbers, so for them it holds always.
-- All in natural numbers: a value z is num z / den z in size, and a factor 2 ^ 53 stands on both sides.
use Rattle.std.specs.Prelude.{◌≡◌, ℕ, ◌+◌, ◌-◌, ◌*◌, ◌/◌, ◌^◌, ◌<◌, ◌≤◌, Bool, true, false, T, refl, Float}
use Rattle.std.proofs.Common.{sym, ap, ◌∙◌, subst, inl, inr, le_trans as nat-le-trans, le_of_eq as nat-le-of-eq, eq-zero-or-pos, zero-mul, mul-one, mul-le-mul_right, mul-le-mul_left, le_of_mul-le-mul_right, mul-pos, le-div_iff_mul-le, arith, lit≤, pow-add, pow_pos}
use Rattle.std.specs.Float.{nan, inf, fin, binary64}
use Rattle.std.specs.Float.Ieee.{neg, size, round, add, sub, mul, div, fits}
use Rattle.std.specs.Float.Ieee.Digits.{size_reaches}
use Rattle.std.specs.Float.Ieee.Nearest.{closest}
use Rattle.std.specs.Float.Ieee.Order.{drop}
use Rattle.std.specs.Float.Ieee.Scale.{finite, normal_of_fraction}
use Rattle.std.specs.Float.Ieee.Positive.{num, den, den_pos, positive}
use Rattle.float_order.specs.Arith.{sub-mul}
use Rattle.float_order.specs.Order.{gain, loss, over, under, den-neg, finite-neg, neg-neg}
use Rattle.float_order.specs.Round.{Rounds, neg-round}
use Rattle.float_order.specs.Ops.{add_rounds, sub-rounds, mul-rounds, div-rounds, positive-over}
use Rattle.float_order.specs.Digits.{closest-near}
use Rattle.float_order.specs.Error.{round-num}
use Rattle.float_order.proofs.Dyadic.{dyadic-float}
use Rattle.float_order.specs.Arith.{dist}
use Rattle.float_order.specs.Digits.{closest-whole}
use Rattle.float_order.specs.Relative.{Units, Good, Fine, Near, add-size, sub-size, mul-size, div-size}

many-digits : (n c : ℕ) → 0 < c → 53 ≤ size (n / c) → 2 ^ 52 * (c * 2 ^ drop 53 n c) ≤ n
many-digits n c C h =
    let k = drop 53 n c in
    nat-le-trans (nat-le-of-eq (sort (2 ^ 52) c (2 ^ k) ∙ ap (λ (z : ℕ). z * c) (sym (pow-add 2 52 k)))) ((le-div_iff_mul-le C).0 (size_reaches (n / c) (52 + k) (last (size (n / c)) h)))
  where
    last : (z : ℕ) → 53 ≤ z → 52 + (z - 53) < z
    last z l = omega arith

    sort : (x y z : ℕ) → x * (y * z) ≡ x * z * y
    sort x y z = omega arith

fine-units : (n c x : ℕ) → 0 < c → n ≡ x * c → (z : ℕ) → size (n / c) ≡ z → Fine n (c * 2 ^ (z - 53))
fine-units n c x C e z s = elim (eq-zero-or-pos (z - 53)) [
  | inl q ↦ inr (record { many = x; is = e ∙ ap (λ (w : ℕ). x * w) (sym (ap (λ (w : ℕ). c * 2 ^ w) q ∙ mul-one c)) })
  | inr q ↦ inl (subst (λ (w : ℕ). 2 ^ 52 * (c * 2 ^ (w - 53)) ≤ n) s (many-digits n c C (subst (λ (w : ℕ). 53 ≤ w) (sym s) (enough z q))))
]
  where
    enough : (w : ℕ) → 0 < w - 53 → 53 ≤ w
    enough w h = omega arith

pub fine : (a c : ℕ) → 0 < c → Good a c → Fine (a * 2 ^ 1074) (c * 2 ^ drop 53 (a * 2 ^ 1074) c)
fine a c C (inl g) = fine-units (a * 2 ^ 1074) c g.count C g.whole (size (a * 2 ^ 1074 / c)) refl
fine a c C (inr g) = inl (many-digits (a * 2 ^ 1074) c C (normal_of_fraction binary64 a c C g))

-- ---- the bounds in units of the last place: q * u is the rounded numerator
rel-high : (q u n K : ℕ) → q * u * 2 ≤ n * 2 + u → K * u ≤ n → q * u * (K * 2) ≤ n * (K * 2) + n
rel-high q u n K h g = omega (arith, mul-le-mul_right K h)

rel-low : (q u n K : ℕ) → n * 2 ≤ q * u * 2 + u → K * u ≤ n → n * (K * 2) ≤ q * u * (K * 2) + n
rel-low q u n K h g = omega (arith, mul-le-mul_right K h)

same-high : (x y H : ℕ) → x ≡ y → x * H ≤ y * H + y
same-high x y H e = rw e (omega arith)

same_low : (x y H : ℕ) → x ≡ y → y * H ≤ x * H + y
same_low x y H e = rw e (omega arith)

fine-high : (n u : ℕ) → 0 < u → Fine n u → closest n u * u * 2 ^ 53 ≤ n * 2 ^ 53 + n
fine-high n u h (inl g) = rel-high (closest n u) u n (2 ^ 52) (closest-near n u h).0 g
fine-high n u h (inr g) = same-high (closest n u * u) n (2 ^ 53) (closest-whole g.many n u h g.is)

fine-low : (n u : ℕ) → 0 < u → Fine n u → n * 2 ^ 53 ≤ closest n u * u * 2 ^ 53 + n
fine-low n u h (inl g) = rel-low (closest n u) u n (2 ^ 52) (closest-near n u h).1 g
fine-low n u h (inr g) = same_low (closest n u * u) n (2 ^ 53) (closest-whole g.many n u h g.is)

-- from units to the value: nz / dz = g * 2 ^ -1074
value-high : (g c a nz dz U H : ℕ) → 0 < U → nz * U ≡ g * dz → g * c * H ≤ a * U * H + a * U → nz * c * H ≤ a * dz * H + a * dz
value-high g c a nz dz U H P e h = le_of_mul-le-mul_right (omega (arith, mul-le-mul_right dz h, ap (λ (z : ℕ). z * (c * H)) e)) P

value_low : (g c a nz dz U H : ℕ) → 0 < U → nz * U ≡ g * dz → a * U * H ≤ g * c * H + a * U → a * dz * H ≤ nz * c * H + a * dz
value_low g c a nz dz U H P e h = le_of_mul-le-mul_right (omega (arith, mul-le-mul_right dz h, ap (λ (z : ℕ). z * (c * H)) e)) P

units-of-last : (q c k : ℕ) → q * (c * k) ≡ q * k * c
units-of-last q c k = omega arith

pub round-near : (a c : ℕ) → 0 < c → Good a c → T (finite (round binary64 false a c)) → Near (round binary64 false a c) a c
round-near a c C g F =
    let n = a * 2 ^ 1074 in
    let k = drop 53 n c in
    let u = c * 2 ^ k in
    let q = closest n u in
    let z = round binary64 false a c in
    let U : 0 < u = mul-pos C (pow_pos k) in
    let f : Fine n u = fine a c C g in
    let e : q * u ≡ q * 2 ^ k * c = units-of-last q c (2 ^ k) in
    let v = round-num a c F in
    record {
      high = value-high (q * 2 ^ k) c a (num z) (den z) (2 ^ 1074) (2 ^ 53) (pow_pos 1074) v.0 (subst (λ (w : ℕ). w * 2 ^ 53 ≤ n * 2 ^ 53 + n) e (fine-high n u U f));
      low = value_low (q * 2 ^ k) c a (num z) (den z) (2 ^ 1074) (2 ^ 53) (pow_pos 1074) v.0 (subst (λ (w : ℕ). n * 2 ^ 53 ≤ w * 2 ^ 53 + n) e (fine-low n u U f));
    }

-- ---- with signs: the size of an exact result (p - n) / d
num-neg : (x : Float) → num (neg x) ≡ num x
unfolding neg
num-neg nan = refl
num-neg (inf s) = refl
num-neg (fin s m e) = refl

near-neg : (z : Float) (a c : ℕ) → Near z a c → Near (neg z) a c
near-neg z a c h = record { high = rw (num-neg z, den-neg z) h.high; low = rw (num-neg z, den-neg z) h.low }

pub rounds-near : (z : Float) (p n d : ℕ) → Rounds binary64 z p n d → 0 < d → Good (dist p n) d → T (finite z) → Near z (dist p n) d
rounds-near z p n d (inl r) D g F =
    let e : p - n ≡ dist p n = left p n r.0 in
    let i : z ≡ round binary64 false (dist p n) d = r.1 ∙ ap (λ (k : ℕ). round binary64 false k d) e in
    subst (λ (w : Float). Near w (dist p n) d) (sym i) (round-near (dist p n) d D g (subst (λ (w : Float). T (finite w)) i F))
  where
    left : (i j : ℕ) → j ≤ i → i - j ≡ (i - j) + (j - i)
    left i j h = omega arith
rounds-near z p n d (inr r) D g F =
    let w = round binary64 false (dist p n) d in
    let e : n - p ≡ dist p n = right p n r.0 in
    let i : z ≡ neg w = r.1 ∙ ap (λ (k : ℕ). round binary64 true k d) e ∙ sym (neg-round binary64 (dist p n) d) in
    let j : T (finite w) = subst (λ (v : Float). T (finite v)) (neg-neg w) (finite-neg (neg w) (subst (λ (v : Float). T (finite v)) i F)) in
    subst (λ (v : Float). Near v (dist p n) d) (sym i) (near-neg w (dist p n) d (round-near (dist p n) d D g j))
  where
    right : (i j : ℕ) → i ≤ j → j - i ≡ (i - j) + (j - i)
    right i j h = omega arith

-- ---- sums of floats are whole numbers of 2 ^ -1074
pub units-num : (x : Float) → T (finite x) → T (fits binary64 x) → Units (num x) (den x)
units-num x p f = let g = dyadic-float x p f in record { count = g.digits * 2 ^ g.shift; whole = g.value }

units-gain : (s : Bool) (a c : ℕ) → Units a c → Units (gain s a) c
units-gain false a c h = h
units-gain true a c h = record { count = 0; whole = zero-mul (2 ^ 1074) ∙ sym (zero-mul c) }

units-loss : (s : Bool) (a c : ℕ) → Units a c → Units (loss s a) c
units-loss true a c h = h
units-loss false a c h = record { count = 0; whole = zero-mul (2 ^ 1074) ∙ sym (zero-mul c) }

pub units-over : (x : Float) → T (finite x) → T (fits binary64 x) → Units (over x) (den x)
units-over nan p f = absurd p
units-over (inf s) p f = absurd p
units-over (fin s m e) p f = units-gain s (num (fin s m e)) (den (fin s m e)) (units-num (fin s m e) p f)

pub units_under : (x : Float) → T (finite x) → T (fits binary64 x) → Units (under x) (den x)
units_under nan p f = absurd p
units_under (inf s) p f = absurd p
units_under (fin s m e) p f = units-loss s (num (fin s m e)) (den (fin s m e)) (units-num (fin s m e) p f)

pub units-sum : {a c b d : ℕ} → Units a c → Units b d → Units (a * d + b * c) (c * d)
units-sum {a} {c} {b} {d} h k = record { count = h.count + k.count; whole = sum a b c d h.count k.count (2 ^ 1074) h.whole k.whole }
  where
    sum : (a b c d i j U : ℕ) → a * U ≡ i * c → b * U ≡ j * d → (a * d + b * c) * U ≡ (i + j) * (c * d)
    sum a b c d i j U e g = omega (arith, ap (λ (z : ℕ). z * d) e, ap (λ (z : ℕ). z * c) g)

pub units-diff : {a b c : ℕ} → Units a c → Units b c → Units (a - b) c
units-diff {a} {b} {c} h k = record {
  count = h.count - k.count;
  whole = sub-mul a b (2 ^ 1074) ∙ ap (λ (z : ℕ). z - b * 2 ^ 1074) h.whole ∙ ap (λ (z : ℕ). h.count * c - z) k.whole ∙ sym (sub-mul h.count k.count c);
}

pub units-add : {a b c : ℕ} → Units a c → Units b c → Units (a + b) c
units-add {a} {b} {c} h k = record { count = h.count + k.count; whole = sum a b c h.count k.count (2 ^ 1074) h.whole k.whole }
  where
    sum : (a b c i j U : ℕ) → a * U ≡ i * c → b * U ≡ j * c → (a + b) * U ≡ (i + j) * c
    sum a b c i j U e g = omega arith

-- a sum and a difference: always
pub add-near : (x y : Float) → T (finite x) → T (finite y) → T (fits binary64 x) → T (fits binary64 y) → T (finite (add binary64 x y))
    → Near (add binary64 x y) (add-size x y) (den x * den y)
add-near x y p q f g F =
    let P = units-sum (units-over x p f) (units-over y q g) in
    let N = units-sum (units_under x p f) (units_under y q g) in
    rounds-near (add binary64 x y) _ _ _ (add_rounds binary64 x y p q) (mul-pos (den_pos x) (den_pos y)) (inl (units-add (units-diff P N) (units-diff N P))) F

pub sub-near : (x y : Float) → T (finite x) → T (finite y) → T (fits binary64 x) → T (fits binary64 y) → T (finite (sub binary64 x y))
    → Near (sub binary64 x y) (sub-size x y) (den x * den y)
sub-near x y p q f g F =
    let P = units-sum (units-over x p f) (units_under y q g) in
    let N = units-sum (units_under x p f) (units-over y q g) in
    rounds-near (sub binary64 x y) _ _ _ (sub-rounds binary64 x y p q) (mul-pos (den_pos x) (den_pos y)) (inl (units-add (units-diff P N) (units-diff N P))) F

-- a product and a quotient: where the exact result is 2 ^ -1022 at least, or a whole number of 2 ^ -1074, such as 0
pub mul-near : (x y : Float) → T (finite x) → T (finite y) → Good (mul-size x y) (den x * den y) → T (finite (mul binary64 x y))
    → Near (mul binary64 x y) (mul-size x y) (den x * den y)
mul-near x y p q g F = rounds-near (mul binary64 x y) _ _ _ (mul-rounds binary64 x y p q) (mul-pos (den_pos x) (den_pos y)) g F

pub div-near : (x y : Float) → T (finite x) → T (positive y) → Good (div-size x y) (over y * den x) → T (finite (div binary64 x y))
    → Near (div binary64 x y) (div-size x y) (over y * den x)
div-near x y p q g F = rounds-near (div binary64 x y) _ _ _ (div-rounds binary64 x y p q) (mul-pos (positive-over y q) (den_pos x)) g F

pub zero-good : (c : ℕ) → Good 0 c
zero-good c = inl (record { count = 0; whole = zero-mul (2 ^ 1074) ∙ sym (zero-mul c) })

-- ---- one-sided: at most twice, and at least half
small-part : (x y H : ℕ) → 2 ≤ H → x * H ≤ y * H + y → x ≤ y * 2
small-part x y H h k = le_of_mul-le-mul_right (omega (arith, mul-le-mul_left y h)) (nat-le-trans (lit≤ tt) h)

large-part : (x y H : ℕ) → 2 ≤ H → y * H ≤ x * H + y → y ≤ x * 2
large-part x y H h k = le_of_mul-le-mul_right (omega (arith, mul-le-mul_left y h)) (nat-le-trans (lit≤ tt) h)

pub near-twice : (z : Float) (a c : ℕ) → Near z a c → num z * c ≤ a * den z * 2
near-twice z a c h = small-part (num z * c) (a * den z) (2 ^ 53) (lit≤ tt) h.high

pub near-half : (z : Float) (a c : ℕ) → Near z a c → a * den z ≤ num z * c * 2
near-half z a c h = large-part (num z * c) (a * den z) (2 ^ 53) (lit≤ tt) h.low
