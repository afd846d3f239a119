-- Fractions that binary64 holds: a / c is q * 2 ^ j of the smallest values, 2 ^ -1074, with q below 2 ^ 53. Rounding leaves such a fraction as it is,
-- if it is below 2 ^ 1024. A product by a power of two keeps it one, so scaling is exact; and it goes through a rounding in the normal range.
use Rattle.std.specs.Prelude.{◌≡◌, ℕ, zero, suc, ◌+◌, ◌-◌, ◌*◌, ◌^◌, ◌<◌, ◌≤◌, Bool, true, false, T, ℤ, pos, negsuc, refl, Float}
use Rattle.std.proofs.Common.{sym, ap, ◌∙◌, subst, inl, inr, le_trans as nat-le-trans, le_of_eq as nat-le-of-eq, lt_of_lt_of_le, lt_of_le_of_lt, lt_of_not-le, not-le_of_lt, zero-mul, mul-one, one-mul, mul_comm as nat-mul-comm, mul_assoc, mul_right_comm, mul-le-mul, mul-lt-mul_of_pos_right, lt_of_mul-lt-mul_right, le_of_mul-le-mul_right, mul-pos, zero-lt-suc, arith, true≢false, pow-add, pow_pos, pow_mono}
use Rattle.std.proofs.Math.Nat.{sub-zero, eq_of_mul-eq-mul_right}
use Rattle.std.specs.Float.{nan, inf, fin, binary64}
use Rattle.std.specs.Float.Ieee.{up, down, le, neg, round, add, mul, fits}
use Rattle.std.specs.Float.Ieee.Fits.{neg-fits}
use Rattle.std.specs.Float.Ieee.Exact.{HasValue, round_exact}
use Rattle.std.specs.Float.Ieee.Scale.{finite, grid, overflow, round_val, round_under, round_same, grid_scale, normal_of_fraction}
use Rattle.std.specs.Float.Ieee.Positive.{num, den, den_pos, first_pos}
use Rattle.float_order.specs.Arith.{pow_le_back, pow-split}
use Rattle.float_order.specs.Order.{over, under, over-neg, under-neg, den-neg, finite-neg, neg-neg}
use Rattle.float_order.specs.Round.{sign-rounds, Rounds, rounds-mono, round-zero}
use Rattle.float_order.specs.Ops.{mul-neg-l, add_rounds, mul-rounds}
use Rattle.float_order.specs.Range.{Within}
use Rattle.float_order.specs.Exact.{self-rounds, held}
use Rattle.float_order.specs.Error.{rounds-is}
use Rattle.float_order.specs.Dyadic.{Dyadic, Is, two^, Scaled, half^}

pub is-of-value : (x : Float) (a c : ℕ) → HasValue x false a c → Is x a c
is-of-value nan a c h = absurd h
is-of-value (inf s) a c h = absurd h
is-of-value (fin true m e) a c h = absurd (true≢false h.0)
is-of-value (fin false m e) a c h = record { fine = tt; nonneg = refl; same = h.1 }

below_top : (q j a c u v w : ℕ) → u * v ≡ w → a * u ≡ q * j * c → 0 < c → 0 < u → a < v * c → q * j < w
below_top q j a c u v w i e C P h =
    lt_of_mul-lt-mul_right c
    (lt_of_le_of_lt (nat-le-of-eq (sym e)) (lt_of_lt_of_le (mul-lt-mul_of_pos_right h P) (nat-le-of-eq (mul_right_comm v c u ∙ ap (λ (z : ℕ). z * c) (nat-mul-comm v u ∙ i)))))

-- rounding leaves it
pub dyadic-round : (s : Bool) (a c : ℕ) → Dyadic a c → 0 < c → a < 2 ^ 1024 * c → HasValue (round binary64 s a c) s a c
dyadic-round s a c g C h =
    round_exact binary64 s a c g.digits g.shift C g.few
    (below_top g.digits (2 ^ g.shift) a c (2 ^ 1074) (2 ^ 1024) (2 ^ (1074 + 1024)) (sym (pow-add 2 1074 1024)) g.value C (pow_pos 1074) h) g.value

pub dyadic-is : (a c : ℕ) → Dyadic a c → 0 < c → a < 2 ^ 1024 * c → Is (round binary64 false a c) a c
dyadic-is a c g C h = is-of-value (round binary64 false a c) a c (dyadic-round false a c g C h)

-- what the format holds is one
fin-dyadic : (m : ℕ) (e : ℤ) → m < 2 ^ 53 → down e ≤ 2 ^ 1074 → Dyadic (m * up e) (down e)
fin-dyadic m (pos k) d l = record {
  digits = m;
  shift = k + 1074;
  few = d;
  value = mul_assoc m (2 ^ k) (2 ^ 1074) ∙ ap (λ (z : ℕ). m * z) (sym (pow-add 2 k 1074)) ∙ sym (mul-one (m * 2 ^ (k + 1074)));
}
fin-dyadic m (negsuc k) d l = record {
  digits = m;
  shift = 1074 - suc k;
  few = d;
  value = ap (λ (z : ℕ). z * 2 ^ 1074) (mul-one m) ∙ ap (λ (z : ℕ). m * z) (sym (pow-split (suc k) 1074 (pow_le_back (suc k) 1074 l))) ∙ sym (mul_assoc m (2 ^ (1074 - suc k)) (2 ^ suc k));
}

pub dyadic-float : (x : Float) → T (finite x) → T (fits binary64 x) → Dyadic (num x) (den x)
dyadic-float nan p t = absurd p
dyadic-float (inf s) p t = absurd p
dyadic-float (fin s m e) p t = let h = held binary64 s m e t in fin-dyadic m e h.digits h.deep

-- and lies below 2 ^ 1024
pub float-high : (x : Float) → T (finite x) → T (fits binary64 x) → num x < 2 ^ 1024 * den x
float-high nan p t = absurd p
float-high (inf s) p t = absurd p
float-high (fin s m e) p t = (held binary64 s m e t).high

-- of a value that is not negative
pub over-num : (x : Float) → under x ≡ 0 → over x ≡ num x
over-num nan h = refl
over-num (inf s) h = refl
over-num (fin false m e) h = refl
over-num (fin true m e) h = sym h

pub dyadic-over : (x : Float) → T (finite x) → T (fits binary64 x) → under x ≡ 0 → Dyadic (over x) (den x)
dyadic-over x p t z = subst (λ (n : ℕ). Dyadic n (den x)) (sym (over-num x z)) (dyadic-float x p t)

-- times a power of two
pub dyadic-up : {a c : ℕ} → Dyadic a c → (t : ℕ) → Dyadic (a * 2 ^ t) c
dyadic-up {a} {c} g t = record {
  digits = g.digits;
  shift = g.shift + t;
  few = g.few;
  value = rw (pow-add 2 g.shift t) (times a c g.digits (2 ^ g.shift) (2 ^ t) (2 ^ 1074) g.value);
}
  where
    times : (a c q P W U : ℕ) → a * U ≡ q * P * c → a * W * U ≡ q * (P * W) * c
    times a c q P W U e = omega (arith, ap (λ (z : ℕ). z * W) e)

-- by a power of two, where the result is normal: 2 ^ -1022 at least
deep-enough : (q j t c : ℕ) → 0 < c → q < 2 ^ 53 → 2 ^ (52 + t) * c ≤ q * 2 ^ j * c → t ≤ j
deep-enough q j t c C Q h =
    let g : 2 ^ (52 + t) ≤ q * 2 ^ j = le_of_mul-le-mul_right h C in
    let k : 2 ^ (52 + t) < 2 ^ (53 + j) = lt_of_le_of_lt g (lt_of_lt_of_le (mul-lt-mul_of_pos_right Q (pow_pos j)) (nat-le-of-eq (sym (pow-add 2 53 j)))) in
    past t j (lt_of_not-le (λ (l : 53 + j ≤ 52 + t). not-le_of_lt k (pow_mono l)))
  where
    past : (u v : ℕ) → 52 + u < 53 + v → u ≤ v
    past u v l = omega arith

pub dyadic-down : {a c : ℕ} → Dyadic a c → (t : ℕ) → 0 < c → 2 ^ (52 + t) * c ≤ a * 2 ^ 1074 → Dyadic a (c * 2 ^ t)
dyadic-down {a} {c} g t C h =
    let q = g.digits in
    let j = g.shift in
    let l : t ≤ j = deep-enough q j t c C g.few (nat-le-trans h (nat-le-of-eq g.value)) in
    record {
      digits = q;
      shift = j - t;
      few = g.few;
      value = by (a * 2 ^ 1074) c q (2 ^ (j - t)) (2 ^ t) (2 ^ j) g.value (pow-split t j l);
    }
  where
    by : (n c q P W J : ℕ) → n ≡ q * J * c → P * W ≡ J → n ≡ q * P * (c * W)
    by n c q P W J e k = omega (arith, ap (λ (z : ℕ). q * c * z) k)

-- ---- bounds: an exact result (p - n) / d against a / c
pub below-round : (z : Float) (p n d a c : ℕ) → Rounds binary64 z p n d → 0 < d → 0 < c → p * c ≤ a * d + n * c → T (le z (round binary64 false a c))
below-round z p n d a c r D C h =
    rounds-mono binary64 z (round binary64 false a c) p n d a 0 c D C r (sign-rounds binary64 false a c) (omega arith)

pub above-round : (z : Float) (p n d a c : ℕ) → Rounds binary64 z p n d → 0 < d → 0 < c → a * d + n * c ≤ p * c → T (le (round binary64 false a c) z)
above-round z p n d a c r D C h =
    rounds-mono binary64 (round binary64 false a c) z a 0 c p n d C D (sign-rounds binary64 false a c) r (omega arith)

-- the same against a value y that the format holds
pub rounds-le : (z y : Float) (p n d : ℕ) → Rounds binary64 z p n d → 0 < d → T (finite y) → T (fits binary64 y)
    → p * den y + under y * d ≤ over y * d + n * den y → T (le z y)
rounds-le z y p n d r D F t h = rounds-mono binary64 z y p n d (over y) (under y) (den y) D (den_pos y) r (self-rounds binary64 y F t) h

pub le-rounds : (y z : Float) (p n d : ℕ) → Rounds binary64 z p n d → 0 < d → T (finite y) → T (fits binary64 y)
    → over y * d + n * den y ≤ p * den y + under y * d → T (le y z)
le-rounds y z p n d r D F t h = rounds-mono binary64 y z (over y) (under y) (den y) p n d (den_pos y) D (self-rounds binary64 y F t) r h

-- |(p - n) / d| ≤ b gives |z| ≤ b
pub rounds-within : (z b : Float) (p n d : ℕ) → Rounds binary64 z p n d → 0 < d → T (finite b) → T (fits binary64 b) → under b ≡ 0
    → p * den b ≤ over b * d + n * den b → n * den b ≤ over b * d + p * den b → Within b z
rounds-within z b p n d r D F t u h k = record {
  low = le-rounds (neg b) z p n d r D (finite-neg b F) (neg-fits binary64 b t) (rw (over-neg b, under-neg b, den-neg b, u) (omega arith));
  high = rounds-le z b p n d r D F t (rw u (omega arith));
}

-- an exact result a / d that the format holds is what comes out
pub rounds-exact : (z : Float) (p n d a : ℕ) → Rounds binary64 z p n d → 0 < d → p ≡ n + a → Dyadic a d → a < 2 ^ 1024 * d → Is z a d
rounds-exact z p n d a (inl r) D e g h =
    subst (λ (w : Float). Is w a d) (sym (r.1 ∙ ap (λ (k : ℕ). round binary64 false k d) (less p n a e))) (dyadic-is a d g D h)
  where
    less : (i j k : ℕ) → i ≡ j + k → i - j ≡ k
    less i j k l = omega arith
rounds-exact z p n d a (inr r) D e g h =
    let q : a ≡ 0 = none p n a e r.0 in
    subst (λ (w : Float). Is w a d) (sym (r.1 ∙ ap (λ (k : ℕ). round binary64 true k d) (rest p n a e) ∙ round-zero binary64 true d D))
    (record { fine = tt; nonneg = refl; same = zero-mul d ∙ sym (ap (λ (k : ℕ). k * 1) q) })
  where
    none : (i j k : ℕ) → i ≡ j + k → i ≤ j → k ≡ 0
    none i j k l m = omega arith

    rest : (i j k : ℕ) → i ≡ j + k → j - i ≡ 0
    rest i j k l = omega arith

-- x * 2 ^ t is exact: for x ≥ 0 that the format holds, below 2 ^ 1024 when scaled
pub scale-exact : (x : Float) (t : ℕ) → T (finite x) → T (fits binary64 x) → under x ≡ 0 → over x * 2 ^ t < 2 ^ 1024 * den x
    → Is (mul binary64 x (two^ t)) (over x * 2 ^ t) (den x)
scale-exact x t p f u h =
    subst (λ (c : ℕ). Is (mul binary64 x (two^ t)) (over x * 2 ^ t) c) (mul-one (den x))
    (rounds-exact (mul binary64 x (two^ t)) _ _ _ (over x * 2 ^ t) (mul-rounds binary64 x (two^ t) p tt) (mul-pos (den_pos x) (zero-lt-suc 0))
    (rw (u, one-mul (2 ^ t)) (omega arith)) (rw (mul-one (den x)) (dyadic-up (dyadic-over x p f u) t)) (rw (mul-one (den x)) h))

-- ---- rounding goes with scaling
through-units : (oz dz ow dw g P U : ℕ) → 0 < U → oz * U ≡ g * P * dz → ow * U ≡ g * dw → oz * dw ≡ ow * P * dz
through-units oz dz ow dw g P U L h k = eq_of_mul-eq-mul_right U L (oz * dw) (ow * P * dz) (omega (arith, ap (λ (z : ℕ). z * dw) h, ap (λ (z : ℕ). z * (P * dz)) k))

smaller : (g P W : ℕ) → 0 < P → g * P < W → g < W
smaller g P W h k = lt_of_le_of_lt (nat-le-trans (nat-le-of-eq (sym (mul-one g))) (mul-le-mul (nat-le-of-eq refl) h)) k

-- a / c is normal, and 2 ^ t * a / c does not overflow
pub round-scale : (a c t : ℕ) → 0 < c → 2 ^ 52 * c ≤ a * 2 ^ 1074 → T (finite (round binary64 false (a * 2 ^ t) c))
    → Is (round binary64 false (a * 2 ^ t) c) (over (round binary64 false a c) * 2 ^ t) (den (round binary64 false a c))
round-scale a c t C N F =
    let w = round binary64 false a c in
    let z = round binary64 false (a * 2 ^ t) c in
    let g = grid binary64 a c in
    let e : grid binary64 (a * 2 ^ t) c ≡ g * 2 ^ t = grid_scale binary64 a c t C (normal_of_fraction binary64 a c C N) in
    let zf : grid binary64 (a * 2 ^ t) c < overflow binary64 = round_under binary64 (a * 2 ^ t) c F in
    let wf : g < overflow binary64 = smaller g (2 ^ t) (overflow binary64) (pow_pos t) (subst (λ (k : ℕ). k < overflow binary64) e zf) in
    let zi : Is z (g * 2 ^ t) (2 ^ 1074) = subst (λ (k : ℕ). Is z k (2 ^ 1074)) e (is-of-value z (grid binary64 (a * 2 ^ t) c) (2 ^ 1074) (round_val binary64 (a * 2 ^ t) c zf)) in
    let wi : Is w g (2 ^ 1074) = is-of-value w g (2 ^ 1074) (round_val binary64 a c wf) in
    record { fine = zi.fine; nonneg = zi.nonneg; same = through-units (over z) (den z) (over w) (den w) g (2 ^ t) (2 ^ 1074) (pow_pos 1074) zi.same wi.same }

-- the sum of two values that are not negative, as one rounding
add_is : (x y : Float) → T (finite x) → T (finite y) → under x ≡ 0 → under y ≡ 0 → 0 < over x * den y + over y * den x
    → add binary64 x y ≡ round binary64 false (over x * den y + over y * den x) (den x * den y)
add_is x y p q u v s =
    let n = under x * den y + under y * den x in
    let z : n ≡ 0 = rw (u, v) (omega arith) in
    rounds-is binary64 (add binary64 x y) (over x * den y + over y * den x) n (den x * den y) (subst (λ (k : ℕ). k < over x * den y + over y * den x) (sym z) s) (add_rounds binary64 x y p q)
    ∙ ap (λ (k : ℕ). round binary64 false (over x * den y + over y * den x - k) (den x * den y)) z
    ∙ ap (λ (k : ℕ). round binary64 false k (den x * den y)) (sub-zero (over x * den y + over y * den x))

sum-cross : (ox dx oy dy oA dA oB dB P : ℕ) → oA * dx ≡ ox * P * dA → oB * dy ≡ oy * P * dB
    → (oA * dB + oB * dA) * (dx * dy) ≡ (ox * dy + oy * dx) * P * (dA * dB)
sum-cross ox dx oy dy oA dA oB dB P h k = omega (arith, ap (λ (z : ℕ). z * (dB * dy)) h, ap (λ (z : ℕ). z * (dA * dx)) k)

positive-sum : (s P U c : ℕ) → 0 < c → 0 < P → P * c ≤ s * U → 0 < s
positive-sum zero P U c C p h = absurd (not-le_of_lt (mul-pos p C) (nat-le-trans h (nat-le-of-eq (zero-mul U))))
positive-sum (suc s) P U c C p h = zero-lt-suc s

-- 2 ^ t * (x + y), rounded once, is 2 ^ t times x + y rounded: for x, y ≥ 0 whose sum is 2 ^ -1022 at least. A and B are 2 ^ t * x and 2 ^ t * y
pub scale-add : (x y A B : Float) (t : ℕ) → T (finite x) → T (finite y) → under x ≡ 0 → under y ≡ 0 → Is A (over x * 2 ^ t) (den x)
    → Is B (over y * 2 ^ t) (den y)
    → 2 ^ 52 * (den x * den y) ≤ (over x * den y + over y * den x) * 2 ^ 1074 → T (finite (add binary64 A B))
    → Is (add binary64 A B) (over (add binary64 x y) * 2 ^ t) (den (add binary64 x y))
scale-add x y A B t p q u v a b N F =
    let s = over x * den y + over y * den x in
    let c = den x * den y in
    let S = over A * den B + over B * den A in
    let K = den A * den B in
    let C : 0 < c = mul-pos (den_pos x) (den_pos y) in
    let L : 0 < K = mul-pos (den_pos A) (den_pos B) in
    let s0 : 0 < s = positive-sum s (2 ^ 52) (2 ^ 1074) c C (pow_pos 52) N in
    let e : S * c ≡ s * 2 ^ t * K = sum-cross (over x) (den x) (over y) (den y) (over A) (den A) (over B) (den B) (2 ^ t) a.same b.same in
    let S0 : 0 < S = positive_of S c (s * 2 ^ t * K) e (mul-pos (mul-pos s0 (pow_pos t)) L) in
    let zi : add binary64 A B ≡ round binary64 false (s * 2 ^ t) c = add_is A B a.fine b.fine a.nonneg b.nonneg S0 ∙ round_same binary64 false S K (s * 2 ^ t) c L C e in
    let wi : add binary64 x y ≡ round binary64 false s c = add_is x y p q u v s0 in
    subst (λ (w : Float). Is (add binary64 A B) (over w * 2 ^ t) (den w)) (sym wi)
    (subst (λ (z : Float). Is z (over (round binary64 false s c) * 2 ^ t) (den (round binary64 false s c))) (sym zi) (round-scale s c t C N (subst (λ (z : Float). T (finite z)) zi F)))
  where
    positive_of : (i j k : ℕ) → i * j ≡ k → 0 < k → 0 < i
    positive_of i j k h l = first_pos i j (subst (λ (z : ℕ). 0 < z) (sym h) l)

swap-sign : (z x : Float) (a c : ℕ) → Scaled (neg z) (neg x) a c → Scaled z x a c
swap-sign z x a c h = record {
  fine = subst (λ (w : Float). T (finite w)) (neg-neg z) (finite-neg (neg z) h.fine);
  gains = rw (under-neg z, under-neg x, den-neg z, den-neg x) at h.losses;
  losses = rw (over-neg z, over-neg x, den-neg z, den-neg x) at h.gains;
}

plain-sign : (y : Float) (k : ℕ) → Is (mul binary64 y (two^ k)) (over y * 2 ^ k) (den y) → under y ≡ 0 → Scaled (mul binary64 y (two^ k)) y (2 ^ k) 1
plain-sign y k i u = record {
  fine = i.fine;
  gains = rw (mul-one (den y)) i.same;
  losses = rw (i.nonneg, u) (omega arith);
}

turned : (m : ℕ) (e : ℤ) (t : ℕ) → T (fits binary64 (neg (fin true m e))) → m * up e * 2 ^ t < 2 ^ 1024 * down e
    → Scaled (mul binary64 (neg (fin true m e)) (two^ t)) (neg (fin true m e)) (2 ^ t) 1
unfolding neg
turned m e t f h = plain-sign (fin false m e) t (scale-exact (fin false m e) t tt f refl h) refl

-- x * 2 ^ t is exact, whatever the sign of x
pub scale-exact-signed : (x : Float) (t : ℕ) → T (finite x) → T (fits binary64 x) → num x * 2 ^ t < 2 ^ 1024 * den x
    → Scaled (mul binary64 x (two^ t)) x (2 ^ t) 1
scale-exact-signed nan t p f h = absurd p
scale-exact-signed (inf s) t p f h = absurd p
scale-exact-signed (fin false m e) t p f h = plain-sign (fin false m e) t (scale-exact (fin false m e) t tt f refl h) refl
scale-exact-signed (fin true m e) t p f h =
    swap-sign (mul binary64 (fin true m e) (two^ t)) (fin true m e) (2 ^ t) 1
    (subst (λ (w : Float). Scaled w (neg (fin true m e)) (2 ^ t) 1) (mul-neg-l binary64 (fin true m e) (two^ t)) (turned m e t (neg-fits binary64 (fin true m e) f) h))

pub halve-exact : (x : Float) (t : ℕ) → T (finite x) → T (fits binary64 x) → under x ≡ 0 → 2 ^ (52 + suc t) * den x ≤ over x * 2 ^ 1074
    → over x < 2 ^ 1024 * den x → Is (mul binary64 x (half^ t)) (over x) (den x * 2 ^ suc t)
halve-exact x t p f u n h =
    rounds-exact (mul binary64 x (half^ t)) _ _ _ (over x) (mul-rounds binary64 x (half^ t) p tt) (mul-pos (den_pos x) (pow_pos (suc t)))
    (rw u (omega arith)) (dyadic-down (dyadic-over x p f u) (suc t) (den_pos x) n)
    (lt_of_lt_of_le h (mul-le-mul (nat-le-of-eq refl) (nat-le-trans (nat-le-of-eq (sym (mul-one (den x)))) (mul-le-mul (nat-le-of-eq refl) (pow_pos (suc t))))))
