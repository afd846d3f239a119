-- A term dx * dy of the slope's numerator against a denominator D, of which the rounded square of dx is a part: |dx| ≤ 2 ^ 564 * D. A dx of a size up to
-- 2 ^ -510 is so because D is 2 ^ -1074 at least, and of a larger one the square is not below 2 ^ -510 * |dx|, which is a float.
use Rattle.std.specs.Prelude.{◌≡◌, refl, Bool, true, false, ℕ, suc, ◌+◌, ◌-◌, ◌*◌, ◌^◌, ◌≤◌, ◌<◌, T, leb, Float}
use Rattle.std.proofs.Common.{sym, ap, ◌∙◌, inl, inr, le_trans as nat-le-trans, le_of_eq as nat-le-of-eq, lt_of_lt_of_le, lt_of_le_of_lt, le_of_lt, mul-one, one-mul, mul-le-mul_right, mul-le-mul_left, mul-lt-mul_of_pos_right, mul_right_comm, le_of_mul-le-mul_right, mul-pos, zero-lt-suc, arith, leb→le, lit≤, lit<, pow-add, pow_pos, pow_mono}
use Rattle.std.proofs.Math.Dec.{nleb→lt}
use Rattle.std.proofs.Math.Pow.{pow-lt}
use Rattle.std.specs.Float.{nan, inf, fin, binary64}
use Rattle.std.specs.Float.Ieee.{up, le, neg, round, fits}
use Rattle.std.specs.Float.Ieee.Order.{round_mono}
use Rattle.std.specs.Float.Ieee.Scale.{finite}
use Rattle.std.specs.Float.Ieee.Positive.{num, den, den_pos, positive, positive-finite, first_pos}
use Rattle.float_order.specs.Arith.{either}
use Rattle.float_order.specs.Binary64.{add, mul, div}
use Rattle.float_order.specs.Order.{over, under, gain, loss, le→cross, cross→le, le_trans, den-neg, finite-neg}
use Rattle.float_order.specs.Round.{Rounds, neg-round, zero-le-round}
use Rattle.float_order.specs.Ops.{zero₊, add_rounds, mul-rounds, div-rounds, nonneg-under, positive-over, positive-under}
use Rattle.float_order.specs.Range.{Within, finite-between}
use Rattle.float_order.specs.Abs.{within-finite}
use Rattle.float_order.specs.Dyadic.{Dyadic, Is, two^}
use Rattle.float_order.proofs.Dyadic.{dyadic-is, dyadic-float, dyadic-over, dyadic-up, dyadic-down, float-high, over-num, above-round}

-- ---- |x| ≤ a / c
pub record Size (a c : ℕ) (x : Float) : Type 0 where
  pub fine : T (finite x)
  pub most : num x * c ≤ a * den x

num-neg : (x : Float) → num (neg x) ≡ num x
unfolding neg
num-neg nan = refl
num-neg (inf s) = refl
num-neg (fin s m e) = refl

size-neg : {a c : ℕ} {x : Float} → Size a c x → Size a c (neg x)
size-neg {a} {c} {x} h = record { fine = finite-neg x h.fine; most = rw (num-neg x, den-neg x) h.most }

less : (i j k : ℕ) → i ≤ j + k → i - j ≤ k
less i j k h = omega arith

-- what is rounded stays so, where a / c is a float
module _ {a c : ℕ} (g : Dyadic a c) (C : 0 < c) (top : a < 2 ^ 1024 * c) where
  size-round : (k d : ℕ) → 0 < d → k * c ≤ a * d → Size a c (round binary64 false k d)
  size-round k d D h =
      let E = round binary64 false a c in
      let w = round binary64 false k d in
      let i : Is E a c = dyadic-is a c g C top in
      let l : T (le w E) = round_mono binary64 k d a c D C h in
      let F : T (finite w) = finite-between zero₊ w E tt i.fine (zero-le-round binary64 k d D) l in
      let u : under w ≡ 0 = nonneg-under w F (zero-le-round binary64 k d D) in
      record { fine = F; most = rw (← over-num w u) (through (over w) (under w) (den w) (over E) (under E) (den E) (den_pos E) u i.nonneg i.same (le→cross w E F i.fine l)) }
    where
      through : (ow uw dw oE uE dE : ℕ) → 0 < dE → uw ≡ 0 → uE ≡ 0 → oE * c ≡ a * dE → ow * dE + uE * dw ≤ oE * dw + uw * dE → ow * c ≤ a * dw
      through ow uw dw oE uE dE P u v e h = le_of_mul-le-mul_right (omega (arith, mul-le-mul_right c (rw (u, v) at h), ap (λ (z : ℕ). z * dw) e)) P

  -- (p - n) / d, of which k is the size or more
  size-rounds : {z : Float} {p n d : ℕ} (k : ℕ) → Rounds binary64 z p n d → 0 < d → p ≤ n + k → n ≤ p + k → k * c ≤ a * d → Size a c z
  size-rounds {z} {p} {n} {d} k (inl r) D h l m = rw r.1 (size-round (p - n) d D (nat-le-trans (mul-le-mul_right c (less p n k h)) m))
  size-rounds {z} {p} {n} {d} k (inr r) D h l m =
      rw (r.1, ← neg-round binary64 (n - p) d) (size-neg (size-round (n - p) d D (nat-le-trans (mul-le-mul_right c (less n p k l)) m)))

-- ---- the parts of a value, and of a product, against its size
signed : (s : Bool) (a : ℕ) → (gain s a ≤ a) × (loss s a ≤ a)
signed false a = (omega arith, omega arith)
signed true a = (omega arith, omega arith)

parts : (x : Float) → (over x ≤ num x) × (under x ≤ num x)
parts nan = (omega arith, omega arith)
parts (inf s) = (omega arith, omega arith)
parts (fin s m e) = signed s (num (fin s m e))

signed_product : (s : Bool) (a : ℕ) (r : Bool) (b : ℕ) → (gain s a * gain r b + loss s a * loss r b ≤ a * b) × (gain s a * loss r b + loss s a * gain r b ≤ a * b)
signed_product false a false b = (omega arith, omega arith)
signed_product false a true b = (omega arith, omega arith)
signed_product true a false b = (omega arith, omega arith)
signed_product true a true b = (omega arith, omega arith)

product-parts : (x y : Float) → T (finite x) → T (finite y) → (over x * over y + under x * under y ≤ num x * num y) × (over x * under y + under x * over y ≤ num x * num y)
product-parts nan y p q = absurd p
product-parts (inf s) y p q = absurd p
product-parts (fin s m e) nan p q = absurd q
product-parts (fin s m e) (inf r) p q = absurd q
product-parts (fin s m e) (fin r n d) p q = signed_product s (num (fin s m e)) r (num (fin r n d))

-- ---- a power of two as a bound
within-size : (y : Float) (h : ℕ) → Within (two^ h) y → Size (2 ^ h) 1 y
unfolding neg
within-size y h w = go y (within-finite w tt) w.low w.high
  where
    go : (y : Float) → T (finite y) → T (le (neg (two^ h)) y) → T (le y (two^ h)) → Size (2 ^ h) 1 y
    go nan p l m = absurd p
    go (inf s) p l m = absurd p
    go (fin false m e) p l k = record { fine = tt; most = omega (arith, le→cross (fin false m e) (two^ h) tt tt k) }
    go (fin true m e) p l k = record { fine = tt; most = omega (arith, le→cross (neg (two^ h)) (fin true m e) tt tt l) }

size-within : (y : Float) (h : ℕ) → Size (2 ^ h) 1 y → Within (two^ h) y
unfolding neg
size-within y h w =
    let p = parts y in
    record { low = cross→le (neg (two^ h)) y tt w.fine (omega (arith, p.1, w.most)); high = cross→le y (two^ h) w.fine tt (omega (arith, p.0, w.most)) }

doubled : (t : ℕ) → 2 ^ t + 2 ^ t ≡ 2 ^ suc t
doubled t = sym (pow-add 2 t 1 ∙ twice (2 ^ t)) ∙ ap (λ (z : ℕ). 2 ^ z) (omega arith)
  where
    twice : (z : ℕ) → z * 2 ≡ z + z
    twice z = omega arith

two-dyadic : (t : ℕ) → Dyadic (2 ^ t) 1
two-dyadic t = record { digits = 1; shift = t + 1074; few = lit< tt; value = sym (pow-add 2 t 1074) ∙ sym (one-mul (2 ^ (t + 1074))) ∙ sym (mul-one (1 * 2 ^ (t + 1074))) }

-- ---- the square of a value
square-rounds : (x : Float) → T (finite x) → Rounds binary64 (mul x x) (num x * num x) 0 (den x * den x)
square-rounds nan p = absurd p
square-rounds (inf s) p = absurd p
square-rounds (fin s m e) p = rw (likes s (m * up e), unlikes s (m * up e)) at (mul-rounds binary64 (fin s m e) (fin s m e) tt tt)
  where
    likes : (s : Bool) (a : ℕ) → gain s a * gain s a + loss s a * loss s a ≡ a * a
    likes false a = omega arith
    likes true a = omega arith

    unlikes : (s : Bool) (a : ℕ) → gain s a * loss s a + loss s a * gain s a ≡ 0
    unlikes false a = omega arith
    unlikes true a = omega arith

-- ---- a denominator D above zero, at most 2 ^ k
-- |x| ≤ 2 ^ t * D
abbrev pub Scaled : Float → ℕ → Float → Type 0
Scaled D t x = Size (over D * 2 ^ t) (den D) x

pub scaled-wider : (D x : Float) (t u : ℕ) → t ≤ u → Scaled D t x → Scaled D u x
scaled-wider D x t u l h = record { fine = h.fine; most = nat-le-trans h.most (mul-le-mul_right (den x) (mul-le-mul_left (over D) (pow_mono l))) }

module _ (D : Float) (k : ℕ) (P : T (positive D)) (f : T (fits binary64 D)) (high : T (le D (two^ k))) where
  DF : T (finite D)
  DF = positive-finite D P

  grid : Dyadic (over D) (den D)
  grid = dyadic-over D DF f (positive-under D P)

  below_top : (t : ℕ) → k + t < 1024 → over D * 2 ^ t < 2 ^ 1024 * den D
  below_top t l =
      let u = positive-under D P in
      let h : over D ≤ 2 ^ k * den D = omega (arith, le→cross D (two^ k) DF tt high) in
      lt_of_le_of_lt
      (nat-le-trans (mul-le-mul_right (2 ^ t) h) (nat-le-of-eq (mul_right_comm (2 ^ k) (den D) (2 ^ t) ∙ ap (λ (z : ℕ). z * den D) (sym (pow-add 2 k t)))))
      (mul-lt-mul_of_pos_right (pow-lt l) (den_pos D))

  scaled-rounds : {z : Float} {p n d : ℕ} (t m : ℕ) → k + t < 1024 → Rounds binary64 z p n d → 0 < d → p ≤ n + m → n ≤ p + m → m * den D ≤ over D * 2 ^ t * d
      → Scaled D t z
  scaled-rounds t m l r D' h g b = size-rounds (dyadic-up grid t) (den_pos D) (below_top t l) m r D' h g b

  -- one more term doubles the bound at most
  pub scaled-add : (x y : Float) (t : ℕ) → k + suc t < 1024 → Scaled D t x → Scaled D t y → Scaled D (suc t) (add x y)
  scaled-add x y t l h g =
      let p = parts x in
      let q = parts y in
      scaled-rounds (suc t) (num x * den y + num y * den x) l (add_rounds binary64 x y h.fine g.fine) (mul-pos (den_pos x) (den_pos y))
      (sum (over x) (under x) (num x) (den x) (over y) (under y) (num y) (den y) p.0 q.0)
      (sum (under x) (over x) (num x) (den x) (under y) (over y) (num y) (den y) p.1 q.1)
      (rw (← doubled t) (cross (num x) (den x) (num y) (den y) (den D) (over D) (2 ^ t) h.most g.most))
    where
      sum : (ox ux nx dx oy uy ny dy : ℕ) → ox ≤ nx → oy ≤ ny → ox * dy + oy * dx ≤ ux * dy + uy * dx + (nx * dy + ny * dx)
      sum ox ux nx dx oy uy ny dy h k = omega (arith, mul-le-mul_right dy h, mul-le-mul_right dx k)

      cross : (nx dx ny dy d o W : ℕ) → nx * d ≤ o * W * dx → ny * d ≤ o * W * dy → (nx * dy + ny * dx) * d ≤ o * (W + W) * (dx * dy)
      cross nx dx ny dy d o W h k = omega (arith, mul-le-mul_right dy h, mul-le-mul_right dx k)

  -- |N| ≤ 2 ^ t * D: the quotient is 2 ^ t at most
  pub scaled-div : (N : Float) (t : ℕ) → t < 1024 → Scaled D t N → Within (two^ t) (div N D)
  scaled-div N t l h =
      let p = parts N in
      size-within (div N D) t
      (size-rounds (two-dyadic t) (zero-lt-suc 0) (lt_of_lt_of_le (pow-lt l) (nat-le-of-eq (sym (mul-one (2 ^ 1024))))) (num N * den D) (div-rounds binary64 N D h.fine P) (mul-pos (positive-over D P) (den_pos N))
      (part (over N) (under N) (num N) (den D) p.0) (part (under N) (over N) (num N) (den D) p.1) (turned (num N) (den D) (over D) (2 ^ t) (den N) h.most))
    where
      part : (o u n d : ℕ) → o ≤ n → o * d ≤ u * d + n * d
      part o u n d h = omega (arith, mul-le-mul_right d h)

      turned : (n d o W e : ℕ) → n * d ≤ o * W * e → n * d * 1 ≤ W * (o * e)
      turned n d o W e h = omega arith

  -- the smallest float above zero is 2 ^ -1074
  least : den D ≤ over D * 2 ^ 1074
  least =
      nat-le-trans (nat-le-of-eq (sym (one-mul (den D))))
      (nat-le-trans (mul-le-mul_right (den D) (first_pos (grid.digits * 2 ^ grid.shift) (den D) (rw (← grid.value) (mul-pos (positive-over D P) (pow_pos 1074))))) (nat-le-of-eq (sym grid.value)))

  module _ (x : Float) (X : T (finite x)) (fx : T (fits binary64 x)) (below : T (le (mul x x) D)) where
    small : num x * 2 ^ 510 ≤ den x → num x * den D ≤ over D * 2 ^ 564 * den x
    small h = cross (num x) (den x) (over D) (den D) (2 ^ 564) (2 ^ 510) (2 ^ 1074) (pow-add 2 564 510) h least
      where
        cross : (n d o e W R U : ℕ) → U ≡ W * R → n * R ≤ d → e ≤ o * U → n * e ≤ o * W * d
        cross n d o e W R U i h k = omega (arith, mul-le-mul_left n (rw i at k), mul-le-mul_left (o * W) h)

    large : den x ≤ num x * 2 ^ 510 → num x * den D ≤ over D * 2 ^ 564 * den x
    large h =
        let c = den x * 2 ^ 510 in
        let C : 0 < c = mul-pos (den_pos x) (pow_pos 510) in
        let b = round binary64 false (num x) c in
        let g : Dyadic (num x) c = dyadic-down (dyadic-float x X fx) 510 (den_pos x) (deep (num x) (den x) (2 ^ 562) (2 ^ 1072) (2 ^ 510) (2 ^ 1074) (pow-add 2 562 510) (pow_mono {i = 1072} {j = 1074} (lit≤ tt)) h) in
        let i : Is b (num x) c = dyadic-is (num x) c g C (lt_of_lt_of_le (float-high x X fx) (mul-le-mul_left (2 ^ 1024) (nat-le-trans (nat-le-of-eq (sym (mul-one (den x)))) (mul-le-mul_left (den x) (pow_pos 510))))) in
        let l : T (le b D) = le_trans b (mul x x) D (above-round (mul x x) (num x * num x) 0 (den x * den x) (num x) c (square-rounds x X) (mul-pos (den_pos x) (den_pos x)) C (square (num x) (den x) (2 ^ 510) h)) below in
        cross (num x) (den x) (over b) (under b) (den b) (over D) (under D) (den D) (2 ^ 510) (2 ^ 564) (den_pos b) i.nonneg (pow_mono {i = 510} {j = 564} (lit≤ tt)) i.same (le→cross b D i.fine DF l)
      where
        deep : (n d W Q R U : ℕ) → Q ≡ W * R → Q ≤ U → d ≤ n * R → W * d ≤ n * U
        deep n d W Q R U e q h = omega (arith, mul-le-mul_left W h, ap (λ (z : ℕ). n * z) e, mul-le-mul_left n q)

        square : (n d R : ℕ) → d ≤ n * R → n * (d * d) + 0 * (d * R) ≤ n * n * (d * R)
        square n d R h = omega (arith, mul-le-mul_right (n * d) h)

        cross : (n d ob ub db oD uD dD R W : ℕ) → 0 < db → ub ≡ 0 → R ≤ W → ob * (d * R) ≡ n * db → ob * dD + uD * db ≤ oD * db + ub * dD → n * dD ≤ oD * W * d
        cross n d ob ub db oD uD dD R W B z v e h =
            let k : ob * dD ≤ oD * db = omega (arith, rw z at h) in
            le_of_mul-le-mul_right (omega (arith, mul-le-mul_right (d * R) k, ap (λ (z : ℕ). z * dD) e, mul-le-mul_right (oD * d * db) v)) B

    distance : Scaled D 564 x
    distance = record { fine = X; most = elim (either (leb (num x * 2 ^ 510) (den x))) [ inl t ↦ small (leb→le (num x * 2 ^ 510) (den x) t) | inr t ↦ large (le_of_lt (nleb→lt (num x * 2 ^ 510) (den x) t)) ] }

    -- |y| ≤ 2 ^ h
    pub term : (y : Float) (h t : ℕ) → 564 + h ≤ t → k + t < 1024 → Within (two^ h) y → Scaled D t (mul x y)
    term y h t l s w =
        let Y = within-size y h w in
        let p = product-parts x y X Y.fine in
        let b : 2 ^ 564 * 2 ^ h ≤ 2 ^ t = nat-le-trans (nat-le-of-eq (sym (pow-add 2 564 h))) (pow_mono l) in
        scaled-rounds t (num x * num y) s (mul-rounds binary64 x y X Y.fine) (mul-pos (den_pos x) (den_pos y)) (omega (arith, p.0)) (omega (arith, p.1))
        (cross (num x) (num y) (den x) (den y) (over D) (den D) (2 ^ 564) (2 ^ h) (2 ^ t) distance.most Y.most b)
      where
        cross : (nx ny dx dy o d W H R : ℕ) → nx * d ≤ o * W * dx → ny * 1 ≤ H * dy → W * H ≤ R → nx * ny * d ≤ o * R * (dx * dy)
        cross nx ny dx dy o d W H R h k l = omega (arith, mul-le-mul_right ny h, mul-le-mul_left (o * W * dx) k, mul-le-mul_left (o * dx * dy) l)
