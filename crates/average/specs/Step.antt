-- One step of an average, a + f * (v - a) with each operation rounded, stays from 0 to L, for a and v from 0 to L and a factor f from 0 to 1 - 2 ^ -52.
-- L - a may be rounded up, but its product by f is not above the largest float that is at most L - a.
use Rattle.std.specs.Prelude.{◌≡◌, refl, false, negsuc, T, Float}
use Rattle.std.proofs.Common.{sym, ap, ◌∙◌, subst, inl, inr, le_of_eq as nat-le-of-eq, lt_of_lt_of_le, lt_of_le_of_lt, mul_comm as nat-mul-comm, mul-le-mul_right, le_of_mul-le-mul_right, mul-pos, div-mul-le_self, mul-div_cancel, le-div_iff_mul-le, add-sub_of_le, arith, pow-add, pow_pos}
use Prim.Native.Nat.{ℕ, suc, ◌+◌, ◌-◌, ◌*◌, ◌/◌, ◌%◌, ◌^◌, ◌≤◌, ◌<◌, compare}
use Rattle.std.proofs.Math.Nat.{div-div-eq-div-mul}
use Rattle.std.specs.Float.{fin, binary64}
use Rattle.std.specs.Float.Ieee.{le, neg, round, fits}
use Rattle.std.specs.Float.Ieee.Fits.{kept-lt, nearest-le, neg-fits, sub-fits}
use Rattle.std.specs.Float.Ieee.Nearest.{closest, nearest-ge}
use Rattle.std.specs.Float.Ieee.Order.{drop}
use Rattle.std.specs.Float.Ieee.Scale.{finite, grid, round_under}
use Rattle.std.specs.Float.Ieee.Positive.{num, den, den_pos}
use Rattle.float_order.specs.Binary64.{add, sub, mul}
use Rattle.float_order.specs.Order.{over, under, le→cross, le_refl, le_trans, finite-ordered, over-neg, under-neg, den-neg, finite-neg, neg-le}
use Rattle.float_order.specs.Round.{rounds-nonneg, rounds-nonpos}
use Rattle.float_order.specs.Ops.{zero₊, add_rounds, sub-rounds, mul-rounds, add-mono, sub-mono, sub-nonneg, mul-nonneg, mul-mono-r, mul-neg-r, nonneg-under}
use Rattle.float_order.specs.Range.{In, in-finite, finite-between}
use Rattle.float_order.specs.Interval.{floats}
use Rattle.float_order.specs.Exact.{one, add-le, sub-le, scale-le}
use Rattle.float_order.specs.Error.{round-num}
use Rattle.float_order.specs.Dyadic.{Is}
use Rattle.float_order.proofs.Dyadic.{dyadic-is, below-round, rounds-le, le-rounds}
use Rattle.float_order.specs.Relative.{Units, Good, Fine, closest-whole}
use Rattle.float_order.proofs.Relative.{fine, units-over, units_under, units-sum, units-diff}
use Rattle.average.specs.Average.{new_average}

-- ---- the largest float that is not above a / c: q * 2 ^ k of the smallest values, and a / c rounded is within 1 / 2 ^ 52 of it
record Floor (a c : ℕ) : Type 0 where
  q : ℕ
  k : ℕ
  few : q < 2 ^ 53
  below : q * 2 ^ k * c ≤ a * 2 ^ 1074
  least : q * 2 ^ k ≤ grid binary64 a c
  close : grid binary64 a c * 2 ^ 52 ≤ q * 2 ^ k * 2 ^ 52 + q * 2 ^ k

close_up : (n u P : ℕ) → 0 < u → Fine n u → closest n u * P * 2 ^ 52 ≤ n / u * P * 2 ^ 52 + n / u * P
close_up n u P U (inl g) = one_more (closest n u) (n / u) (nearest-le (n / u) (compare (n % u * 2) u)) ((le-div_iff_mul-le U).1 g)
  where
    one_more : (x q : ℕ) → x ≤ suc q → 2 ^ 52 ≤ q → x * P * 2 ^ 52 ≤ q * P * 2 ^ 52 + q * P
    one_more x q h g = omega (arith, mul-le-mul_right P h, mul-le-mul_right P g)
close_up n u P U (inr g) = no_more (closest n u) (n / u) (ap (λ (z : ℕ). z / u) (sym (closest-whole g.many n u U g.is)) ∙ mul-div_cancel (closest n u) U)
  where
    no_more : (x q : ℕ) → q ≡ x → x * P * 2 ^ 52 ≤ q * P * 2 ^ 52 + q * P
    no_more x q e = rw e (omega arith)

floor-of : (a c : ℕ) → 0 < c → Good a c → Floor a c
floor-of a c C g =
    let n = a * 2 ^ 1074 in
    let e = drop 53 n c in
    let u = c * 2 ^ e in
    record {
      q = n / u;
      k = e;
      few = subst (λ (x : ℕ). x < 2 ^ 53) (div-div-eq-div-mul n c (2 ^ e)) (kept-lt 53 (n / c));
      below = turned (n / u) c (2 ^ e) n (div-mul-le_self n u);
      least = mul-le-mul_right (2 ^ e) (nearest-ge (n / u) (compare (n % u * 2) u));
      close = close_up n u (2 ^ e) (mul-pos C (pow_pos e)) (fine a c C g);
    }
  where
    turned : (q c P n : ℕ) → q * (c * P) ≤ n → q * P * c ≤ n
    turned q c P n h = omega arith

-- ---- a product by a factor up to 1 - 2 ^ -52 undoes the rounding
abbrev pub below_one : Float
below_one = fin false (2 ^ 52 - 1) (negsuc 51)

module _ (f : Float) (S : In zero₊ below_one f) where
  F : T (finite f)
  F = in-finite S tt

  -- f * g ≤ w, for g ≤ w * (1 + 2 ^ -52)
  factor : (g w : ℕ) → g * 2 ^ 52 ≤ w * 2 ^ 52 + w → over f * g ≤ w * den f
  factor g w h =
      let k : over f * 2 ^ 52 ≤ (2 ^ 52 - 1) * den f = omega (arith, nonneg-under f F S.low, le→cross f below_one F tt S.high) in
      undo (over f) (den f) (2 ^ 52 - 1) k h
    where
      undo : (o d J : ℕ) → o * (J + 1) ≤ J * d → g * (J + 1) ≤ w * (J + 1) + w → o * g ≤ w * d
      undo o d J k h = le_of_mul-le-mul_right (omega (arith, mul-le-mul_right (g * (J + 1)) k, mul-le-mul_right (J * d) h)) (mul-pos (P J) (P J))
        where
          P : (j : ℕ) → 0 < j + 1
          P j = omega arith

  -- d is a / c rounded: then f * d, rounded too, is at most a / c
  shrunk : (a c : ℕ) (d : Float) → d ≡ round binary64 false a c → 0 < c → Good a c → T (finite d) → T (finite (mul f d)) → T (le zero₊ (mul f d))
      → over (mul f d) * c ≤ a * den (mul f d)
  shrunk a c d e C G D M M0 =
      let m = mul f d in
      let g = grid binary64 a c in
      let o = floor-of a c C G in
      let w = o.q * 2 ^ o.k in
      let b = round binary64 false w (2 ^ 1074) in
      let v : (num d * 2 ^ 1074 ≡ g * den d) × (under d ≡ 0) × (over d ≡ num d) = rw e (round-num a c (rw e at D)) in
      let room : w < 2 ^ 1024 * 2 ^ 1074 =
      lt_of_le_of_lt o.least (lt_of_lt_of_le (round_under binary64 a c (rw e at D)) (nat-le-of-eq (pow-add 2 1074 1024 ∙ nat-mul-comm (2 ^ 1074) (2 ^ 1024)))) in
      let i : Is b w (2 ^ 1074) = dyadic-is w (2 ^ 1074) (record { digits = o.q; shift = o.k; few = o.few; value = refl }) (pow_pos 1074) room in
      let h : T (le m b) =
      below-round m _ _ _ w (2 ^ 1074) (mul-rounds binary64 f d F D) (mul-pos (den_pos f) (den_pos d)) (pow_pos 1074)
      (rw (nonneg-under f F S.low, v.1, v.2) (units (over f) (den f) (num d) (den d) g w (2 ^ 1074) v.0 (factor g w o.close))) in
      let k : over m * den b ≤ over b * den m = omega (arith, rw (nonneg-under m M M0, i.nonneg) at (le→cross m b M i.fine h)) in
      through (over m) (den m) (over b) (den b) w c a (2 ^ 1074) (den_pos b) (pow_pos 1074) k i.same o.below
    where
      units : (of df od dd g w U : ℕ) → od * U ≡ g * dd → of * g ≤ w * df → (of * od + 0 * 0) * U ≤ w * (df * dd) + (of * 0 + 0 * od) * U
      units of df od dd g w U e h = omega (arith, ap (λ (z : ℕ). of * z) e, mul-le-mul_right dd h)

      through : (om dm ob db w c a U : ℕ) → 0 < db → 0 < U → om * db ≤ ob * dm → ob * U ≡ w * db → w * c ≤ a * U → om * c ≤ a * dm
      through om dm ob db w c a U B P h e k =
          le_of_mul-le-mul_right (omega (arith, mul-le-mul_right (U * c) h, ap (λ (z : ℕ). z * (dm * c)) e, mul-le-mul_right (db * dm) k)) (mul-pos B P)

-- ---- the step
module _ (f L a v : Float) (S : In zero₊ below_one f) (LF : T (finite L)) (Lt : T (fits binary64 L)) (At : T (fits binary64 a)) (ha : In zero₊ L a)
    (hv : In zero₊ L v) where
  A : T (finite a)
  A = finite-between zero₊ a L tt LF ha.low ha.high

  W : T (finite v)
  W = finite-between zero₊ v L tt LF hv.low hv.high

  -- the largest: towards L
  abbrev D : Float
  D = sub L a

  abbrev M : Float
  M = mul f D

  D-low : T (le zero₊ D)
  D-low = sub-nonneg binary64 a L A LF ha.high

  D-finite : T (finite D)
  D-finite = finite-between zero₊ D L tt LF D-low (sub-le binary64 L a Lt LF A ha.low)

  f-high : T (le f one)
  f-high = le_trans f below_one one S.high (unfold floats in tt)

  M-low : T (le zero₊ M)
  M-low = mul-nonneg binary64 f D (F f S) D-finite S.low D-low

  M-high : T (le M D)
  M-high = scale-le binary64 f D (sub-fits binary64 L a) (F f S) D-finite S.low f-high D-low

  M-finite : T (finite M)
  M-finite = finite-between zero₊ M D tt D-finite M-low M-high

  -- L - a, exact, is gap / (den L * den a)
  abbrev gap : ℕ
  gap = over L * den a + under a * den L - (under L * den a + over a * den L)

  gap-units : Units gap (den L * den a)
  gap-units = units-diff (units-sum (units-over L LF Lt) (units_under a A At)) (units-sum (units_under L LF Lt) (units-over a A At))

  towards : T (le (add a M) L)
  towards = elim (sub-rounds binary64 L a LF A) [
    | inl r ↦
        rounds-le (add a M) L _ _ _ (add_rounds binary64 a M A M-finite) (mul-pos (den_pos a) (den_pos M)) LF Lt
        (below (over L) (under L) (den L) (over a) (under a) (den a) (over M) (under M) (den M) gap (add-sub_of_le r.0)
        (shrunk f S gap (den L * den a) D r.1 (mul-pos (den_pos L) (den_pos a)) (inl gap-units) D-finite M-finite M-low))
    | inr r ↦
        let z : T (le D zero₊) = rounds-nonpos binary64 D _ _ _ (mul-pos (den_pos L) (den_pos a)) (inr r) r.0 in
        le_trans (add a M) a L (add-le binary64 a M At A M-finite (le_trans M D zero₊ M-high z)) ha.high
  ]
    where
      below : (oL uL dL oa ua da om um dm g : ℕ) → uL * da + oa * dL + g ≡ oL * da + ua * dL → om * (dL * da) ≤ g * dm
          → (oa * dm + om * da) * dL + uL * (da * dm) ≤ oL * (da * dm) + (ua * dm + um * da) * dL
      below oL uL dL oa ua da om um dm g e h = omega (arith, ap (λ (z : ℕ). z * dm) e)

  -- this one
  abbrev d : Float
  d = sub v a

  abbrev m : Float
  m = mul f d

  d-low : T (le (neg a) d)
  d-low = le-rounds (neg a) d _ _ _ (sub-rounds binary64 v a W A) (mul-pos (den_pos v) (den_pos a)) (finite-neg a A) (neg-fits binary64 a At)
      (rw (over-neg a, under-neg a, den-neg a, nonneg-under v W hv.low, nonneg-under a A ha.low) (omega arith))

  d-high : T (le d D)
  d-high = sub-mono binary64 v L a a W LF A A hv.high (le_refl a (finite-ordered a A))

  d-finite : T (finite d)
  d-finite = finite-between (neg a) d D (finite-neg a A) D-finite d-low d-high

  m-low : T (le (neg a) m)
  m-low = le_trans (neg a) (mul f (neg a)) m (rw (mul-neg-r binary64 f a) (neg-le (mul f a) a (scale-le binary64 f a At (F f S) A S.low f-high ha.low)))
      (mul-mono-r binary64 f (neg a) d (F f S) (finite-neg a A) d-finite S.low d-low)

  m-high : T (le m M)
  m-high = mul-mono-r binary64 f d D (F f S) d-finite D-finite S.low d-high

  m-finite : T (finite m)
  m-finite = finite-between (neg a) m M (finite-neg a A) M-finite m-low m-high

  pub step_in : In zero₊ L (new_average f a (sub v a))
  step_in = record {
    low = rounds-nonneg binary64 (add a m) _ _ _ (mul-pos (den_pos a) (den_pos m)) (add_rounds binary64 a m A m-finite)
        (omega (arith, rw (over-neg a, under-neg a, den-neg a) at (le→cross (neg a) m (finite-neg a A) m-finite m-low)));
    high = le_trans (add a m) (add a M) L (add-mono binary64 a a m M A A m-finite M-finite (le_refl a (finite-ordered a A)) m-high) towards;
  }
