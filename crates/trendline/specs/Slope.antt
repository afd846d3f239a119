-- The least-squares slope over 20 points, with finite bounds for its totals, averages, numerator, denominator and quotient. Times are within 2 ^ 40 ms, which
-- 10 ^ 12 + 1000 is below, and delays within 10 ^ 31 ms; either may be any float there, so a denominator may be as small as 2 ^ -1074.
use Rattle.std.specs.Prelude.{◌≡◌, refl, Bool, false, ◌&&◌, Float}
use Rattle.std.proofs.Math.Path.{sym, subst}
use Rattle.std.proofs.Common.{ap, ◌∙◌, inl, inr, T_not, lit<, lit≤}
use mathlib.Core.List.{List, [], ◌∷◌}
use Prim.Native.Nat.{ℕ, zero, suc, ◌+◌, ◌*◌, ◌^◌, ◌≤◌, ◌<◌}
use native.Mathlib.Omega.{arith}
use Rattle.std.proofs.Math.Dec.{T}
use Rattle.std.proofs.Math.ListN.{length}
use Rattle.std.specs.Float.Ieee as Ieee
use Rattle.std.specs.Float.Ieee.{binary64, le, neg, fits}
use Rattle.std.specs.Float.Ieee.Bits.{of_bits-fits}
use Rattle.std.specs.Float.Ieee.Fits.{and_l, and_r, add-fits, mul-fits, sub-fits}
use Rattle.std.specs.Float.Ieee.Scale.{finite}
use Rattle.std.specs.Float.Ieee.Positive.{den, positive}
use Rattle.float_order.specs.Arith.{either}
use Rattle.float_order.specs.Binary64.{add, sub, mul, div, lit}
use Rattle.float_order.specs.Order.{ordered, over, le_refl, le_trans, le_antisym, not-le→lt, neg-le, finite-ordered, is_false}
use Rattle.float_order.specs.Ops.{zero₊, add_comm, add-nonneg}
use Rattle.float_order.specs.Range.{In, Within, nat, ends, in-finite, in-ordered, in-closed, lit-in, add-in, sub_in, mul_in, div-in, square-in, positive-of-lt}
use Rattle.float_order.specs.Interval.{floats}
use Rattle.float_order.specs.Exact.{le-add}
use Rattle.float_order.specs.Dyadic.{two^}
use Rattle.trendline.specs.declared.Fit.{Fit}
use Rattle.bool_laws.specs.Bools.{cases}
use Rattle.trendline.specs.Trendline.{window_size, total_from, total, with_point, sums_from, sums, average, linear_fit}
use Rattle.trendline.specs.History.{First}
use Rattle.trendline.specs.Term.{Scaled, scaled-wider, scaled-add, scaled-div, term}

-- ---- the claims
abbrev pub Time : Float → Type 0
Time x = Within (two^ 40) x

abbrev pub Delay : Float → Type 0
Delay y = Within (nat (10 ^ 31)) y

abbrev pub fit : List Float → List Float → Fit
fit times delays = sums times delays (average times) (average delays)

pub record Bounded (times delays : List Float) : Type 0 where
  pub times-total : Within (nat (20 * 2 ^ 40)) (total times)
  pub delays-total : Within (nat (201 * 10 ^ 30)) (total delays)
  pub times-average : Within (two^ 40) (average times)
  pub delays-average : Within (nat (101 * 10 ^ 29)) (average delays)
  pub numerator : Within (nat (20 * 2 ^ 145)) (fit times delays).numerator
  pub denominator : In zero₊ (nat (20 * 2 ^ 82)) (fit times delays).denominator

-- ---- each element of a list
abbrev Each : (Float → Type 0) → List Float → Type 0
Each P [] = Unit {0}
Each P (x ∷ xs) = P x × Each P xs

each_of : (P : Float → Type 0) (xs : List Float) → First P (length xs) xs → Each P xs
each_of P [] h = tt
each_of P (x ∷ xs) h = (h 0 (omega arith), each_of P xs (λ i l. h (suc i) (omega arith)))

each_map : {P Q : Float → Type 0} (xs : List Float) → ((x : Float) → P x → Q x) → Each P xs → Each Q xs
each_map [] f h = tt
each_map (x ∷ xs) f h = (f x h.0, each_map xs f h.1)

-- ---- totals
pub wider : {a b x : Float} → T (le a b) → Within a x → Within b x
wider {a} {b} {x} l h = record { low = le_trans (neg b) (neg a) x (neg-le a b l) h.low; high = le_trans x a b h.high l }

-- |x| ≤ a and |y| ≤ b give |x + y| ≤ a + b, each sum rounded
abbrev adds : Float → Float → Bool
adds a b = ends (neg a) a (neg b) b && (le (neg (add a b)) (add (neg a) (neg b)) && le (add a b) (add a b))

-- n values of a size up to b, added one by one to a value of a size up to a, give one of a size up to e
abbrev reaches : Float → Float → ℕ → Float → Bool
reaches a b zero e = le a e
reaches a b (suc n) e = adds a b && reaches (add a b) b n e

total-in : (a b e s : Float) (xs : List Float) → Within a s → Each (Within b) xs → T (reaches a b (length xs) e) → Within e (total_from s xs)
unfolding total_from
total-in a b e s [] h k t = wider t h
total-in a b e s (x ∷ xs) h k t =
    let r = reaches (add a b) b (length xs) e in
    total-in (add a b) b e (add s x) xs (add-in h k.0 (and_l (adds a b) r t)) k.1 (and_r (adds a b) r t)

-- values that are not negative: their total is at least what it starts from, and at least each of them
record Part (b x : Float) : Type 0 where
  range : In zero₊ b x
  held : T (fits binary64 x)

pub nonneg-within : {b x : Float} → In zero₊ b x → Within b x
nonneg-within {b} {x} h =
    record { low = le_trans (neg b) zero₊ x (le_trans (neg b) (neg zero₊) zero₊ (neg-le zero₊ b (le_trans zero₊ x b h.low h.high)) (unfold floats in tt)) h.low; high = h.high }

total-above : (a b e s : Float) (xs : List Float) → T (le zero₊ s) → T (fits binary64 s) → Within a s → Each (Part b) xs → T (reaches a b (length xs) e)
    → T (le s (total_from s xs)) × Each (λ (x : Float). T (le x (total_from s xs))) xs
unfolding total_from
total-above a b e s [] z f h k t = (le_refl s (in-ordered h), tt)
total-above a b e s (x ∷ xs) z f h k t =
    let r = reaches (add a b) b (length xs) e in
    let q = and_l (adds a b) r t in
    let g = and_l (ends (neg a) a (neg b) b) _ q in
    let w = nonneg-within k.0.range in
    let S = in-finite h (and_l (finite (neg a) && finite a) _ g) in
    let X = in-finite w (and_r (finite (neg a) && finite a) _ g) in
    let total = total_from (add s x) xs in
    let rest = total-above (add a b) b e (add s x) xs (add-nonneg binary64 s x S X z k.0.range.low) (add-fits binary64 s x) (add-in h w q) k.1 (and_r (adds a b) r t) in (
      le_trans s (add s x) total (le-add binary64 s x f S X k.0.range.low) rest.0,
      (le_trans x (add s x) total (rw (add_comm binary64 s x) (le-add binary64 x s k.0.held X S z)) rest.0, rest.1),
    )

-- ---- the sums as totals of terms (x - avg_x) * (y - avg_y)
abbrev terms : List Float → List Float → Float → Float → List Float
terms [] ys avg_x avg_y = []
terms (x ∷ xs) [] avg_x avg_y = []
terms (x ∷ xs) (y ∷ ys) avg_x avg_y = mul (sub x avg_x) (sub y avg_y) ∷ terms xs ys avg_x avg_y

terms-length : (xs ys : List Float) (avg_x avg_y : Float) → length xs ≡ length ys → length (terms xs ys avg_x avg_y) ≡ length xs
terms-length [] ys avg_x avg_y e = refl
terms-length (x ∷ xs) [] avg_x avg_y e = absurd (omega arith)
terms-length (x ∷ xs) (y ∷ ys) avg_x avg_y e = ap suc (terms-length xs ys avg_x avg_y (omega arith))

numerator-total : (s : Fit) (xs ys : List Float) (avg_x avg_y : Float) → (sums_from s xs ys avg_x avg_y).numerator ≡ total_from s.numerator (terms xs ys avg_x avg_y)
unfolding sums_from with_point total_from
numerator-total s [] ys avg_x avg_y = refl
numerator-total s (x ∷ xs) [] avg_x avg_y = refl
numerator-total s (x ∷ xs) (y ∷ ys) avg_x avg_y = numerator-total (with_point s x y avg_x avg_y) xs ys avg_x avg_y

denominator-total : (s : Fit) (xs ys : List Float) (avg_x avg_y : Float) → length xs ≡ length ys
    → (sums_from s xs ys avg_x avg_y).denominator ≡ total_from s.denominator (terms xs xs avg_x avg_x)
unfolding sums_from with_point total_from
denominator-total s [] ys avg_x avg_y e = refl
denominator-total s (x ∷ xs) [] avg_x avg_y e = absurd (omega arith)
denominator-total s (x ∷ xs) (y ∷ ys) avg_x avg_y e = denominator-total (with_point s x y avg_x avg_y) xs ys avg_x avg_y (omega arith)

module _ (avg_x avg_y : Float) (mx : Within (two^ 40) avg_x) (my : Within (nat (101 * 10 ^ 29)) avg_y) where
  time-apart : (x : Float) → Time x → Within (two^ 41) (sub x avg_x)
  time-apart x h = sub_in h mx (unfold floats in tt)

  delay-apart : (y : Float) → Delay y → Within (two^ 104) (sub y avg_y)
  delay-apart y h = sub_in h my (unfold floats in tt)

  products-in : (xs ys : List Float) → Each Time xs → Each Delay ys → Each (Within (two^ 145)) (terms xs ys avg_x avg_y)
  products-in [] ys h k = tt
  products-in (x ∷ xs) [] h k = tt
  products-in (x ∷ xs) (y ∷ ys) h k = (mul_in (time-apart x h.0) (delay-apart y k.0) (unfold floats in tt), products-in xs ys h.1 k.1)

  squares-in : (xs : List Float) → Each Time xs → Each (Part (two^ 82)) (terms xs xs avg_x avg_x)
  squares-in [] h = tt
  squares-in (x ∷ xs) h =
      (record { range = square-in (time-apart x h.0) (unfold floats in tt); held = mul-fits binary64 (sub x avg_x) (sub x avg_x) }, squares-in xs h.1)

  -- the terms of the numerator, against a D that is at least each square
  module _ (D : Float) (k : ℕ) (P : T (positive D)) (f : T (fits binary64 D)) (high : T (le D (two^ k))) (room : k + 688 < 1024) where
    products-scaled : (xs ys : List Float) → Each Time xs → Each Delay ys → Each (λ (q : Float). T (le q D)) (terms xs xs avg_x avg_x) → Each (Scaled D 668) (terms xs ys avg_x avg_y)
    products-scaled [] ys h g l = tt
    products-scaled (x ∷ xs) [] h g l = tt
    products-scaled (x ∷ xs) (y ∷ ys) h g l =
        (term D k P f high (sub x avg_x) (in-finite (time-apart x h.0) (unfold floats in tt)) (sub-fits binary64 x avg_x) l.0 (sub y avg_y) 104 668 (lit≤ tt) (omega arith) (delay-apart y g.0), products-scaled xs ys h.1 g.1 l.1)

    total-scaled : (t : ℕ) (s : Float) (qs : List Float) → 668 ≤ t → t + length qs ≤ 688 → Scaled D t s → Each (Scaled D 668) qs → Scaled D (t + length qs) (total_from s qs)
    unfolding total_from
    total-scaled t s [] l r h g = scaled-wider D s t (t + 0) (omega arith) h
    total-scaled t s (q ∷ qs) l r h g =
        let next : Scaled D (suc t) (add s q) = scaled-add D k P f high s q t (omega arith) h (scaled-wider D q 668 t l g.0) in
        let e : suc t + length qs ≡ t + suc (length qs) = omega arith in
        subst (λ (u : ℕ). Scaled D u (total_from (add s q) qs)) e (total-scaled (suc t) (add s q) qs (omega arith) (omega arith) next g.1)

-- ---- a denominator that is not 0 is above it
zero_is : lit 0 ≡ zero₊
unfolding floats
zero_is = refl

positive_of : (D : Float) → T (finite D) → T (le zero₊ D) → Ieee.eq D (lit 0) ≡ false → T (positive D)
positive_of D F z e = elim (either (le D zero₊)) [
  | inl t ↦ absurd (T_not (Ieee.eq D zero₊) (is_false (Ieee.eq D zero₊) (rw zero_is at e)) (le_antisym D zero₊ t z))
  | inr t ↦ positive-of-lt D F (not-le→lt D zero₊ (finite-ordered D F) tt t)
]

zero-scaled : (D : Float) (t : ℕ) → Scaled D t (lit 0)
zero-scaled D t = rw zero_is (record { fine = tt; most = none (over D * 2 ^ t) (den D) })
  where
    none : (a c : ℕ) → 0 * c ≤ a * 1
    none a c = omega arith

total-fits : (s : Float) (xs : List Float) → T (fits binary64 s) → T (fits binary64 (total_from s xs))
unfolding total_from
total-fits s [] f = f
total-fits s (x ∷ xs) f = total-fits (add s x) xs (add-fits binary64 s x)

-- ---- the proofs of the claims
module _ (times delays : List Float) (m : length times ≡ 20) (n : length delays ≡ 20) (h : First Time 20 times) (g : First Delay 20 delays) where
  hs : Each Time times
  hs = each_of Time times (rw m h)

  gs : Each Delay delays
  gs = each_of Delay delays (rw n g)

  zero_in : Within zero₊ (lit 0)
  zero_in = in-closed (unfold floats in tt)

  times-total-in : Within (nat (20 * 2 ^ 40)) (total times)
  times-total-in = total-in zero₊ (two^ 40) (nat (20 * 2 ^ 40)) (lit 0) times zero_in hs (rw m (unfold floats in tt))

  delays-total-in : Within (nat (201 * 10 ^ 30)) (total delays)
  delays-total-in = total-in zero₊ (nat (10 ^ 31)) (nat (201 * 10 ^ 30)) (lit 0) delays zero_in gs (rw n (unfold floats in tt))

  times-average-in : Within (two^ 40) (average times)
  times-average-in = div-in times-total-in (lit-in window_size (unfold floats in tt)) (unfold floats in tt)

  delays-average-in : Within (nat (101 * 10 ^ 29)) (average delays)
  delays-average-in = div-in delays-total-in (lit-in window_size (unfold floats in tt)) (unfold floats in tt)

  abbrev squares : List Float
  squares = terms times times (average times) (average times)

  abbrev products : List Float
  products = terms times delays (average times) (average delays)

  squares-parts : Each (Part (two^ 82)) squares
  squares-parts = squares-in (average times) (average delays) times-average-in delays-average-in times hs

  squares-test : T (reaches zero₊ (two^ 82) (length squares) (nat (20 * 2 ^ 82)))
  squares-test = rw (terms-length times times (average times) (average times) refl, m) (unfold floats in tt)

  squares-above : T (le (lit 0) (total squares)) × Each (λ (q : Float). T (le q (total squares))) squares
  squares-above = total-above zero₊ (two^ 82) (nat (20 * 2 ^ 82)) (lit 0) squares (unfold floats in tt) (of_bits-fits binary64 0) zero_in squares-parts squares-test

  numerator-is : (fit times delays).numerator ≡ total products
  numerator-is = numerator-total (record { numerator = lit 0; denominator = lit 0 }) times delays (average times) (average delays)

  denominator-is : (fit times delays).denominator ≡ total squares
  denominator-is = denominator-total (record { numerator = lit 0; denominator = lit 0 }) times delays (average times) (average delays) (m ∙ sym n)

  numerator-in : Within (nat (20 * 2 ^ 145)) (total products)
  numerator-in =
      total-in zero₊ (two^ 145) (nat (20 * 2 ^ 145)) (lit 0) products zero_in (products-in (average times) (average delays) times-average-in delays-average-in times delays hs gs)
      (rw (terms-length times delays (average times) (average delays) (m ∙ sym n), m) (unfold floats in tt))

  denominator-in : In zero₊ (nat (20 * 2 ^ 82)) (total squares)
  denominator-in =
      let w = total-in zero₊ (two^ 82) (nat (20 * 2 ^ 82)) (lit 0) squares zero_in (each_map squares (λ x p. nonneg-within p.range) squares-parts) squares-test in
      record {
        low = le_trans zero₊ (lit 0) (total squares) (unfold floats in tt) squares-above.0;
        high = w.high;
      }

  pub sums-in : Bounded times delays
  sums-in =
      record {
        times-total = times-total-in;
        delays-total = delays-total-in;
        times-average = times-average-in;
        delays-average = delays-average-in;
        numerator = rw numerator-is numerator-in;
        denominator = rw denominator-is denominator-in;
      }

  slope-total : Ieee.eq (total squares) (lit 0) ≡ false → Within (two^ 688) (div (total products) (total squares))
  slope-total e =
      let D = total squares in
      let P = positive_of D (in-finite denominator-in tt) denominator-in.low e in
      let f = total-fits (lit 0) squares (of_bits-fits binary64 0) in
      let high : T (le D (two^ 87)) = le_trans D (nat (20 * 2 ^ 82)) (two^ 87) denominator-in.high (unfold floats in tt) in
      let few : length products ≡ 20 = terms-length times delays (average times) (average delays) (m ∙ sym n) ∙ m in
      let parts = products-scaled (average times) (average delays) times-average-in delays-average-in D 87 P f high (lit< tt) times delays hs gs squares-above.1 in
      let w = total-scaled (average times) (average delays) times-average-in delays-average-in D 87 P f high (lit< tt) 668 (lit 0) products (lit≤ tt) (rw few (lit≤ tt)) (zero-scaled D 668) parts in
      scaled-div D 87 P f high (total products) 688 (lit< tt) (rw few at w)

  pub slope-in : Ieee.eq (fit times delays).denominator (lit 0) ≡ false → Within (two^ 688) (div (fit times delays).numerator (fit times delays).denominator)
  slope-in e = rw (numerator-is, denominator-is) (slope-total (rw denominator-is at e))

  -- it is no NaN where the previous trend is none
  pub fit-ordered : (previous : Float) → T (ordered previous) → T (ordered (linear_fit times delays previous))
  unfolding linear_fit
  fit-ordered previous o = cases (λ (z : Float). T (ordered z)) (Ieee.eq (fit times delays).denominator (lit 0)) (λ e. o) (λ e. in-ordered (slope-in e))
