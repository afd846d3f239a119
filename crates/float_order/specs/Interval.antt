-- Ranges with ends that are worked out, not written: each lemma gives the range of a result by the ends of the operands' ranges, as terms that compute.
-- A chain of them needs no range in between. At its end `in-wider h (unfold floats in tt)` compares the ends with those that are wanted.
-- Each asks that the operands' ends are finite: `unfold floats in tt`, or `tt` where they are literals.
use Rattle.std.specs.Prelude.{Bool, true, false, cond, not, ◌&&◌, T, Float}
use Rattle.std.specs.Float.{binary64}
use Rattle.std.specs.Float.Ieee.{of_bits, of_int, round, lt, le, eq, ne, is_nan, neg, add, sub, mul, div}
use Rattle.std.specs.Float.Ieee.Fits.{and_i}
use Rattle.std.specs.Float.Ieee.Scale.{finite}
use Rattle.std.specs.Float.Ieee.Positive.{positive}
use Rattle.float_order.specs.Order.{ordered, le_refl, le_trans, le-ordered-l, le-ordered-r, lt→le, not-le→lt, neg-le}
use Rattle.float_order.specs.Ops.{add-ordered, sub-ordered, mul-ordered, div-by-positive}
use Rattle.float_order.specs.Range.{In, ends, inside, inside₄, four, add-in_lem, sub_in, mul_in, div-in}

-- ---- the lesser and the greater of two values that are ordered
abbrev pub lesser : Float → Float → Float
lesser x y = cond (le x y) x y

abbrev pub greater : Float → Float → Float
greater x y = cond (le x y) y x

-- a fact of both is a fact of either
pub cond_either : (P : Float → Type 0) (b : Bool) (x y : Float) → P x → P y → P (cond b x y)
cond_either P true x y p q = p
cond_either P false x y p q = q

module _ (x y : Float) (X : T (ordered x)) (Y : T (ordered y)) where
  sorted : (b : Bool) → (T b → T (le x y)) → (T (not b) → T (le y x))
      → T (le (cond b x y) x) × T (le (cond b x y) y) × T (le x (cond b y x)) × T (le y (cond b y x))
  sorted true f g = (le_refl x X, f tt, f tt, le_refl y Y)
  sorted false f g = (g tt, le_refl y Y, le_refl x X, g tt)

  around : T (le (lesser x y) x) × T (le (lesser x y) y) × T (le x (greater x y)) × T (le y (greater x y))
  around = sorted (le x y) (λ t. t) (λ t. lt→le y x (not-le→lt x y X Y t))

-- ---- four values
abbrev pub least₄ : Float → Float → Float → Float → Float
least₄ u v w z = lesser (lesser u v) (lesser w z)

abbrev pub most₄ : Float → Float → Float → Float → Float
most₄ u v w z = greater (greater u v) (greater w z)

pub within₄ : (u v w z : Float) → T (ordered u) → T (ordered v) → T (ordered w) → T (ordered z) → T (inside₄ (least₄ u v w z) (most₄ u v w z) u v w z)
within₄ u v w z U Y W Z =
    let a = around u v U Y in
    let b = around w z W Z in
    let lo = around (lesser u v) (lesser w z) (le-ordered-l (lesser u v) u a.0) (le-ordered-l (lesser w z) w b.0) in
    let hi = around (greater u v) (greater w z) (le-ordered-r u (greater u v) a.2) (le-ordered-r w (greater w z) b.2) in
    let l = least₄ u v w z in
    let m = most₄ u v w z in
    and_i (inside l m u && inside l m v) _
    (and_i (inside l m u) _
    (and_i (le l u) _ (le_trans l (lesser u v) u lo.0 a.0) (le_trans u (greater u v) m a.2 hi.2))
    (and_i (le l v) _ (le_trans l (lesser u v) v lo.0 a.1) (le_trans v (greater u v) m a.3 hi.2)))
    (and_i (inside l m w) _
    (and_i (le l w) _ (le_trans l (lesser w z) w lo.1 b.0) (le_trans w (greater w z) m b.2 hi.3))
    (and_i (le l z) _ (le_trans l (lesser w z) z lo.1 b.1) (le_trans z (greater w z) m b.3 hi.3)))

-- ---- the operations
pub add_at : {a b c d x y : Float} → In a b x → In c d y → T (ends a b c d) → In (add binary64 a c) (add binary64 b d) (add binary64 x y)
add_at {a} {b} {c} {d} h k E =
    let F = four (finite a) (finite b) (finite c) (finite d) E in
    let lo = add binary64 a c in
    let hi = add binary64 b d in
    add-in_lem h k (and_i (ends a b c d) _ E (and_i (le lo lo) _ (le_refl lo (add-ordered binary64 a c F.0 F.2)) (le_refl hi (add-ordered binary64 b d F.1 F.3))))

pub sub_at : {a b c d x y : Float} → In a b x → In c d y → T (ends a b c d) → In (sub binary64 a d) (sub binary64 b c) (sub binary64 x y)
sub_at {a} {b} {c} {d} h k E =
    let F = four (finite a) (finite b) (finite c) (finite d) E in
    let lo = sub binary64 a d in
    let hi = sub binary64 b c in
    sub_in h k (and_i (ends a b c d) _ E (and_i (le lo lo) _ (le_refl lo (sub-ordered binary64 a d F.0 F.3)) (le_refl hi (sub-ordered binary64 b c F.1 F.2))))

pub neg-at : {a b x : Float} → In a b x → In (neg b) (neg a) (neg x)
neg-at {a} {b} {x} h = record { low = neg-le x b h.high; high = neg-le a x h.low }

pub mul_at : {a b c d x y : Float} → In a b x → In c d y → T (ends a b c d)
    → In (least₄ (mul binary64 a c) (mul binary64 a d) (mul binary64 b c) (mul binary64 b d)) (most₄ (mul binary64 a c) (mul binary64 a d) (mul binary64 b c) (mul binary64 b d)) (mul binary64 x y)
mul_at {a} {b} {c} {d} h k E =
    let F = four (finite a) (finite b) (finite c) (finite d) E in
    let o = mul-ordered binary64 in
    mul_in h k (and_i (ends a b c d) _ E
    (within₄ (mul binary64 a c) (mul binary64 a d) (mul binary64 b c) (mul binary64 b d) (o a c F.0 F.2) (o a d F.0 F.3) (o b c F.1 F.2) (o b d F.1 F.3)))

-- the divisor's ends are above zero
pub div-at : {a b c d x y : Float} → In a b x → In c d y → T ((finite a && finite b) && (positive c && positive d))
    → In (least₄ (div binary64 a c) (div binary64 a d) (div binary64 b c) (div binary64 b d)) (most₄ (div binary64 a c) (div binary64 a d) (div binary64 b c) (div binary64 b d)) (div binary64 x y)
div-at {a} {b} {c} {d} h k E =
    let F = four (finite a) (finite b) (positive c) (positive d) E in
    let o = div-by-positive binary64 in
    div-in h k (and_i ((finite a && finite b) && (positive c && positive d)) _ E
    (within₄ (div binary64 a c) (div binary64 a d) (div binary64 b c) (div binary64 b d) (o a c F.0 F.2) (o a d F.0 F.3) (o b c F.1 F.2) (o b d F.1 F.3)))

-- `unfold floats in tt` opens every operation at once: what is left must be closed, that is, hold no variable
unfoldable pub floats : Bool
unfolding of_bits of_int round neg add sub mul div lt le eq ne is_nan
floats = true
