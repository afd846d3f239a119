-- Laws of `min`, `max`, `clamp` and `abs`: bounds, order and ranges.
use Rattle.std.specs.Prelude.{◌≡◌, zero, suc, Bool, true, false, cond, not, ◌&&◌, ◌||◌, T, is_nan, refl, Float}
use Rattle.std.proofs.Common.{ap, ◌∙◌, subst, inl, inr, arith, T_not}
use Rattle.std.specs.Float.{nan, inf, fin, Format}
use Rattle.std.specs.Float.Ieee.{fits, lt, le, neg}
use Rattle.std.specs.Float.Ieee.Fits.{and_l, and_r}
use Rattle.float_order.specs.Order.{ordered, or_split, ordered-no-nan, no-nan-ordered, ordered-neg, le_refl, le_trans, le-ordered-l, le-ordered-r, cross→le, lt→le, not-lt→le, lt→not-le, neg-le, neg-neg}
use Rattle.float_order.specs.Ops.{zero₊, nonneg_of}
use Rattle.float_order.specs.Range.{In, Within}
use Rattle.float_order.specs.Interval.{cond_either}
use Rattle.float.specs.Float.{raised, lowered, min, max, clamp, abs}

-- ---- each is one of its operands, so a fact of both is a fact of the result
pub min-either : (P : Float → Type 0) (x y : Float) → P x → P y → P (min x y)
unfolding min
min-either P x y p q = cond_either P (is_nan x) y (cond (lt y x) y x) q (cond_either P (lt y x) y x q p)

pub max-either : (P : Float → Type 0) (x y : Float) → P x → P y → P (max x y)
unfolding max
max-either P x y p q = cond_either P (is_nan x) y (cond (lt x y) y x) q (cond_either P (lt x y) y x q p)

-- a fact that the test decides
cond-case : (P : Float → Type 0) (b : Bool) (x y : Float) → (T b → P x) → (T (not b) → P y) → P (cond b x y)
cond-case P true x y f g = f tt
cond-case P false x y f g = g tt

-- ---- `min` is at most each operand that is no NaN, and `max` at least
pub min-le-l : (x y : Float) → T (ordered x) → T (le (min x y) x)
unfolding min
min-le-l x y p =
    cond-case (λ (z : Float). T (le z x)) (is_nan x) y (cond (lt y x) y x) (λ t. absurd (T_not (is_nan x) (ordered-no-nan x p) t))
    (λ t. cond-case (λ (z : Float). T (le z x)) (lt y x) y x (lt→le y x) (λ h. le_refl x p))

pub min-le-r : (x y : Float) → T (ordered y) → T (le (min x y) y)
unfolding min
min-le-r x y q =
    cond-case (λ (z : Float). T (le z y)) (is_nan x) y (cond (lt y x) y x) (λ t. le_refl y q)
    (λ t. cond-case (λ (z : Float). T (le z y)) (lt y x) y x (λ h. le_refl y q) (not-lt→le y x q (no-nan-ordered x t)))

pub le-max-l : (x y : Float) → T (ordered x) → T (le x (max x y))
unfolding max
le-max-l x y p =
    cond-case (λ (z : Float). T (le x z)) (is_nan x) y (cond (lt x y) y x) (λ t. absurd (T_not (is_nan x) (ordered-no-nan x p) t))
    (λ t. cond-case (λ (z : Float). T (le x z)) (lt x y) y x (lt→le x y) (λ h. le_refl x p))

pub le-max-r : (x y : Float) → T (ordered y) → T (le y (max x y))
unfolding max
le-max-r x y q =
    cond-case (λ (z : Float). T (le y z)) (is_nan x) y (cond (lt x y) y x) (λ t. le_refl y q)
    (λ t. cond-case (λ (z : Float). T (le y z)) (lt x y) y x (λ h. le_refl y q) (not-lt→le x y (no-nan-ordered x t) q))

-- ---- what is at most both is at most their `min`, and what is at least both at least their `max`
pub le-min : (z x y : Float) → T (le z x) → T (le z y) → T (le z (min x y))
le-min z x y h k = min-either (λ (w : Float). T (le z w)) x y h k

pub max-le : (x y z : Float) → T (le x z) → T (le y z) → T (le (max x y) z)
max-le x y z h k = max-either (λ (w : Float). T (le w z)) x y h k

pub min-mono : (x x' y y' : Float) → T (le x x') → T (le y y') → T (le (min x y) (min x' y'))
min-mono x x' y y' h k =
    le-min (min x y) x' y' (le_trans (min x y) x x' (min-le-l x y (le-ordered-l x x' h)) h) (le_trans (min x y) y y' (min-le-r x y (le-ordered-l y y' k)) k)

pub max-mono : (x x' y y' : Float) → T (le x x') → T (le y y') → T (le (max x y) (max x' y'))
max-mono x x' y y' h k =
    max-le x y (max x' y') (le_trans x x' (max x' y') h (le-max-l x' y' (le-ordered-r x x' h))) (le_trans y y' (max x' y') k (le-max-r x' y' (le-ordered-r y y' k)))

-- ---- ranges
-- with the ends worked out
pub min-at : {a b c d x y : Float} → In a b x → In c d y → In (min a c) (min b d) (min x y)
min-at {a} {b} {c} {d} {x} {y} h k = record { low = min-mono a x c y h.low k.low; high = min-mono x b y d h.high k.high }

pub max-at : {a b c d x y : Float} → In a b x → In c d y → In (max a c) (max b d) (max x y)
max-at {a} {b} {c} {d} {x} {y} h k = record { low = max-mono a x c y h.low k.low; high = max-mono x b y d h.high k.high }

-- with the ends given
pub min-in : {a b c d x y lo hi : Float} → In a b x → In c d y → T ((le lo a && le lo c) && (le b hi || le d hi)) → In lo hi (min x y)
min-in {a} {b} {c} {d} {x} {y} {lo} {hi} h k t =
    let L = and_l (le lo a && le lo c) (le b hi || le d hi) t in
    record {
      low = le-min lo x y (le_trans lo a x (and_l (le lo a) (le lo c) L) h.low) (le_trans lo c y (and_r (le lo a) (le lo c) L) k.low);
      high = elim (or_split (le b hi) (le d hi) (and_r (le lo a && le lo c) (le b hi || le d hi) t)) [
        | inl g ↦ le_trans (min x y) x hi (min-le-l x y (le-ordered-l x b h.high)) (le_trans x b hi h.high g)
        | inr g ↦ le_trans (min x y) y hi (min-le-r x y (le-ordered-l y d k.high)) (le_trans y d hi k.high g)
      ];
    }

pub max-in : {a b c d x y lo hi : Float} → In a b x → In c d y → T ((le b hi && le d hi) && (le lo a || le lo c)) → In lo hi (max x y)
max-in {a} {b} {c} {d} {x} {y} {lo} {hi} h k t =
    let H = and_l (le b hi && le d hi) (le lo a || le lo c) t in
    record {
      low = elim (or_split (le lo a) (le lo c) (and_r (le b hi && le d hi) (le lo a || le lo c) t)) [
        | inl g ↦ le_trans lo x (max x y) (le_trans lo a x g h.low) (le-max-l x y (le-ordered-r a x h.low))
        | inr g ↦ le_trans lo y (max x y) (le_trans lo c y g k.low) (le-max-r x y (le-ordered-r c y k.low))
      ];
      high = max-le x y hi (le_trans x b hi h.high (and_l (le b hi) (le d hi) H)) (le_trans y d hi k.high (and_r (le b hi) (le d hi) H));
    }

-- whatever x is, a NaN too: `min(x, hi)` is at most hi, and `max(x, lo)` at least lo
pub min-cap : (x hi : Float) → T (ordered hi) → T (le (min x hi) hi)
min-cap = min-le-r

pub max-floor : (x lo : Float) → T (ordered lo) → T (le lo (max x lo))
max-floor = le-max-r

-- ---- `clamp`: x raised to lo, then lowered to hi
raised-ge : (x lo : Float) → T (ordered x) → T (ordered lo) → T (le lo (raised x lo))
raised-ge x lo p q = cond-case (λ (z : Float). T (le lo z)) (lt x lo) lo x (λ t. le_refl lo q) (not-lt→le x lo p q)

le-raised : (z x lo : Float) → T (le z x) → T (le z (raised x lo))
le-raised z x lo h = cond-case (λ (w : Float). T (le z w)) (lt x lo) lo x (λ t. le_trans z x lo h (lt→le x lo t)) (λ t. h)

lowered-le : (x hi : Float) → T (ordered x) → T (ordered hi) → T (le (lowered x hi) hi)
lowered-le x hi p q = cond-case (λ (z : Float). T (le z hi)) (lt hi x) hi x (λ t. le_refl hi q) (not-lt→le hi x q p)

-- of any x that is no NaN it lies between the ends
pub clamp-in : (x lo hi : Float) → T (ordered x) → T (le lo hi) → In lo hi (clamp x lo hi)
unfolding clamp
clamp-in x lo hi p h =
    let g : T (le lo (raised x lo)) = raised-ge x lo p (le-ordered-l lo hi h) in
    record {
      low = cond_either (λ (z : Float). T (le lo z)) (lt hi (raised x lo)) hi (raised x lo) h g;
      high = lowered-le (raised x lo) hi (le-ordered-r lo (raised x lo) g) (le-ordered-r lo hi h);
    }

-- it leaves alone what lies there already
pub clamp-id : {lo hi x : Float} → In lo hi x → clamp x lo hi ≡ x
unfolding clamp
clamp-id {lo} {hi} {x} h =
    ap (λ (z : Float). lowered z hi) (cond-case (λ (z : Float). z ≡ x) (lt x lo) lo x (λ t. absurd (lt→not-le x lo t h.low)) (λ t. refl))
    ∙ cond-case (λ (z : Float). z ≡ x) (lt hi x) hi x (λ t. absurd (lt→not-le hi x t h.high)) (λ t. refl)

pub clamp-nan : (lo hi : Float) → clamp nan lo hi ≡ nan
unfolding clamp lt
clamp-nan lo nan = refl
clamp-nan lo (inf s) = refl
clamp-nan lo (fin s m e) = refl

-- what is at most x and at most hi is at most it
pub le-clamp : (z x lo hi : Float) → T (le z x) → T (le z hi) → T (le z (clamp x lo hi))
unfolding clamp
le-clamp z x lo hi h k = cond_either (λ (w : Float). T (le z w)) (lt hi (raised x lo)) hi (raised x lo) k (le-raised z x lo h)

pub clamp-mono : (x y lo hi : Float) → T (le lo hi) → T (le x y) → T (le (clamp x lo hi) (clamp y lo hi))
unfolding clamp
clamp-mono x y lo hi l h =
    let g : T (le (raised x lo) (raised y lo)) = cond_either (λ (z : Float). T (le z (raised y lo))) (lt x lo) lo x (raised-ge y lo (le-ordered-r x y h) (le-ordered-l lo hi l)) (le-raised x y lo h) in
    let u = raised x lo in
    let v = raised y lo in
    let o : T (ordered u) = le-ordered-l u v g in
    let k : T (le (lowered u hi) u) = cond-case (λ (z : Float). T (le z u)) (lt hi u) hi u (lt→le hi u) (λ t. le_refl u o) in
    cond_either (λ (z : Float). T (le (lowered u hi) z)) (lt hi v) hi v (lowered-le u hi o (le-ordered-r lo hi l)) (le_trans (lowered u hi) u v k g)

-- ---- |x|
-- it is x or -x
pub abs-either : (P : Float → Type 0) (x : Float) → P x → P (neg x) → P (abs x)
unfolding abs neg
abs-either P nan p q = p
abs-either P (inf true) p q = q
abs-either P (inf false) p q = p
abs-either P (fin true m e) p q = q
abs-either P (fin false m e) p q = p

pub abs_neg : (x : Float) → abs (neg x) ≡ abs x
unfolding abs neg
abs_neg nan = refl
abs_neg (inf s) = refl
abs_neg (fin s m e) = refl

pub abs-fits : (f : Format) (x : Float) → T (fits f x) → T (fits f (abs x))
unfolding abs fits
abs-fits f nan h = h
abs-fits f (inf s) h = h
abs-fits f (fin s zero e) h = h
abs-fits f (fin s (suc m) e) h = h

pub abs-nonneg : (x : Float) → T (ordered x) → T (le zero₊ (abs x))
unfolding abs
abs-nonneg nan p = absurd p
abs-nonneg (inf s) p = unfold le in tt
abs-nonneg (fin s m e) p = nonneg_of (fin false m e) tt refl

pub le-abs : (x : Float) → T (ordered x) → T (le x (abs x))
unfolding abs
le-abs nan p = absurd p
le-abs (inf true) p = unfold le in tt
le-abs (inf false) p = unfold le in tt
le-abs (fin true m e) p = cross→le (fin true m e) (fin false m e) tt tt (omega arith)
le-abs (fin false m e) p = le_refl (fin false m e) tt

pub abs-le : {a x : Float} → Within a x → T (le (abs x) a)
abs-le {a} {x} h = abs-either (λ (z : Float). T (le z a)) x h.high (subst (λ (z : Float). T (le (neg x) z)) (neg-neg a) (neg-le (neg a) x h.low))

pub abs-in : {a x : Float} → Within a x → In zero₊ a (abs x)
abs-in {a} {x} h = record { low = abs-nonneg x (le-ordered-l x a h.high); high = abs-le h }

abs-ordered : (x : Float) → T (ordered (abs x)) → T (ordered x)
unfolding abs
abs-ordered nan p = p
abs-ordered (inf s) p = tt
abs-ordered (fin s m e) p = tt

-- back from a bound of |x|
pub within-of-abs : (a x : Float) → T (le (abs x) a) → Within a x
within-of-abs a x h =
    let p : T (ordered x) = abs-ordered x (le-ordered-l (abs x) a h) in
    let k : T (le (neg x) (abs x)) = subst (λ (z : Float). T (le (neg x) z)) (abs_neg x) (le-abs (neg x) (ordered-neg x p)) in
    record {
      low = le_trans (neg a) (neg (abs x)) x (neg-le (abs x) a h) (subst (λ (z : Float). T (le (neg (abs x)) z)) (neg-neg x) (neg-le (neg x) (abs x) k));
      high = le_trans x (abs x) a (le-abs x p) h;
    }
