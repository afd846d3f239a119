-- Laws of instants and lengths of time: what is within the limits, the order, sums and differences, seconds.
use Rattle.std.specs.Prelude.{◌≡◌, ℕ, ◌+◌, ◌-◌, ◌*◌, ◌/◌, ◌%◌, ◌^◌, ◌<◌, ◌≤◌, Bool, true, false, cond, not, ◌&&◌, ◌||◌, pos, ◌==◌, nat_le, nat_lt, refl}
use Rattle.std.proofs.Common.{arith, div-le_self, le_trans, ap, le-leb, leb-true, lt-ltb, le-ltb, ltb-true, ltb-false, eq-eqb, ne_eqb, eqb-true}
use Rattle.std.specs.Float.Ieee as Ieee
use Rattle.std.specs.Float.Ieee.{binary64, of_int}
use Rattle.std.proofs.lemmas.Bool.{lt-leb}
use Rattle.float_order.specs.Casts.{of_int-in}
use Rattle.float_order.specs.Interval.{floats}
use Rattle.float_order.specs.Range.{In, nat, in-closed, add-in, div-in}
use Rattle.bool_laws.specs.Bools.{cases}
use Rattle.seconds.specs.Seconds as Seconds
use Rattle.std.specs.Ordering.{nat_cmp}
use Rattle.std.specs.declared.cmp.Ordering.TheVariants.{Less, Equal, Greater}
use Rattle.time.specs.declared.Timestamp.{Timestamp}
use Rattle.time.specs.declared.Timestamp.TheVariants.{DistantPast, Exact, DistantFuture}
use Rattle.time.specs.declared.TimeDelta.{TimeDelta}
use Rattle.time.specs.declared.TimeDelta.TheVariants.{NegativeInfinity, Negative, Positive, PositiveInfinity}
use Rattle.time.specs.Time.{limit, positive, negative, exact, limited, limited_instant, Within, WithinInstant}
use Rattle.time.specs.Time.{place_limited, place, place_limited_instant, place_instant}
use Rattle.time.specs.Time.{cmp, eq, lt, le, cmp_instant, eq_instant, lt_instant, le_instant}
use Rattle.time.specs.Time.{neg, difference, add_limited, add, sub, add_limited_delta, add_delta, sub_delta, since_limited, since, div_limited, div, secs_limited, as_secs_f64}

-- ---- the limits: what is limited is within them, and what is within them stays as it is
pub within-positive : (d : ℕ) → Within (positive d)
unfolding positive
within-positive d = cases Within (nat_le d limit) (leb-true d limit) (λ e. tt)

pub within-negative : (d : ℕ) → Within (negative d)
unfolding negative
within-negative d = cases Within (nat_le d limit) (leb-true d limit) (λ e. tt)

pub within-limited : (a : TimeDelta) → Within (limited a)
unfolding limited
within-limited NegativeInfinity = tt
within-limited (Negative d) = within-negative d
within-limited (Positive d) = within-positive d
within-limited PositiveInfinity = tt

pub within : (a : TimeDelta) {x : TimeDelta} → x ≡ limited a → Within x
within a e = rw e (within-limited a)

pub limited-within : (a : TimeDelta) → Within a → limited a ≡ a
unfolding limited positive negative
limited-within NegativeInfinity h = refl
limited-within (Negative d) h = rw (le-leb d limit h)
limited-within (Positive d) h = rw (le-leb d limit h)
limited-within PositiveInfinity h = refl

pub limited-limited : (a : TimeDelta) → limited (limited a) ≡ limited a
limited-limited a = limited-within (limited a) (within-limited a)

pub within-exact : (t : ℕ) → WithinInstant (exact t)
unfolding exact
within-exact t = cases WithinInstant (nat_le t limit) (leb-true t limit) (λ e. tt)

pub within-limited-instant : (t : Timestamp) → WithinInstant (limited_instant t)
unfolding limited_instant
within-limited-instant DistantPast = tt
within-limited-instant (Exact t) = within-exact t
within-limited-instant DistantFuture = tt

pub within-instant : (t : Timestamp) {x : Timestamp} → x ≡ limited_instant t → WithinInstant x
within-instant t e = rw e (within-limited-instant t)

pub limited-within-instant : (t : Timestamp) → WithinInstant t → limited_instant t ≡ t
unfolding limited_instant exact
limited-within-instant DistantPast h = refl
limited-within-instant (Exact t) h = rw (le-leb t limit h)
limited-within-instant DistantFuture h = refl

pub limited-limited-instant : (t : Timestamp) → limited_instant (limited_instant t) ≡ limited_instant t
limited-limited-instant t = limited-within-instant (limited_instant t) (within-limited-instant t)

-- ---- every operation's result is within the limits
pub within-neg : (a : TimeDelta) → Within (neg a)
unfolding neg
within-neg NegativeInfinity = tt
within-neg (Negative d) = within-positive d
within-neg (Positive d) = within-negative d
within-neg PositiveInfinity = tt

pub neg-limited : (a : TimeDelta) → neg (limited a) ≡ neg a
unfolding neg limited positive negative
neg-limited NegativeInfinity = refl
neg-limited (Negative d) = cases (λ x. neg x ≡ positive d) (nat_le d limit) (λ e. refl) (λ e. rw e)
neg-limited (Positive d) = cases (λ x. neg x ≡ negative d) (nat_le d limit) (λ e. refl) (λ e. rw e)
neg-limited PositiveInfinity = refl

within-difference : {a b : ℕ} → a ≤ limit → b ≤ limit → Within (difference a b)
unfolding difference
within-difference {a} {b} h k = cases Within (nat_lt a b) (λ e. omega arith) (λ e. omega arith)

within-added : (a b : TimeDelta) → Within a → Within b → Within (add_limited a b)
unfolding add_limited
within-added PositiveInfinity b h k = tt
within-added NegativeInfinity NegativeInfinity h k = tt
within-added NegativeInfinity (Negative d) h k = tt
within-added NegativeInfinity (Positive d) h k = tt
within-added NegativeInfinity PositiveInfinity h k = tt
within-added (Negative c) NegativeInfinity h k = tt
within-added (Negative c) (Negative d) h k = within-negative (c + d)
within-added (Negative c) (Positive d) h k = within-difference k h
within-added (Negative c) PositiveInfinity h k = tt
within-added (Positive c) NegativeInfinity h k = tt
within-added (Positive c) (Negative d) h k = within-difference h k
within-added (Positive c) (Positive d) h k = within-positive (c + d)
within-added (Positive c) PositiveInfinity h k = tt

pub within-add : (a b : TimeDelta) → Within (add a b)
unfolding add
within-add a b = within-added (limited a) (limited b) (within-limited a) (within-limited b)

pub within-sub : (a b : TimeDelta) → Within (sub a b)
unfolding sub
within-sub a b = within-add a (neg b)

within-divided : (a : TimeDelta) (n : ℕ) → Within a → Within (div_limited a n)
unfolding div_limited
within-divided NegativeInfinity n h = tt
within-divided (Negative d) n h = cases Within (n == 0) (λ e. tt) (λ e. le_trans (div-le_self d n) h)
within-divided (Positive d) n h = cases Within (n == 0) (λ e. tt) (λ e. le_trans (div-le_self d n) h)
within-divided PositiveInfinity n h = tt

pub within-div : (a : TimeDelta) (n : ℕ) → Within (div a n)
unfolding div
within-div a n = within-divided (limited a) n (within-limited a)

within-since-limited : (a b : Timestamp) → WithinInstant a → WithinInstant b → Within (since_limited a b)
unfolding since_limited
within-since-limited DistantFuture b h k = tt
within-since-limited DistantPast DistantPast h k = tt
within-since-limited DistantPast (Exact b) h k = tt
within-since-limited DistantPast DistantFuture h k = tt
within-since-limited (Exact a) DistantPast h k = tt
within-since-limited (Exact a) (Exact b) h k = within-difference h k
within-since-limited (Exact a) DistantFuture h k = tt

pub within-since : (a b : Timestamp) → Within (since a b)
unfolding since
within-since a b = within-since-limited (limited_instant a) (limited_instant b) (within-limited-instant a) (within-limited-instant b)

within-moved : (t : Timestamp) (d : TimeDelta) → WithinInstant t → WithinInstant (add_limited_delta t d)
unfolding add_limited_delta
within-moved t PositiveInfinity h = tt
within-moved DistantPast NegativeInfinity h = tt
within-moved DistantPast (Negative d) h = tt
within-moved DistantPast (Positive d) h = tt
within-moved (Exact t) NegativeInfinity h = tt
within-moved (Exact t) (Negative d) h = cases WithinInstant (nat_lt t d) (λ e. tt) (λ e. omega arith)
within-moved (Exact t) (Positive d) h = within-exact (t + d)
within-moved DistantFuture NegativeInfinity h = tt
within-moved DistantFuture (Negative d) h = tt
within-moved DistantFuture (Positive d) h = tt

pub within-add-delta : (t : Timestamp) (d : TimeDelta) → WithinInstant (add_delta t d)
unfolding add_delta
within-add-delta t d = within-moved (limited_instant t) (limited d) (within-limited-instant t)

pub within-sub-delta : (t : Timestamp) (d : TimeDelta) → WithinInstant (sub_delta t d)
unfolding sub_delta
within-sub-delta t d = within-add-delta t (neg d)

-- ---- the order, of lengths and of instants
pub trichotomy : {P : Type 0} (m n : ℕ) → (m < n → P) → (m ≡ n → P) → (n < m → P) → P
trichotomy {P} m n less same more = go (nat_lt m n) (nat_lt n m) refl refl
  where
    go : (s t : Bool) → nat_lt m n ≡ s → nat_lt n m ≡ t → P
    go true t p q = less (ltb-true m n p)
    go false true p q = more (ltb-true n m q)
    go false false p q = same (omega (arith, ltb-false m n p, ltb-false n m q))

pub dichotomy : {P : Type 0} (m n : ℕ) → (m < n → P) → (n ≤ m → P) → P
dichotomy m n f g = trichotomy m n f (λ e. g (omega arith)) (λ h. g (omega arith))

total : (m n : ℕ) → (nat_le m n || nat_le n m) ≡ true
total m n =
    trichotomy m n (λ h. rw (le-leb m n (omega arith))) (λ h. rw (le-leb m n (omega arith))) (λ h. rw (lt-leb m n h) (le-leb n m (omega arith)))

transitive : (k m n : ℕ) → nat_le k m ≡ true → nat_le m n ≡ true → nat_le k n ≡ true
transitive k m n p q = le-leb k n (le_trans (leb-true k m p) (leb-true m n q))

antisymmetric : (m n : ℕ) → nat_le m n ≡ true → nat_le n m ≡ true → m ≡ n
antisymmetric m n p q = omega (arith, leb-true m n p, leb-true n m q)

strict : (m n : ℕ) → nat_lt m n ≡ (nat_le m n && not (m == n))
strict m n =
    trichotomy
    m
    n
    (λ h. rw (lt-ltb m n h, le-leb m n (omega arith), ne_eqb m n (λ e. omega arith)))
    (λ h. rw (le-ltb m n (omega arith), le-leb m n (omega arith), eq-eqb m n h))
    (λ h. rw (le-ltb m n (omega arith), lt-leb m n h))

-- the comparison of two numbers, by < alone
pub compared : (m n : ℕ) → nat_cmp m n ≡ cond (nat_lt m n) Less (cond (nat_lt n m) Greater Equal)
compared m n =
    trichotomy
    m
    n
    (λ h. rw (lt-ltb m n h))
    (λ h. rw (le-ltb m n (omega arith), le-ltb n m (omega arith), eq-eqb m n h))
    (λ h. rw (le-ltb m n (omega arith), lt-ltb n m h, ne_eqb m n (λ e. omega arith)))

same_place : (a b : TimeDelta) → Within a → Within b → place_limited a ≡ place_limited b → a ≡ b
unfolding place_limited
same_place NegativeInfinity NegativeInfinity h k e = refl
same_place NegativeInfinity (Negative d) h k e = absurd (omega arith)
same_place NegativeInfinity (Positive d) h k e = absurd (omega arith)
same_place NegativeInfinity PositiveInfinity h k e = absurd (omega arith)
same_place (Negative c) NegativeInfinity h k e = absurd (omega arith)
same_place (Negative c) (Negative d) h k e = ap Negative (omega arith)
same_place (Negative c) (Positive d) h k e = absurd (omega arith)
same_place (Negative c) PositiveInfinity h k e = absurd (omega arith)
same_place (Positive c) NegativeInfinity h k e = absurd (omega arith)
same_place (Positive c) (Negative d) h k e = absurd (omega arith)
same_place (Positive c) (Positive d) h k e = ap Positive (omega arith)
same_place (Positive c) PositiveInfinity h k e = absurd (omega arith)
same_place PositiveInfinity NegativeInfinity h k e = absurd (omega arith)
same_place PositiveInfinity (Negative d) h k e = absurd (omega arith)
same_place PositiveInfinity (Positive d) h k e = absurd (omega arith)
same_place PositiveInfinity PositiveInfinity h k e = refl

-- lengths
pub le_total : (a b : TimeDelta) → (le a b || le b a) ≡ true
le_total a b = total (place a) (place b)

pub le-transitive : (a b c : TimeDelta) → le a b ≡ true → le b c ≡ true → le a c ≡ true
le-transitive a b c = transitive (place a) (place b) (place c)

pub le-antisymmetric : (a b : TimeDelta) → le a b ≡ true → le b a ≡ true → limited a ≡ limited b
unfolding place
le-antisymmetric a b p q =
    same_place (limited a) (limited b) (within-limited a) (within-limited b) (antisymmetric (place a) (place b) p q)

pub lt-le-eq : (a b : TimeDelta) → lt a b ≡ (le a b && not (eq a b))
lt-le-eq a b = strict (place a) (place b)

pub eq-limited : (a b : TimeDelta) → eq a b ≡ true → limited a ≡ limited b
unfolding place
eq-limited a b e = same_place (limited a) (limited b) (within-limited a) (within-limited b) (eqb-true (place a) (place b) e)

pub limited-eq : (a b : TimeDelta) → limited a ≡ limited b → eq a b ≡ true
unfolding place
limited-eq a b e = eq-eqb (place a) (place b) (ap place_limited e)

pub cmp-lt-eq : (a b : TimeDelta) → cmp a b ≡ cond (lt a b) Less (cond (eq a b) Equal Greater)
cmp-lt-eq a b = refl

pub negative-zero-below : lt (Negative 0) (Positive 0) ≡ true
unfolding place place_limited limited negative positive
negative-zero-below = refl

pub negative-zero-not-equal : eq (Negative 0) (Positive 0) ≡ false
unfolding place place_limited limited negative positive
negative-zero-not-equal = refl

-- instants
same-place-instant : (a b : Timestamp) → WithinInstant a → WithinInstant b → place_limited_instant a ≡ place_limited_instant b → a ≡ b
unfolding place_limited_instant
same-place-instant DistantPast DistantPast h k e = refl
same-place-instant DistantPast (Exact t) h k e = absurd (omega arith)
same-place-instant DistantPast DistantFuture h k e = absurd (omega arith)
same-place-instant (Exact s) DistantPast h k e = absurd (omega arith)
same-place-instant (Exact s) (Exact t) h k e = ap Exact (omega arith)
same-place-instant (Exact s) DistantFuture h k e = absurd (omega arith)
same-place-instant DistantFuture DistantPast h k e = absurd (omega arith)
same-place-instant DistantFuture (Exact t) h k e = absurd (omega arith)
same-place-instant DistantFuture DistantFuture h k e = refl

pub le-total-instant : (a b : Timestamp) → (le_instant a b || le_instant b a) ≡ true
le-total-instant a b = total (place_instant a) (place_instant b)

pub le-transitive-instant : (a b c : Timestamp) → le_instant a b ≡ true → le_instant b c ≡ true → le_instant a c ≡ true
le-transitive-instant a b c = transitive (place_instant a) (place_instant b) (place_instant c)

pub le-antisymmetric-instant : (a b : Timestamp) → le_instant a b ≡ true → le_instant b a ≡ true → limited_instant a ≡ limited_instant b
unfolding place_instant
le-antisymmetric-instant a b p q =
    same-place-instant (limited_instant a) (limited_instant b) (within-limited-instant a) (within-limited-instant b) (antisymmetric (place_instant a) (place_instant b) p q)

pub lt-le-eq-instant : (a b : Timestamp) → lt_instant a b ≡ (le_instant a b && not (eq_instant a b))
lt-le-eq-instant a b = strict (place_instant a) (place_instant b)

pub eq-limited-instant : (a b : Timestamp) → eq_instant a b ≡ true → limited_instant a ≡ limited_instant b
unfolding place_instant
eq-limited-instant a b e =
    same-place-instant (limited_instant a) (limited_instant b) (within-limited-instant a) (within-limited-instant b) (eqb-true (place_instant a) (place_instant b) e)

pub limited-eq-instant : (a b : Timestamp) → limited_instant a ≡ limited_instant b → eq_instant a b ≡ true
unfolding place_instant
limited-eq-instant a b e = eq-eqb (place_instant a) (place_instant b) (ap place_limited_instant e)

pub cmp-lt-eq-instant : (a b : Timestamp) → cmp_instant a b ≡ cond (lt_instant a b) Less (cond (eq_instant a b) Equal Greater)
cmp-lt-eq-instant a b = refl

-- ---- exact instants and finite lengths
pub since-exact : (a b : ℕ) → a ≤ limit → b ≤ limit → since (Exact a) (Exact b) ≡ difference a b
unfolding since since_limited
since-exact a b h k = rw (limited-within-instant (Exact a) h, limited-within-instant (Exact b) k)

-- an instant and the length from it to another give the other
pub add-since : (a b : ℕ) → a ≤ limit → b ≤ limit → add_delta (Exact b) (since (Exact a) (Exact b)) ≡ Exact a
unfolding add_delta add_limited_delta difference exact
add-since a b h k =
    rw
    (since-exact a b h k, limited-within-instant (Exact b) k, limited-within (difference a b) (within-difference h k))
    (cases
    (λ d. add_limited_delta (Exact b) d ≡ Exact a)
    (nat_lt a b)
    (λ e. rw (le-ltb b (b - a) (omega arith)) (ap Exact (omega (arith, ltb-true a b e))))
    (λ e. let s : b + (a - b) ≡ a = omega (arith, ltb-false a b e) in rw (s, le-leb a limit h)))

pub seconds-positive : (d : ℕ) → d ≤ limit → as_secs_f64 (Positive d) ≡ Seconds.as_secs_f64 d
unfolding as_secs_f64 secs_limited
seconds-positive d h = rw (limited-within (Positive d) h)

pub seconds-negative : (d : ℕ) → d ≤ limit → as_secs_f64 (Negative d) ≡ Ieee.neg (Seconds.as_secs_f64 d)
unfolding as_secs_f64 secs_limited
seconds-negative d h = rw (limited-within (Negative d) h)

-- from 0 to 4 × 10^9 + 1 seconds, so finite
pub seconds-in : (d : ℕ) → d ≤ limit → In (nat 0) (nat (4 * 10 ^ 9 + 1)) (as_secs_f64 (Positive d))
unfolding Seconds.as_secs_f64
seconds-in d h =
    let whole : In (nat 0) (nat (4 * 10 ^ 9)) (of_int binary64 (pos (d / 10 ^ 9))) =
    of_int-in 0 (4 * 10 ^ 9) (d / 10 ^ 9) (omega arith) (omega arith) (unfold floats in tt) in
    let rest : In (nat 0) (nat (10 ^ 9)) (of_int binary64 (pos (d % 10 ^ 9))) =
    of_int-in 0 (10 ^ 9) (d % 10 ^ 9) (omega arith) (omega arith) (unfold floats in tt) in
    let unit : In (nat (10 ^ 9)) (nat (10 ^ 9)) (of_int binary64 (pos (10 ^ 9))) = in-closed (unfold floats in tt) in
    let part : In (nat 0) (nat 1) (Ieee.div binary64 (of_int binary64 (pos (d % 10 ^ 9))) (of_int binary64 (pos (10 ^ 9)))) =
    div-in rest unit (unfold floats in tt) in
    rw (seconds-positive d h) (add-in whole part (unfold floats in tt))
