-- The Rust's own tables of `cmp` and `sub`: the definitions by places and by opposites give them, once the limits are put.
use Rattle.std.specs.Prelude.{◌≡◌, ℕ, ◌+◌, ◌-◌, ◌<◌, cond, nat_lt, refl}
use Rattle.std.proofs.Common.{arith, sym, ◌∙◌, le-leb, lt-ltb, le-ltb, eq-eqb, ne_eqb}
use Rattle.std.specs.Ordering.{nat_cmp}
use Rattle.std.specs.declared.cmp.Ordering.{Ordering}
use Rattle.std.specs.declared.cmp.Ordering.TheVariants.{Less, Equal, Greater}
use Rattle.time.specs.declared.Timestamp.{Timestamp}
use Rattle.time.specs.declared.Timestamp.TheVariants.{DistantPast, Exact, DistantFuture}
use Rattle.time.specs.declared.TimeDelta.{TimeDelta}
use Rattle.time.specs.declared.TimeDelta.TheVariants.{NegativeInfinity, Negative, Positive, PositiveInfinity}
use Rattle.time.specs.Time.{limit, Within, WithinInstant, positive, negative, exact, limited, limited_instant, place_limited, place, place_limited_instant, place_instant, cmp, cmp_instant}
use Rattle.time.specs.Time.{neg, difference, add_limited, add, sub, add_limited_delta, add_delta, sub_delta}
use Rattle.time.specs.Laws.{within-limited, within-limited-instant, limited-within, within-neg, neg-limited, trichotomy}

-- ---- the order
abbrev pub cmp_table : TimeDelta → TimeDelta → Ordering
cmp_table NegativeInfinity NegativeInfinity = Equal
cmp_table NegativeInfinity (Negative d) = Less
cmp_table NegativeInfinity (Positive d) = Less
cmp_table NegativeInfinity PositiveInfinity = Less
cmp_table (Negative c) NegativeInfinity = Greater
cmp_table (Negative c) (Negative d) = nat_cmp d c
cmp_table (Negative c) (Positive d) = Less
cmp_table (Negative c) PositiveInfinity = Less
cmp_table (Positive c) NegativeInfinity = Greater
cmp_table (Positive c) (Negative d) = Greater
cmp_table (Positive c) (Positive d) = nat_cmp c d
cmp_table (Positive c) PositiveInfinity = Less
cmp_table PositiveInfinity NegativeInfinity = Greater
cmp_table PositiveInfinity (Negative d) = Greater
cmp_table PositiveInfinity (Positive d) = Greater
cmp_table PositiveInfinity PositiveInfinity = Equal

-- `nat_cmp`, by a name that does not unfold
unfoldable compared : ℕ → ℕ → Ordering
compared = nat_cmp

less : (m n : ℕ) → m < n → compared m n ≡ Less
unfolding compared
less m n h = rw (lt-ltb m n h)

greater : (m n : ℕ) → n < m → compared m n ≡ Greater
unfolding compared
greater m n h = rw (le-ltb m n (omega arith), ne_eqb m n (λ e. omega arith))

equal : (m n : ℕ) → m ≡ n → compared m n ≡ Equal
unfolding compared
equal m n h = rw (le-ltb m n (omega arith), eq-eqb m n h)

alone : (m n : ℕ) → compared m n ≡ nat_cmp m n
unfolding compared
alone m n = refl

-- numbers that compare alike have the same order
alike : (k l m n : ℕ) → (k < l → m < n) → (k ≡ l → m ≡ n) → (l < k → n < m) → compared m n ≡ nat_cmp k l
alike k l m n f g h =
    trichotomy
    k
    l
    (λ p. less m n (f p) ∙ sym (less k l p))
    (λ p. equal m n (g p) ∙ sym (equal k l p))
    (λ p. greater m n (h p) ∙ sym (greater k l p))
    ∙ alone k l

placed : (a b : TimeDelta) → Within a → Within b → compared (place_limited a) (place_limited b) ≡ cmp_table a b
unfolding place_limited
placed NegativeInfinity NegativeInfinity h k = equal _ _ refl
placed NegativeInfinity (Negative d) h k = less _ _ (omega arith)
placed NegativeInfinity (Positive d) h k = less _ _ (omega arith)
placed NegativeInfinity PositiveInfinity h k = less _ _ (omega arith)
placed (Negative c) NegativeInfinity h k = greater _ _ (omega arith)
placed (Negative c) (Negative d) h k =
    alike d c (limit + 1 - c) (limit + 1 - d) (λ p. omega arith) (λ p. omega arith) (λ p. omega arith)
placed (Negative c) (Positive d) h k = less _ _ (omega arith)
placed (Negative c) PositiveInfinity h k = less _ _ (omega arith)
placed (Positive c) NegativeInfinity h k = greater _ _ (omega arith)
placed (Positive c) (Negative d) h k = greater _ _ (omega arith)
placed (Positive c) (Positive d) h k =
    alike c d (limit + 2 + c) (limit + 2 + d) (λ p. omega arith) (λ p. omega arith) (λ p. omega arith)
placed (Positive c) PositiveInfinity h k = less _ _ (omega arith)
placed PositiveInfinity NegativeInfinity h k = greater _ _ (omega arith)
placed PositiveInfinity (Negative d) h k = greater _ _ (omega arith)
placed PositiveInfinity (Positive d) h k = greater _ _ (omega arith)
placed PositiveInfinity PositiveInfinity h k = equal _ _ refl

pub cmp-table : (a b : TimeDelta) → cmp a b ≡ cmp_table (limited a) (limited b)
unfolding place compared
cmp-table a b = placed (limited a) (limited b) (within-limited a) (within-limited b)

abbrev pub cmp_instant_table : Timestamp → Timestamp → Ordering
cmp_instant_table DistantPast DistantPast = Equal
cmp_instant_table DistantPast (Exact t) = Less
cmp_instant_table DistantPast DistantFuture = Less
cmp_instant_table (Exact s) DistantPast = Greater
cmp_instant_table (Exact s) (Exact t) = nat_cmp s t
cmp_instant_table (Exact s) DistantFuture = Less
cmp_instant_table DistantFuture DistantPast = Greater
cmp_instant_table DistantFuture (Exact t) = Greater
cmp_instant_table DistantFuture DistantFuture = Equal

placed-instant : (a b : Timestamp) → WithinInstant a → WithinInstant b → compared (place_limited_instant a) (place_limited_instant b) ≡ cmp_instant_table a b
unfolding place_limited_instant
placed-instant DistantPast DistantPast h k = equal _ _ refl
placed-instant DistantPast (Exact t) h k = less _ _ (omega arith)
placed-instant DistantPast DistantFuture h k = less _ _ (omega arith)
placed-instant (Exact s) DistantPast h k = greater _ _ (omega arith)
placed-instant (Exact s) (Exact t) h k = alike s t (s + 1) (t + 1) (λ p. omega arith) (λ p. omega arith) (λ p. omega arith)
placed-instant (Exact s) DistantFuture h k = less _ _ (omega arith)
placed-instant DistantFuture DistantPast h k = greater _ _ (omega arith)
placed-instant DistantFuture (Exact t) h k = greater _ _ (omega arith)
placed-instant DistantFuture DistantFuture h k = equal _ _ refl

pub cmp-table-instant : (a b : Timestamp) → cmp_instant a b ≡ cmp_instant_table (limited_instant a) (limited_instant b)
unfolding place_instant compared
cmp-table-instant a b = placed-instant (limited_instant a) (limited_instant b) (within-limited-instant a) (within-limited-instant b)

-- ---- differences
abbrev pub sub_table : TimeDelta → TimeDelta → TimeDelta
sub_table PositiveInfinity b = PositiveInfinity
sub_table NegativeInfinity NegativeInfinity = PositiveInfinity
sub_table NegativeInfinity (Negative d) = NegativeInfinity
sub_table NegativeInfinity (Positive d) = NegativeInfinity
sub_table NegativeInfinity PositiveInfinity = NegativeInfinity
sub_table (Negative c) NegativeInfinity = PositiveInfinity
sub_table (Negative c) (Negative d) = difference d c
sub_table (Negative c) (Positive d) = negative (c + d)
sub_table (Negative c) PositiveInfinity = NegativeInfinity
sub_table (Positive c) NegativeInfinity = PositiveInfinity
sub_table (Positive c) (Negative d) = positive (c + d)
sub_table (Positive c) (Positive d) = difference c d
sub_table (Positive c) PositiveInfinity = NegativeInfinity

opposite : (b : TimeDelta) → limited (neg b) ≡ neg (limited b)
opposite b = limited-within (neg b) (within-neg b) ∙ sym (neg-limited b)

subtracted : (a b : TimeDelta) → Within b → add_limited a (neg b) ≡ sub_table a b
unfolding add_limited neg positive negative
subtracted PositiveInfinity b h = refl
subtracted NegativeInfinity NegativeInfinity h = refl
subtracted NegativeInfinity (Negative d) h = rw (le-leb d limit h)
subtracted NegativeInfinity (Positive d) h = rw (le-leb d limit h)
subtracted NegativeInfinity PositiveInfinity h = refl
subtracted (Negative c) NegativeInfinity h = refl
subtracted (Negative c) (Negative d) h = rw (le-leb d limit h)
subtracted (Negative c) (Positive d) h = rw (le-leb d limit h)
subtracted (Negative c) PositiveInfinity h = refl
subtracted (Positive c) NegativeInfinity h = refl
subtracted (Positive c) (Negative d) h = rw (le-leb d limit h)
subtracted (Positive c) (Positive d) h = rw (le-leb d limit h)
subtracted (Positive c) PositiveInfinity h = refl

pub sub-table : (a b : TimeDelta) → sub a b ≡ sub_table (limited a) (limited b)
unfolding sub add
sub-table a b = rw (opposite b) (subtracted (limited a) (limited b) (within-limited b))

abbrev pub sub_delta_table : Timestamp → TimeDelta → Timestamp
sub_delta_table t NegativeInfinity = DistantFuture
sub_delta_table DistantPast (Negative d) = DistantPast
sub_delta_table DistantPast (Positive d) = DistantPast
sub_delta_table DistantPast PositiveInfinity = DistantPast
sub_delta_table (Exact t) (Negative d) = exact (t + d)
sub_delta_table (Exact t) (Positive d) = cond (nat_lt t d) DistantPast (Exact (t - d))
sub_delta_table (Exact t) PositiveInfinity = DistantPast
sub_delta_table DistantFuture (Negative d) = DistantFuture
sub_delta_table DistantFuture (Positive d) = DistantFuture
sub_delta_table DistantFuture PositiveInfinity = DistantFuture

moved_back : (t : Timestamp) (d : TimeDelta) → Within d → add_limited_delta t (neg d) ≡ sub_delta_table t d
unfolding add_limited_delta neg positive negative
moved_back t NegativeInfinity h = refl
moved_back DistantPast (Negative d) h = rw (le-leb d limit h)
moved_back DistantPast (Positive d) h = rw (le-leb d limit h)
moved_back DistantPast PositiveInfinity h = refl
moved_back (Exact t) (Negative d) h = rw (le-leb d limit h)
moved_back (Exact t) (Positive d) h = rw (le-leb d limit h)
moved_back (Exact t) PositiveInfinity h = refl
moved_back DistantFuture (Negative d) h = rw (le-leb d limit h)
moved_back DistantFuture (Positive d) h = rw (le-leb d limit h)
moved_back DistantFuture PositiveInfinity h = refl

pub sub-delta-table : (t : Timestamp) (d : TimeDelta) → sub_delta t d ≡ sub_delta_table (limited_instant t) (limited d)
unfolding sub_delta add_delta
sub-delta-table t d = rw (opposite d) (moved_back (limited_instant t) (limited d) (within-limited d))
