-- The laws of the comparisons, which are those of places; and std's `<` and `<=`, which go by the orders, in the definitions' words.
use Rattle.std.specs.Prelude.{◌≡◌, ℕ, Bool, true, false, cond, ◌==◌, nat_le, nat_lt, refl}
use Rattle.std.proofs.Common.{arith, le-leb, ltb-true, ltb-false, eqb-true}
use Rattle.std.proofs.lemmas.Bool.{lt-leb, eqb-false}
use Rattle.std.specs.Cmp.{IsPartialEquivalence, IsEquivalence, IsPartialOrder, IsTotalOrder, Agrees, partial_equiv_from_equiv, on_equiv, on_po, on_total, nat_eq_equiv, nat_cmp_total, unsigned_po, unsigned_ties}
use Rattle.std.specs.Ordering.{nat_cmp, as_partial_cmp, eq_by_cmp, is_lt, is_le, partial_lt, partial_le}
use Rattle.std.specs.declared.cmp.Ordering.TheVariants.{Less, Equal, Greater}
use Rattle.time.specs.declared.Timestamp.{Timestamp}
use Rattle.time.specs.declared.TimeDelta.{TimeDelta}
use Rattle.time.specs.Time.{place, place_instant, cmp, eq, lt, le, cmp_instant, eq_instant, lt_instant, le_instant}

-- ---- places
below : (m n : ℕ) → is_lt (nat_cmp m n) ≡ nat_lt m n
below m n = first (nat_lt m n) (m == n)
  where
    first : (a b : Bool) → is_lt (cond a Less (cond b Equal Greater)) ≡ a
    first true b = refl
    first false true = refl
    first false false = refl

at-most : (m n : ℕ) → is_le (nat_cmp m n) ≡ nat_le m n
at-most m n = first (nat_lt m n) (m == n) refl refl
  where
    first : (a b : Bool) → nat_lt m n ≡ a → m == n ≡ b → is_le (cond a Less (cond b Equal Greater)) ≡ nat_le m n
    first true b p q = rw (le-leb m n (omega (arith, ltb-true m n p))) refl
    first false true p q = rw (le-leb m n (omega (arith, eqb-true m n q))) refl
    first false false p q = rw (lt-leb m n (omega (arith, ltb-false m n p, eqb-false m n q))) refl

-- ---- lengths
pub eq_equivalence : IsEquivalence eq
eq_equivalence = on_equiv place nat_eq_equiv

pub eq_symmetric : IsPartialEquivalence eq
eq_symmetric = partial_equiv_from_equiv eq_equivalence

pub total_order : IsTotalOrder cmp
total_order = on_total place nat_cmp_total

pub partial_order : IsPartialOrder eq (as_partial_cmp cmp)
partial_order = on_po place unsigned_po

pub same_order : Agrees (as_partial_cmp cmp) cmp
same_order a b = refl

pub equal_ties : (a b : TimeDelta) → eq a b ≡ eq_by_cmp cmp a b
equal_ties a b = unsigned_ties (place a) (place b)

pub length-below : (a b : TimeDelta) → partial_lt (as_partial_cmp cmp) a b ≡ lt a b
length-below a b = below (place a) (place b)

pub length-at-most : (a b : TimeDelta) → partial_le (as_partial_cmp cmp) a b ≡ le a b
length-at-most a b = at-most (place a) (place b)

-- ---- instants
pub eq_equivalence_instant : IsEquivalence eq_instant
eq_equivalence_instant = on_equiv place_instant nat_eq_equiv

pub eq_symmetric_instant : IsPartialEquivalence eq_instant
eq_symmetric_instant = partial_equiv_from_equiv eq_equivalence_instant

pub total_order_instant : IsTotalOrder cmp_instant
total_order_instant = on_total place_instant nat_cmp_total

pub partial_order_instant : IsPartialOrder eq_instant (as_partial_cmp cmp_instant)
partial_order_instant = on_po place_instant unsigned_po

pub same_order_instant : Agrees (as_partial_cmp cmp_instant) cmp_instant
same_order_instant a b = refl

pub equal_ties_instant : (a b : Timestamp) → eq_instant a b ≡ eq_by_cmp cmp_instant a b
equal_ties_instant a b = unsigned_ties (place_instant a) (place_instant b)

pub instant-below : (a b : Timestamp) → partial_lt (as_partial_cmp cmp_instant) a b ≡ lt_instant a b
instant-below a b = below (place_instant a) (place_instant b)

pub instant-at-most : (a b : Timestamp) → partial_le (as_partial_cmp cmp_instant) a b ≡ le_instant a b
instant-at-most a b = at-most (place_instant a) (place_instant b)
