-- Laws of questions: the first no of two lists, what yes to question 4 tells, and packets that change their places.
use Rattle.std.specs.Prelude.{ℕ, zero, suc, ◌<◌, ◌≤◌, ◌≡◌, refl, Bool, false, cond, leb}
use Rattle.std.proofs.Common.{arith, sym, ◌∙◌}
use Rattle.std.proofs.Math.Bool.{true}
use mathlib.Core.List.{List, [], ◌∷◌, ◌++◌}
use Rattle.std.proofs.Math.Dec.{eqb}
use Rattle.std.proofs.Math.ListN.{length}
use borrow.Author.Tests.{eq-eqb, eqb-true, le-leb, leb-true}
use Rattle.bool_laws.specs.Bools.{both, same}
use Rattle.receive_order.specs.ReceiveOrder.{count, is_sorted, most_packets}
use Rattle.receive_order.specs.Lists.{All}
use Rattle.receive_order.specs.Laws.{all-ordered, ordered-all, ordered-length, ordered-sorted}
use Rattle.questions.specs.Questions.{Question, Report, every, first_no, in_order, instants_in, lists_in, number, of_report, ordered}
use Rattle.questions.specs.declared.Refusal.{Refusal}

-- ---- the first no
-- every question has a number
abbrev pub Numbered : List Question → Type 0
Numbered [] = Unit {0}
Numbered (q ∷ qs) = (0 < q.number) × Numbered qs

-- the first of two numbers that is not 0
abbrev pub first_of : ℕ → ℕ → ℕ
first_of zero m = m
first_of (suc n) m = suc n

pub first-of : (n m : ℕ) → 0 < n → first_of n m ≡ n
first-of zero m h = absurd (omega arith)
first-of (suc n) m h = refl

first_step : (t : Bool) (all some n rest : ℕ) → 0 < n → all ≡ first_of some rest → cond t all n ≡ first_of (cond t some n) rest
first_step true all some n rest h e = e
first_step false all some n rest h e = sym (first-of n rest h)

pub first-append : (qs rest : List Question) → Numbered qs → first_no (qs ++ rest) ≡ first_of (first_no qs) (first_no rest)
unfolding first_no
first-append [] rest h = refl
first-append (q ∷ qs) rest h = first_step q.yes (first_no (qs ++ rest)) (first_no qs) q.number (first_no rest) h.0 (first-append qs rest h.1)

pub number-above : (q : Refusal) → 0 < number q
number-above Refusal.OutOfRange = omega arith
number-above Refusal.BadStartBitrate = omega arith
number-above Refusal.BadWindow = omega arith
number-above Refusal.BadLists = omega arith
number-above Refusal.BadInstant = omega arith
number-above Refusal.BadSize = omega arith
number-above Refusal.BadMoment = omega arith
number-above Refusal.BadProbe = omega arith
number-above Refusal.TooManyBytes = omega arith

pub report-numbered : (r : Report) → Numbered (of_report r)
unfolding of_report
report-numbered r = omega arith

-- lists that are turned down, whatever else is asked
pub lists-refused : (r : Report) (rest : List Question) → lists_in r.sequences r.sizes r.sends r.remotes r.receives ≡ false → first_no (of_report r ++ rest) ≡ 4
unfolding first_no of_report
lists-refused r rest n4 = rw n4

-- ---- a report's lists
-- each list is as long as the first
pub record Lengths (n : ℕ) (sizes sends remotes receives : List ℕ) : Type 0 where
  pub few : n ≤ most_packets
  pub sizes-length : length sizes ≡ n
  pub sends-length : length sends ≡ n
  pub remotes-length : length remotes ≡ n
  pub receives-length : length receives ≡ n

pub lengths : (sequences sizes sends remotes receives : List ℕ) → lists_in sequences sizes sends remotes receives ≡ true → Lengths (length sequences) sizes sends remotes receives
unfolding lists_in
lengths sequences sizes sends remotes receives e =
    let n = length sequences in
    let a = both _ (leb n most_packets) e in
    let b = both _ (eqb (length receives) n) a.0 in
    let c = both _ (eqb (length remotes) n) b.0 in
    let d = both (eqb (length sizes) n) (eqb (length sends) n) c.0 in
    record {
      few = leb-true n most_packets a.1;
      sizes-length = eqb-true (length sizes) n d.0;
      sends-length = eqb-true (length sends) n d.1;
      remotes-length = eqb-true (length remotes) n c.1;
      receives-length = eqb-true (length receives) n b.1;
    }

-- ---- packets in the order of receipt
pub every-all : (test : ℕ → Bool) (xs : List ℕ) → every test xs ≡ true → All (λ x. test x ≡ true) xs
unfolding every
every-all test [] e = tt
every-all test (x ∷ xs) e = let b = both (test x) (every test xs) e in (b.0, every-all test xs b.1)

all-every : (test : ℕ → Bool) (xs : List ℕ) → All (λ x. test x ≡ true) xs → every test xs ≡ true
unfolding every
all-every test [] h = refl
all-every test (x ∷ xs) h = rw (h.0, all-every test xs h.1)

module _ (r : Report) (y4 : lists_in r.sequences r.sizes r.sends r.remotes r.receives ≡ true) where
  n : Lengths (length r.sequences) r.sizes r.sends r.remotes r.receives
  n = lengths r.sequences r.sizes r.sends r.remotes r.receives y4

  -- how many packets are put in order: all
  pub whole : count r.remotes r.sends r.sequences ≡ length r.sequences
  whole = omega (arith, n.few, n.sends-length, n.remotes-length)

  every-in-order : (test : ℕ → Bool) (xs : List ℕ) → length xs ≡ length r.sequences → every test (in_order r xs) ≡ every test xs
  every-in-order test xs e =
      let P : ℕ → Type 0 = λ x. test x ≡ true in
      let m : length xs ≡ count r.remotes r.sends r.sequences = omega (arith, whole) in
      same (every test (in_order r xs)) (every test xs)
      (λ h. all-every test xs (all-ordered r.remotes r.sends r.sequences xs P m (every-all test (in_order r xs) h)))
      (λ h. all-every test (in_order r xs) (ordered-all r.remotes r.sends r.sequences xs P (omega arith) (every-all test xs h)))

  in-order-length : (xs : List ℕ) → length (in_order r xs) ≡ length r.sequences
  in-order-length xs = ordered-length r.remotes r.sends r.sequences xs ∙ whole

  lists-in-order : lists_in r.sequences (in_order r r.sizes) (in_order r r.sends) (in_order r r.remotes) (in_order r r.receives) ≡ true
  unfolding lists_in
  lists-in-order =
      let m = length r.sequences in
      let here : (xs : List ℕ) → eqb (length (in_order r xs)) m ≡ true = λ xs. eq-eqb (length (in_order r xs)) m (in-order-length xs) in
      rw (here r.sizes, here r.sends, here r.remotes, here r.receives, le-leb m most_packets n.few)

  -- questions 4 to 8 ask the same of the packets in order
  pub ordered-questions : of_report (ordered r) ≡ of_report r
  unfolding of_report instants_in
  ordered-questions =
      rw (lists-in-order, y4, every-in-order _ r.sends n.sends-length, every-in-order _ r.remotes n.remotes-length, every-in-order _ r.receives n.receives-length, every-in-order _ r.sizes n.sizes-length)

  -- and packets that came in order stay
  pub ordered_same : is_sorted r.remotes r.sends r.sequences ≡ true → ordered r ≡ r
  ordered_same s =
      let as-came = ordered-sorted r.remotes r.sends r.sequences in
      rw (as-came r.sizes s (omega (arith, whole, n.sizes-length)), as-came r.sends s (omega (arith, whole, n.sends-length)), as-came r.remotes s (omega (arith, whole, n.remotes-length)), as-came r.receives s (omega (arith, whole, n.receives-length)))
