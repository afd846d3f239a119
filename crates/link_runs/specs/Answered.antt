-- What an accepted call's questions tell: each was answered with yes.
use Rattle.std.specs.Prelude.{ℕ, zero, suc, ◌≤◌, ◌<◌, ◌≡◌, refl, Bool, true, false, cond, List, [], ◌∷◌, leb, length}
use Rattle.std.proofs.Common.{arith, leb-true}
use Rattle.control.specs.Laws.{Instants}
use Rattle.receive_order.specs.Lists.{All, all_map}
use Rattle.receive_order.specs.Laws.{ordered-all}
use Rattle.questions.specs.Questions.{Question, Report, all_at_least, all_at_most, first_no, in_order, of_report, of_timeout, ordered}
use Rattle.questions.specs.Laws.{Numbered, every-all}
use Rattle.link_state.specs.declared.Link.{Link}
use Rattle.link.specs.Link as L
use Rattle.link.specs.Link.{Outcome, accepted_with, outcome_unless, refused, report_questions, timeout_questions}

abbrev pub AllYes : List Question → Type 0
AllYes [] = Unit {0}
AllYes (q ∷ qs) = (q.yes ≡ true) × AllYes qs

first-yes : (t : Bool) (n rest : ℕ) → 0 < n → cond t rest n ≡ 0 → (t ≡ true) × (rest ≡ 0)
first-yes true n rest h e = (refl, e)
first-yes false n rest h e = absurd (omega arith)

pub all_yes : (qs : List Question) → Numbered qs → first_no qs ≡ 0 → AllYes qs
unfolding first_no
all_yes [] h e = tt
all_yes (q ∷ qs) h e = let y = first-yes q.yes q.number (first_no qs) h.0 e in (y.0, all_yes qs h.1 y.1)

-- a call is turned down and leaves the link, or is taken
pub data Answered (qs : List Question) (before after : Link) : Outcome → Type 0 where
  turned_down : {n : ℕ} → Answered qs before after (record { reply = refused n; link = before })
  taken : AllYes qs → Answered qs before after (accepted_with after)

answered : (qs : List Question) → Numbered qs → (before after : Link) → Answered qs before after (outcome_unless (first_no qs) before after)
unfolding outcome_unless
answered qs h before after = go (first_no qs) refl
  where
    go : (n : ℕ) → first_no qs ≡ n → Answered qs before after (outcome_unless n before after)
    go zero e = taken (all_yes qs h e)
    go (suc n) e = turned_down

pub report-answered : (l : Link) (r : Report) → Answered (report_questions l r) l (L.updated l (ordered r)) (L.report l r)
unfolding L.report report_questions of_report
report-answered l r = answered (report_questions l r) (omega arith) l (L.updated l (ordered r))

pub timeout-answered : (l : Link) (now : ℕ) → Answered (timeout_questions l now) l (L.timed_out l now) (L.timeout l now)
unfolding L.timeout timeout_questions of_timeout
timeout-answered l now = answered (timeout_questions l now) (omega arith) l (L.timed_out l now)

-- ---- lists
pub at-most : (n : ℕ) (xs : List ℕ) → all_at_most n xs ≡ true → All (λ x. x ≤ n) xs
at-most n xs e = all_map (λ x. leb-true x n) xs (every-all (λ x. leb x n) xs e)

pub at_least : (n : ℕ) (xs : List ℕ) → all_at_least n xs ≡ true → All (λ x. n ≤ x) xs
at_least n xs e = all_map (λ x. leb-true n x) xs (every-all (λ x. leb n x) xs e)

-- what holds of a list holds of it in the order of receipt
pub All-in_order : (r : Report) (P : ℕ → Type 0) (xs : List ℕ) → length xs ≡ length r.sequences → All P xs → All P (in_order r xs)
All-in_order r P xs e h = ordered-all r.remotes r.sends r.sequences xs P (omega arith) h

pub instants : (n : ℕ) (xs ys : List ℕ) → All (λ t. t ≤ n) xs → All (λ t. t ≤ n) ys → Instants n xs ys
instants n [] ys h k = tt
instants n (x ∷ xs) [] h k = tt
instants n (x ∷ xs) (y ∷ ys) h k = (h.0, k.0, instants n xs ys h.1 k.1)
