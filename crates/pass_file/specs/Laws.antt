-- Laws of a listing: it is the text of one run of a link from an accepted opening, line after line, and how long it is.
use Rattle.std.specs.Prelude.{ℕ, zero, suc, ◌*◌, ◌^◌, ◌≤◌, ◌≡◌, Result, Ok, Err, eqb, length}
use Rattle.std.proofs.Math.Path.{refl, sym}
use mathlib.Core.List.{List, [], ◌∷◌, ◌++◌, map, append_assoc}
use Rattle.std.proofs.Common.{arith, length-append}
use Rattle.float_order.specs.Range.{In, nat}
use Rattle.float_order.specs.Interval.{floats}
use Rattle.bandwidth.specs.Bandwidth.{bps}
use Rattle.bool_laws.specs.Bools.{chosen}
use Rattle.questions.specs.Questions.{Question, first_no, of_report, of_timeout, window_in}
use Rattle.link_state.specs.declared.Link.{Link}
use Rattle.link.specs.Link as L
use Rattle.link.specs.Link.{accepted_with, estimate, hypothesis, next_timeout, opened, opening, outcome_unless, refusal, report_questions, timeout_questions}
use Rattle.link.specs.Laws.{opening-yes}
use Rattle.link_runs.specs.Statement.{Call, call, report, timeout, run}
use Rattle.link_runs.specs.Good.{Good, call-good, run-good, opening-good}
use Rattle.link_runs.proofs.Demand3.{demand-3}
use Rattle.pass_records.specs.PassRecords as Records
use Rattle.pass_records.specs.PassRecords.{chain, judge, kind, most_records, most_short, record_at, record_count}
use Rattle.pass_records.specs.Laws.{Rising, least-enough, linked-file}
use Rattle.pass_records.specs.declared.FileRefusal.{FileRefusal}
use Rattle.listing_line.proofs.Lines.{line-short}
use Rattle.pass_file.specs.PassFile.{Numbered, answer, calls, first, line_of, lines, list, listing, shown}

-- ---- the length of a line
-- no question has a number above n
abbrev AtMost : ℕ → List Question → Type 0
AtMost n [] = Unit {0}
AtMost n (q ∷ qs) = (q.number ≤ n) × AtMost n qs

first-no-most : (most : ℕ) (qs : List Question) → AtMost most qs → first_no qs ≤ most
unfolding first_no
first-no-most most [] h = omega arith
first-no-most most (q ∷ qs) h = chosen (λ n. n ≤ most) q.yes (first-no-most most qs h.1) h.0

refusal-number : (n : ℕ) (before after : Link) → refusal (outcome_unless n before after).reply ≡ n
unfolding outcome_unless accepted_with
refusal-number zero before after = refl
refusal-number (suc n) before after = refl

pub refusal-most : (l : Link) (c : Call) → refusal (call l c).reply ≤ 9
unfolding L.report L.timeout report_questions timeout_questions of_report of_timeout
refusal-most l (report r) = rw refusal-number (first-no-most 9 (report_questions l r) (omega arith))
refusal-most l (timeout now) = rw refusal-number (first-no-most 9 (timeout_questions l now) (omega arith))

-- of a link that a run from an accepted opening reaches
pub shown-short : (l : Link) (c : Call) (k : ℕ) → Good l → k ≤ most_records → length (shown k (call l c)) ≤ 48
unfolding shown
shown-short l c k g h =
    let after = (call l c).link in
    line-short (line_of k (refusal (call l c).reply) after.control)
    h
    (omega (arith, refusal-most l c))
    (omega (arith, (call-good l c g).timeout))

-- ---- the lines of a run
-- the calls without the numbers of their records
abbrev pub run_calls : List Numbered → List Call
run_calls cs = map (λ c. c.call) cs

module _ (c : Numbered) where
  pub run-one-more : (l : Link) (before : List Numbered) → run l (run_calls (before ++ (c ∷ []))) ≡ (call (run l (run_calls before)) c.call).link
  run-one-more l [] = refl
  run-one-more l (b ∷ before) = run-one-more (call l b.call).link before

  -- the line of a call stands between those of the calls before it and those of the calls after it
  pub lines_split : (l : Link) (before after : List Numbered)
      → lines l (before ++ (c ∷ after))
      ≡ lines l before
      ++ (shown c.number (call (run l (run_calls before)) c.call) ++ lines (run l (run_calls (before ++ (c ∷ [])))) after)
  unfolding lines
  lines_split l [] after = refl
  lines_split l (b ∷ before) after = rw (lines_split (call l b.call).link before after, append_assoc)

-- every number is that of a record
abbrev RecordNumbers : List Numbered → Type 0
RecordNumbers [] = Unit {0}
RecordNumbers (c ∷ cs) = (c.number ≤ most_records) × RecordNumbers cs

number_in : (before after : List Numbered) (c : Numbered) → RecordNumbers (before ++ (c ∷ after)) → c.number ≤ most_records
number_in [] after c h = h.0
number_in (b ∷ before) after c h = number_in before after c h.1

lines-short : (l : Link) (cs : List Numbered) → Good l → RecordNumbers cs → length (lines l cs) ≤ 48 * length cs
unfolding lines
lines-short l [] g h = omega arith
lines-short l (c ∷ cs) g h =
    simp length-append
    (omega (arith, shown-short l c.call c.number g h.0, lines-short (call l c.call).link cs (call-good l c.call g) h.1))

-- ---- the calls of a file
-- calls of n records
record CallsOf (n : ℕ) (cs : List Numbered) : Type 0 where
  numbers : RecordNumbers cs
  few : length cs ≤ n

without-call : {n : ℕ} {cs : List Numbered} → CallsOf n cs → CallsOf (suc n) cs
without-call h = record { numbers = h.numbers; few = omega arith }

with_call : {n : ℕ} {c : Numbered} {cs : List Numbered} → c.number ≤ most_records → CallsOf n cs → CallsOf (suc n) (c ∷ cs)
with_call i h = record { numbers = (i, h.numbers); few = omega arith }

calls-few : (file : List ℕ) (ks : List ℕ) (waiting : List (List ℕ)) (low last : ℕ) → last ≤ most_records → Rising low last ks → CallsOf (length ks) (calls file waiting ks)
unfolding calls
calls-few file [] waiting low last m r = record { numbers = tt; few = omega arith }
calls-few file (k ∷ ks) waiting low last m r =
    chosen
    (CallsOf (suc (length ks)))
    (eqb (kind (record_at file k)) Records.packet)
    (without-call (calls-few file ks _ k last m r.1.1))
    (with_call (omega arith) (calls-few file ks _ k last m r.1.1))

-- ---- the listing of a linked file
-- the link that a listing starts from is that of an accepted opening
pub first-opened : opening (bps 1000000) 500000000 150000000 ≡ opened first
first-opened =
    opening-yes (bps 1000000) 500000000 150000000 (unfold floats in refl) (unfold window_in in refl)

pub first_good : Good first
first_good = opening-good (bps 1000000) 500000000 150000000 first first-opened

abbrev pub file_calls : List ℕ → List Numbered
file_calls file = calls file [] (chain file)

-- the link that the first calls of a run leave
abbrev pub link_after : List Numbered → Link
link_after cs = run first (run_calls cs)

-- of a call, and the calls before and after it: its line shows what the call gives, put to the link that the calls before it left
pub record LineOf (file : List ℕ) (before : List Numbered) (c : Numbered) (after : List Numbered) : Type 0 where
  pub place : listing file
      ≡ lines first before ++ (shown c.number (call (link_after before) c.call) ++ lines (link_after (before ++ (c ∷ []))) after)
  pub handed-on : (call (link_after before) c.call).link ≡ link_after (before ++ (c ∷ []))
  pub estimate-in : In (nat 40000) (nat (10 ^ 10)) (estimate (call (link_after before) c.call).link)
  pub short : length (shown c.number (call (link_after before) c.call)) ≤ 48

-- a listing is that of one run from an accepted opening, with a line for each call of the file, in their order
pub record ListingOfRun (file : List ℕ) : Type 0 where
  pub start : opening (bps 1000000) 500000000 150000000 ≡ opened first
  pub line-of : (before : List Numbered) (c : Numbered) (after : List Numbered) → file_calls file ≡ before ++ (c ∷ after) → LineOf file before c after
  pub few : length (file_calls file) ≤ record_count file
  pub short : length (listing file) ≤ 48 * record_count file

module _ (most : ℕ) (m : most ≤ most_records) (file : List ℕ) (output : ℕ) (e : judge most file output ≡ Ok tt) where
  pub listing-of-run : ListingOfRun file
  unfolding listing
  listing-of-run =
      let f = linked-file most file output e in
      let n = calls-few file (chain file) [] 0 (record_count file) (omega (arith, f.counted.few)) f.rising in
      let s = lines-short first (file_calls file) first_good n.numbers in
      record {
        start = first-opened;
        line-of = λ before c after p.
            let handed-on = run-one-more c first before in
            let all = demand-3 (bps 1000000) 500000000 150000000 first first-opened (run_calls (before ++ (c ∷ []))) in
            record {
              place = rw p (lines_split c first before after);
              handed-on = sym handed-on;
              estimate-in = rw handed-on at all.estimate-in;
              short = shown-short (link_after before) c.call c.number (run-good first (run_calls before) first_good) (number_in before after c (rw p at n.numbers));
            };
        few = omega (arith, n.few, f.few);
        short = omega (arith, s, n.few, f.few);
      }

  -- it fits into the output
  pub listing-fits : length (listing file) ≤ output
  listing-fits = omega (arith, listing-of-run.short, least-enough (record_count file), (linked-file most file output e).enough)

pub number-linked : (j : Result (Unit {0}) FileRefusal) → Records.number j ≡ 0 → j ≡ Ok tt
number-linked (Ok tt) e = refl
number-linked (Err FileRefusal.BadLength) e = cc
number-linked (Err FileRefusal.BadKind) e = cc
number-linked (Err FileRefusal.BadNext) e = cc
number-linked (Err FileRefusal.ShortOutput) e = cc

-- ---- the answer to a file
answer-listed : (judged : Result (Unit {0}) FileRefusal) (text : List ℕ) (n : ℕ) → answer judged text ≡ Ok n → (judged ≡ Ok tt) × (n ≡ length text)
answer-listed (Ok linked) text n e = (refl, cc)
answer-listed (Err refusal) text n e = cc

-- what is told of a file that is listed
pub record ListedFile (most : ℕ) (file : List ℕ) (output n : ℕ) : Type 0 where
  pub linked : judge most file output ≡ Ok tt
  pub whole : n ≡ length (listing file)

pub list-listed : (most : ℕ) (file : List ℕ) (output n : ℕ) → list most file output ≡ Ok n → ListedFile most file output n
unfolding list
list-listed most file output n e =
    let l = answer-listed (judge most file output) (listing file) n e in
    record { linked = l.0; whole = l.1 }

-- a listing that is answered has room in 48 bytes a record of the file, and in the output
pub record ShortListing (most : ℕ) (file : List ℕ) (output n : ℕ) : Type 0 where
  pub a-record : n ≤ 48 * record_count file
  pub at-most : n ≤ 48 * most
  pub within : n ≤ output
  -- which are 65,520 bytes at most where the file has up to 1,365 records
  pub a-short-file : record_count file ≤ most_short → n ≤ 65520

pub list-short : (most : ℕ) (file : List ℕ) (output n : ℕ) → most ≤ most_records → list most file output ≡ Ok n → ShortListing most file output n
list-short most file output n m e =
    let l = list-listed most file output n e in
    let r = listing-of-run most m file output l.linked in
    record {
      a-record = omega (arith, r.short, l.whole);
      at-most = omega (arith, r.short, l.whole, (linked-file most file output l.linked).counted.few);
      within = omega (arith, listing-fits most m file output l.linked, l.whole);
      a-short-file = λ h. omega (arith, r.short, l.whole);
    }
