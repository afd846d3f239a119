-- Laws of records and their chain: what the questions say, how a chain unfolds record by record, and what a linked file has.
use Rattle.std.proofs.Math.Path.{◌≡◌, refl, ap}
use Rattle.std.proofs.Common.{sym, subst, ◌∙◌, ⊎_elim, length-take-le, take_all}
use Prim.Native.Nat.{ℕ, zero, suc, ◌+◌, ◌*◌, ◌-◌, ◌%◌, ◌≤◌, ◌<◌}
use Rattle.std.specs.Prelude.{Bool, false, ◌&&◌, cond, Option, Some, None, Result, Ok, Err, eqb, ltb, length}
use Rattle.std.proofs.Math.Bool.{true, and-false}
use mathlib.Core.List.Memᴰ
use mathlib.Core.List.{List, [], ◌∷◌, Memᴰ}
use native.Mathlib.Omega.{arith}
use Rattle.std.proofs.Math.Dec.{leb}
use borrow.Author.Tests.{ne_eqb, le-leb, lt-leb, ltb-true, leb-true, leb-false, eqb-true, eqb-false}
use Rattle.bool_laws.specs.Bools.{both, cases}
use Rattle.pass_records.specs.declared.FileRefusal.{FileRefusal}
use Rattle.pass_records.specs.declared.FileRefusal.TheVariants.{BadLength, BadKind, BadNext, ShortOutput}
use Rattle.pass_records.specs.declared.Kind.{Kind}
use Rattle.pass_records.specs.declared.Kind.TheVariants.{Packet, Report, Timeout}
use Rattle.std.specs.Result.{result_unwrap_or}
use Rattle.pass_records.specs.PassRecords.{
  record_bytes,
  most_records,
  most_short,
  short_file_output,
  output_per_record,
  packet,
  report,
  timeout,
  whole_records,
  record_count,
  kind_of,
  kind,
  flag,
  next,
  well_formed,
  record_at,
  successor,
  onward,
  steps,
  chain_from,
  chain,
  judge_one,
  judge_along,
  length_in,
  least_output,
  room,
  judge_output,
  judge,
  beginning,
}

-- ---- a record
-- what question 11 asks of it
pub record Formed (bytes : List ℕ) : Type 0 where
  pub low : packet ≤ kind bytes
  pub high : kind bytes ≤ timeout
  pub flagged : kind bytes ≡ report → flag bytes ≤ 1

-- what question 12 asks of it where it is followed by record n
pub record Followed (bytes : List ℕ) (last k n : ℕ) : Type 0 where
  pub formed : Formed bytes
  pub named : n ≡ next bytes
  pub above : k < n
  pub within : n ≤ last

abbrev pub Told : List ℕ → ℕ → ℕ → Result (Option ℕ) FileRefusal → Type 0
Told bytes last k (Ok (Some n)) = Followed bytes last k n
Told bytes last k (Ok None) = Formed bytes × (next bytes ≡ 0)
Told bytes last k (Err BadKind) = well_formed bytes ≡ false
Told bytes last k (Err BadNext) = Formed bytes
Told bytes last k (Err BadLength) = ⊥
Told bytes last k (Err ShortOutput) = ⊥

-- ---- the kinds, where a byte that stands for none is taken for a timeout
module _ (n : ℕ) where
  by_kind : (P : Kind → Type 0) → (n ≡ packet → P Packet) → (n ≡ report → P Report) → ((n ≡ packet → ⊥) → (n ≡ report → ⊥) → P Timeout) → P (result_unwrap_or (kind_of n) Timeout)
  by_kind P p r t =
      cases (λ k. P (result_unwrap_or k Timeout)) (eqb n packet) (λ e. p (eqb-true n packet e))
      (λ e. cases (λ k. P (result_unwrap_or k Timeout)) (eqb n report) (λ f. r (eqb-true n report f))
      (λ f. cases (λ k. P (result_unwrap_or k Timeout)) (eqb n timeout) (λ g. t (eqb-false n packet e) (eqb-false n report f)) (λ g. t (eqb-false n packet e) (eqb-false n report f))))

  pub kind-packet : result_unwrap_or (kind_of n) Timeout ≡ Packet → n ≡ packet
  kind-packet = by_kind (λ k. k ≡ Packet → n ≡ packet) (λ e h. e) (λ e h. cc) (λ e f h. cc)

  pub kind-report : result_unwrap_or (kind_of n) Timeout ≡ Report → n ≡ report
  kind-report = by_kind (λ k. k ≡ Report → n ≡ report) (λ e h. cc) (λ e h. e) (λ e f h. cc)

  pub kind-other : result_unwrap_or (kind_of n) Timeout ≡ Timeout → (n ≡ packet → ⊥) × (n ≡ report → ⊥)
  kind-other = by_kind (λ k. k ≡ Timeout → (n ≡ packet → ⊥) × (n ≡ report → ⊥)) (λ e h. cc) (λ e h. cc) (λ e f h. (e, f))

-- ---- a file
-- what question 10 asks of its length
pub record Counted (most bytes : ℕ) : Type 0 where
  pub whole : bytes ≡ whole_records bytes * record_bytes
  pub some : 0 < whole_records bytes
  pub few : whole_records bytes ≤ most

-- ---- a chain
-- numbers that rise, all above `low` and none past `last`
abbrev pub Rising : ℕ → ℕ → List ℕ → Type 0
Rising low last [] = Unit {0}
Rising low last (k ∷ ks) = (low < k) × ((k ≤ last) × Rising k last ks)

-- record k is on a chain that is linked
pub record OnChain (file : List ℕ) (last k : ℕ) : Type 0 where
  pub within : k ≤ last
  pub linked : judge_along file last (chain_from file last k) ≡ Ok tt

-- of such a record: the chain from it on, by the number that it names
pub record Onward (file : List ℕ) (last k n : ℕ) : Type 0 where
  pub chain-is : chain_from file last k ≡ k ∷ cond (eqb n 0) [] (chain_from file last n)
  pub above : (n ≡ 0 → ⊥) → k < n
  pub on_chain : (n ≡ 0 → ⊥) → OnChain file last n

-- what questions 10 to 13 ask of a file and an output of so many bytes
pub record LinkedFile (most : ℕ) (file : List ℕ) (output : ℕ) : Type 0 where
  pub counted : Counted most (length file)
  pub first : OnChain file (record_count file) 1
  pub rising : Rising 0 (record_count file) (chain file)
  pub few : length (chain file) ≤ record_count file
  pub formed : (k : ℕ) → Memᴰ k (chain file) → Formed (record_at file k)
  pub enough : least_output (record_count file) ≤ output

-- ---- questions 10 to 13
pub length-counted : (most bytes : ℕ) → length_in most bytes ≡ true → Counted most bytes
unfolding length_in
length-counted most bytes h =
    let q = both (eqb (bytes % record_bytes) 0 && ltb 0 (whole_records bytes)) (leb (whole_records bytes) most) h in
    let p = both (eqb (bytes % record_bytes) 0) (ltb 0 (whole_records bytes)) q.0 in
    let e = eqb-true (bytes % record_bytes) 0 p.0 in
    record { whole = omega arith; some = ltb-true _ _ p.1; few = leb-true _ _ q.1 }

-- a longer file is refused, whatever else it is
pub too_long : (most bytes : ℕ) → most < whole_records bytes → length_in most bytes ≡ false
unfolding length_in
too_long most bytes h = rw (lt-leb (whole_records bytes) most h, and-false)

-- up to the smaller of two limits both ask the same
pub either-limit : (small large bytes : ℕ) → whole_records bytes ≤ small → small ≤ large → length_in large bytes ≡ length_in small bytes
unfolding length_in
either-limit small large bytes h i = rw (le-leb (whole_records bytes) small h, le-leb (whole_records bytes) large (omega arith))

-- the output of a short file, and of a longer one
pub least-short : (records : ℕ) → records ≤ most_short → least_output records ≡ short_file_output
unfolding least_output
least-short records h = rw (le-leb records most_short h)

pub least-long : (records : ℕ) → most_short < records → least_output records ≡ records * output_per_record
unfolding least_output
least-long records h = rw (lt-leb records most_short h)

-- what holds of either holds of the least output
least_by : (P : ℕ → Type 0) (records : ℕ) → (records ≤ most_short → P short_file_output) → (most_short < records → P (records * output_per_record)) → P (least_output records)
unfolding least_output
least_by P records short long = cases P (leb records most_short) (λ e. short (leb-true records most_short e)) (λ e. long (leb-false records most_short e))

-- it has room for so many bytes a record, and no file wants more than the longest
pub least-enough : (records : ℕ) → records * output_per_record ≤ least_output records
least-enough records = least_by (λ n. records * output_per_record ≤ n) records (λ h. omega arith) (λ h. omega arith)

pub least-some : (records : ℕ) → 0 < least_output records
least-some records = least_by (λ n. 0 < n) records (λ h. omega arith) (λ h. omega arith)

pub least-most : (records : ℕ) → records ≤ most_records → least_output records ≤ most_records * output_per_record
least-most records m = least_by (λ n. n ≤ most_records * output_per_record) records (λ h. omega arith) (λ h. omega arith)

-- how much output a length wants, where question 10 takes it
pub room-taken : (most bytes : ℕ) → length_in most bytes ≡ true → room most bytes ≡ Ok (least_output (whole_records bytes))
unfolding room
room-taken most bytes h = rw h

pub room-refused : (most bytes : ℕ) → length_in most bytes ≡ false → room most bytes ≡ Err BadLength
unfolding room
room-refused most bytes h = rw h

module _ (bytes : List ℕ) where
  pub well-formed : well_formed bytes ≡ true → Formed bytes
  unfolding well_formed
  well-formed =
      cases
      (λ t. t ≡ true → Formed bytes)
      (eqb (kind bytes) report)
      (λ e h.
      let r : kind bytes ≡ report = eqb-true _ _ e in
      record { low = omega arith; high = omega arith; flagged = λ f. leb-true _ _ h })
      (λ e h.
      let q = both (leb packet (kind bytes)) (leb (kind bytes) timeout) h in
      record { low = leb-true _ _ q.0; high = leb-true _ _ q.1; flagged = λ f. absurd (eqb-false _ _ e f) })

  pub successor-told : (last k : ℕ) → Told bytes last k (successor bytes last k)
  unfolding successor
  successor-told last k =
      cases
      (Told bytes last k)
      (well_formed bytes)
      (λ a.
      let formed = well-formed a in
      cases
      (Told bytes last k)
      (eqb (next bytes) 0)
      (λ b. (formed, eqb-true _ _ b))
      (λ b.
      cases
      (Told bytes last k)
      (ltb k (next bytes) && leb (next bytes) last)
      (λ d.
      let q = both (ltb k (next bytes)) (leb (next bytes) last) d in
      record { formed = formed; named = refl; above = ltb-true _ _ q.0; within = leb-true _ _ q.1 })
      (λ d. formed)))
      (λ a. a)

  pub followed : (last k n : ℕ) → successor bytes last k ≡ Ok (Some n) → Followed bytes last k n
  followed last k n e = subst (Told bytes last k) e (successor-told last k)

-- ---- the chain, record by record
module _ (file : List ℕ) (last : ℕ) where
  -- what holds of no records, and of the records from each n on that may follow, holds of those that do
  onward-by :
      (R : List ℕ → List ℕ → Type 0) (k : ℕ) (f g : ℕ → List ℕ) → R [] [] → ((n : ℕ) → k < n → n ≤ last → R (f n) (g n)) →
      R (onward (successor (record_at file k) last k) f) (onward (successor (record_at file k) last k) g)
  onward-by R k f g z h = go (successor (record_at file k) last k) (successor-told (record_at file k) last k)
    where
      go : (t : Result (Option ℕ) FileRefusal) → Told (record_at file k) last k t → R (onward t f) (onward t g)
      go (Ok (Some n)) p = h n p.above p.within
      go (Ok None) p = z
      go (Err refusal) p = z

  -- steps past the last record change nothing
  pub steps-enough : (k f g : ℕ) → k ≤ last → last < k + f → last < k + g → steps f file last k ≡ steps g file last k
  unfolding steps
  steps-enough k zero g h p q = absurd (omega arith)
  steps-enough k (suc f) zero h p q = absurd (omega arith)
  steps-enough k (suc f) (suc g) h p q =
      ap
      (λ (ks : List ℕ). k ∷ ks)
      (onward-by (λ x y. x ≡ y) k _ _ refl (λ n a b. steps-enough n f g b (omega arith) (omega arith)))

  pub chain-step : (k : ℕ) → k ≤ last → chain_from file last k ≡ k ∷ onward (successor (record_at file k) last k) (chain_from file last)
  unfolding chain_from steps
  chain-step k h =
      let e : suc last - k ≡ suc (last - k) = omega arith in
      rw e
      (ap
      (λ (ks : List ℕ). k ∷ ks)
      (onward-by (λ x y. x ≡ y) k _ _ refl (λ n a b. steps-enough n (last - k) (suc last - n) b (omega arith) (omega arith))))

  steps-rising : (f k low : ℕ) → low < k → k ≤ last → Rising low last (steps f file last k)
  unfolding steps
  steps-rising zero k low h l = tt
  steps-rising (suc f) k low h l = (h, (l, onward-by (λ x y. Rising k last x) k _ (λ n. []) tt (λ n a b. steps-rising f n k a b)))

  pub chain-rising : (k low : ℕ) → low < k → k ≤ last → Rising low last (chain_from file last k)
  unfolding chain_from
  chain-rising k low = steps-rising (suc last - k) k low

pub rising-length : (ks : List ℕ) (low last : ℕ) → low ≤ last → Rising low last ks → low + length ks ≤ last
rising-length [] low last h r = omega arith
rising-length (k ∷ ks) low last h r = omega (arith, rising-length ks k last r.1.0 r.1.1)

-- ---- the judgement, record by record
module _ (file : List ℕ) (last : ℕ) where
  pub judge-step :
      (k : ℕ) (t : Result (Option ℕ) FileRefusal) → k ≤ last → successor (record_at file k) last k ≡ t →
      judge_along file last (chain_from file last k) ≡ judge_one t (judge_along file last (onward t (chain_from file last)))
  unfolding judge_along
  judge-step k t h e = rw (chain-step file last k h, e)

  -- by what follows record k
  pub judged_next : (k n : ℕ) → k ≤ last → successor (record_at file k) last k ≡ Ok (Some n)
      → judge_along file last (chain_from file last k) ≡ judge_along file last (chain_from file last n)
  judged_next k n h e = judge-step k (Ok (Some n)) h e

  pub judged_end : (k : ℕ) → k ≤ last → successor (record_at file k) last k ≡ Ok None → judge_along file last (chain_from file last k) ≡ Ok tt
  unfolding judge_along
  judged_end k h e = judge-step k (Ok None) h e

  pub judged_refusal : (k : ℕ) (refusal : FileRefusal) → k ≤ last → successor (record_at file k) last k ≡ Err refusal → judge_along file last (chain_from file last k) ≡ Err refusal
  judged_refusal k refusal h e = judge-step k (Err refusal) h e

  linked-cons : (k : ℕ) (ks : List ℕ) → judge_along file last (k ∷ ks) ≡ Ok tt → Formed (record_at file k) × (judge_along file last ks ≡ Ok tt)
  unfolding judge_along
  linked-cons k ks = go (successor (record_at file k) last k) (successor-told (record_at file k) last k)
    where
      go : (t : Result (Option ℕ) FileRefusal) → Told (record_at file k) last k t → judge_one t (judge_along file last ks) ≡ Ok tt → Formed (record_at file k) × (judge_along file last ks ≡ Ok tt)
      go (Ok (Some n)) p e = (p.formed, e)
      go (Ok None) p e = (p.0, e)
      go (Err refusal) p e = cc

  linked-formed : (ks : List ℕ) → judge_along file last ks ≡ Ok tt → (k : ℕ) → Memᴰ k ks → Formed (record_at file k)
  linked-formed [] e k m = absurd (Memᴰ.not-nil m)
  linked-formed (j ∷ ks) e k m =
      let p = linked-cons j ks e in
      ⊎_elim (λ f. rw f p.0) (linked-formed ks p.1 k) (Memᴰ.cases_cons m)

  pub onward-linked : (k : ℕ) → OnChain file last k → Onward file last k (next (record_at file k))
  onward-linked k o =
      go
      (successor (record_at file k) last k)
      (successor-told (record_at file k) last k)
      (chain-step file last k o.within)
      (sym (judge-step k _ o.within refl) ∙ o.linked)
    where
      go :
          (t : Result (Option ℕ) FileRefusal) → Told (record_at file k) last k t → chain_from file last k ≡ k ∷ onward t (chain_from file last) →
          judge_one t (judge_along file last (onward t (chain_from file last))) ≡ Ok tt → Onward file last k (next (record_at file k))
      go (Ok (Some n)) p e l =
          rw (← p.named)
          (record {
            chain-is = rw (ne_eqb n 0 (omega (arith, p.above))) e;
            above = λ _. p.above;
            on_chain = λ _. record { within = p.within; linked = l };
          })
      go (Ok None) p e l = rw p.1 (record { chain-is = e; above = λ z. absurd (z refl); on_chain = λ z. absurd (z refl) })
      go (Err refusal) p e l = cc

output-linked : (judged : Result (Unit {0}) FileRefusal) (enough : Bool) → judge_output judged enough ≡ Ok tt → (judged ≡ Ok tt) × (enough ≡ true)
output-linked (Ok linked) true e = (refl, refl)
output-linked (Ok linked) false e = cc
output-linked (Err refusal) enough e = cc

module _ (most : ℕ) (file : List ℕ) (output : ℕ) where
  linked-counted : Counted most (length file) → judge_output (judge_along file (record_count file) (chain file)) (leb (least_output (record_count file)) output) ≡ Ok tt
      → LinkedFile most file output
  linked-counted c h =
      let o = output-linked (judge_along file (record_count file) (chain file)) (leb (least_output (record_count file)) output) h in
      let rising = chain-rising file (record_count file) 1 0 (omega arith) c.some in
      record {
        counted = c;
        first = record { within = c.some; linked = o.0 };
        rising = rising;
        few = omega (arith, rising-length (chain file) 0 (record_count file) (omega arith) rising);
        formed = linked-formed file (record_count file) (chain file) o.0;
        enough = leb-true _ _ o.1;
      }

  pub linked-file : judge most file output ≡ Ok tt → LinkedFile most file output
  unfolding judge
  linked-file =
      cases
      (λ judged. judged ≡ Ok tt → LinkedFile most file output)
      (length_in most (length file))
      (λ e h. linked-counted (length-counted most (length file) e) h)
      (λ e h. cc)

  -- by question 10 first
  pub judge-counted : length_in most (length file) ≡ true
      → judge most file output ≡ judge_output (judge_along file (record_count file) (chain file)) (leb (least_output (record_count file)) output)
  unfolding judge
  judge-counted h = rw h

  pub judge-refused : length_in most (length file) ≡ false → judge most file output ≡ Err BadLength
  unfolding judge
  judge-refused h = rw h

-- ---- limits
-- up to 1,365 records question 13 asks for 65,536 bytes
pub judge-short : (most : ℕ) (file : List ℕ) (output : ℕ) → record_count file ≤ most_short
    → judge most file output ≡ cond (length_in most (length file)) (judge_output (judge_along file (record_count file) (chain file)) (leb 65536 output)) (Err BadLength)
unfolding judge
judge-short most file output h = rw (least-short (record_count file) h)

-- a file of up to the smaller of two limits is judged alike under both
pub judge-either : (small large : ℕ) (file : List ℕ) (output : ℕ) → record_count file ≤ small → small ≤ large → judge large file output ≡ judge small file output
unfolding judge
judge-either small large file output h i = rw (either-limit small large (length file) h i)

-- and so it is with two outputs that are enough for it
pub judge-enough : (most : ℕ) (file : List ℕ) (a b : ℕ) → (record_count file ≤ most → (least_output (record_count file) ≤ a) × (least_output (record_count file) ≤ b))
    → judge most file a ≡ judge most file b
judge-enough most file a b h = go (length_in most (length file)) refl
  where
    go : (t : Bool) → length_in most (length file) ≡ t → judge most file a ≡ judge most file b
    go true e =
        let i = h (length-counted most (length file) e).few in
        rw (judge-counted most file a e, judge-counted most file b e, le-leb _ _ i.0, le-leb _ _ i.1)
    go false e = rw (judge-refused most file a e, judge-refused most file b e)

pub judge-too-long : (most : ℕ) (file : List ℕ) (output : ℕ) → most < record_count file → judge most file output ≡ Err BadLength
judge-too-long most file output h = judge-refused most file output (too_long most (length file) h)

-- what holds of every file beside itself, and of two files that question 10 turns down, holds of a file's beginning beside the file
pub beginning-by :
    (R : List ℕ → List ℕ → Type 0) (most : ℕ) (file : List ℕ) → ((f : List ℕ) → R f f) →
    ((f g : List ℕ) → ((output : ℕ) → judge most f output ≡ Err BadLength) → ((output : ℕ) → judge most g output ≡ Err BadLength) → R f g) →
    R (beginning most file) file
beginning-by R most file same refused = go (leb (record_count file) most) refl
  where
    go : (t : Bool) → leb (record_count file) most ≡ t → R (beginning most file) file
    go true e =
        let few = leb-true (record_count file) most e in
        subst (λ f. R f file) (sym (take_all (suc most * record_bytes) file (omega arith))) (same file)
    go false e =
        let many = leb-false (record_count file) most e in
        let n = length-take-le (suc most * record_bytes) file (omega arith) in
        refused (beginning most file) file
        (λ output. judge-too-long most (beginning most file) output (omega (arith, n)))
        (λ output. judge-too-long most file output (omega arith))
