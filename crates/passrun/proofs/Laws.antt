-- What is printed, by the first question that is answered with no.
use Prim.Native.Nat.{ℕ, ◌+◌, ◌≤◌}
use mathlib.Core.Path.{◌≡◌, refl, sym, ◌∙◌}
use mathlib.Core.List.{List, ◌++◌}
use native.Mathlib.Omega.{arith}
use lib.ListN.{length, drop}
use lib.Seq.{sets-eq}
use Rattle.std.specs.Prelude.{Result, Ok, Err}
use Rattle.pass_records.specs.PassRecords.{judge, question, record_count}
use Rattle.pass_records.specs.Laws.{judge-enough, least-short}
use Rattle.pass_records.specs.declared.FileRefusal.{FileRefusal}
use Rattle.pass_records.specs.declared.FileRefusal.TheVariants.{BadLength, BadKind, BadNext, ShortOutput}
use Rattle.listing_line.specs.ListingLine.{Wrote, number_line, place_after, put_line}
use Rattle.listing_line.specs.Laws.{length-number, put-room, width-le}
use Rattle.pass_file.specs.PassFile.{answer, list, listing, output}
use Rattle.pass_file.specs.Laws.{listing-fits}
use Rattle.passrun.specs.Passrun.{most_records, output_bytes, printed}

question-most : (refusal : FileRefusal) → question refusal ≤ 13
question-most BadLength = omega arith
question-most BadKind = omega arith
question-most BadNext = omega arith
question-most ShortOutput = omega arith

module _ (file out : List ℕ) (room : output_bytes ≤ length out) {mid : List ℕ} (em : mid ≡ output most_records file out) where
  -- any output that is as long is as good
  judge-same : judge most_records file (length out) ≡ judge most_records file output_bytes
  judge-same =
      judge-enough most_records file (length out) output_bytes (λ few. let least = least-short (record_count file) (omega arith) in (omega arith, omega arith))

  pub listed : {bytes : ℕ} → Ok bytes ≡ list most_records file (length out) → (Wrote out 0 (printed file) mid bytes) × (bytes ≤ output_bytes)
  unfolding printed list output
  listed {bytes} e = go (judge most_records file output_bytes) refl
    where
      go : (judged : Result (Unit {0}) FileRefusal) → judge most_records file output_bytes ≡ judged → (Wrote out 0 (printed file) mid bytes) × (bytes ≤ output_bytes)
      go (Err refusal) same = let f : Ok bytes ≡ answer (Err refusal) (listing file) = rw (judge-same, same) at e in cc
      go (Ok linked) same =
          let fits = listing-fits most_records (omega arith) file output_bytes same in
          let f : Ok bytes ≡ answer (Ok linked) (listing file) = rw (judge-same, same) at e in
          let is : bytes ≡ length (listing file) = cc in
          let m : mid ≡ listing file ++ drop (length (listing file)) out = rw (judge-same, same) at em in
          let d : 0 + length (listing file) ≡ length (listing file) = omega arith in (
            rw same (record { bytes = m ∙ sym (sets-eq (listing file) out 0 (omega arith) ∙ rw d); after = omega arith }),
            omega arith,
          )

  pub refused : {refusal : FileRefusal} → Err refusal ≡ list most_records file (length out) → {n : ℕ} → n ≡ question refusal → {new : List ℕ} {place : ℕ}
      → new ≡ put_line mid 0 (number_line n) → place ≡ place_after mid 0 (number_line n) → (Wrote out 0 (printed file) new place) × (place ≤ output_bytes)
  unfolding printed list output
  refused {refusal} e {n} q {new} {place} en ep = go (judge most_records file output_bytes) refl
    where
      go : (judged : Result (Unit {0}) FileRefusal) → judge most_records file output_bytes ≡ judged → (Wrote out 0 (printed file) new place) × (place ≤ output_bytes)
      go (Ok linked) same = let f : Err refusal ≡ answer (Ok linked) (listing file) = rw (judge-same, same) at e in cc
      go (Err other) same =
          let f : Err refusal ≡ answer (Err other) (listing file) = rw (judge-same, same) at e in
          let is : n ≡ question other = cc in
          let m : mid ≡ out = rw (judge-same, same) at em in
          let w = width-le 1 n (omega (arith, question-most other)) in
          let long = length-number n in
          let written = put-room out 0 (number_line n) (omega arith) in (
            rw (same, ← is, en, ep, m) written,
            rw (ep, m) (omega (arith, written.after)),
          )
