-- The most records that a file may have is question 10's alone: under two limits a file within both has one answer and one output.
use Rattle.std.specs.Prelude.{ℕ, ◌≤◌, ◌≡◌, List, length}
use Rattle.std.proofs.Common.{arith}
use Rattle.pass_records.specs.PassRecords.{most_records, most_short, record_count}
use Rattle.pass_records.specs.Laws.{judge-either}
use Rattle.pass_file.specs.PassFile.{list, output}

-- the answer to a file and the output after it are the same under two limits
pub record SameUnder (small large : ℕ) (file : List ℕ) : Type 0 where
  pub answers : (room : ℕ) → list large file room ≡ list small file room
  pub outputs : (out : List ℕ) → output large file out ≡ output small file out

-- for every file of up to the smaller one
pub same-under : (small large : ℕ) (file : List ℕ) → record_count file ≤ small → small ≤ large → SameUnder small large file
unfolding list output
same-under small large file h i = record {
  answers = λ room. rw (judge-either small large file room h i);
  outputs = λ out. rw (judge-either small large file (length out) h i);
}

-- order 1: a file of up to 1,365 records, the most that there were before it, gets what it got (of its output question 13 asks what it asked: `judge-short`)
pub as_before : (file : List ℕ) → record_count file ≤ most_short → SameUnder most_short most_records file
as_before file h = same-under most_short most_records file h (omega arith)
