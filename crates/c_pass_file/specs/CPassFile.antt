-- Answers as C has them.
use Rattle.std.specs.Prelude.{ℕ, Result, Ok, Err, ℤ, pos, neg_ℤ}
use Rattle.pass_records.specs.PassRecords as Records
use Rattle.pass_records.specs.PassRecords.{most_records, question}
use Rattle.pass_records.specs.Laws.{least-most, length-counted, room-refused, room-taken}
use Rattle.pass_file.specs.Laws.{list-short}
use Rattle.pass_records.specs.declared.FileRefusal.{FileRefusal}

-- a number of bytes, or the opposite of a question's number
abbrev pub code : Result ℕ FileRefusal → ℤ
code (Ok bytes) = pos bytes
code (Err refusal) = neg_ℤ (pos (question refusal))

-- the output that question 13 asks for, of a length that question 10 takes
abbrev pub room : ℕ → ℤ
room bytes = code (Records.room most_records bytes)

-- what the functions go by: a listing is short, and no length wants more output than the longest
pub ruleset short = (list-short, least-most, length-counted, room-refused, room-taken)
