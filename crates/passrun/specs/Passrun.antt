-- What the program prints for a file: its listing, or the number of the question that turned it down alone on a line.
use Rattle.std.specs.Prelude.{ℕ, List, Result, Ok, Err}
use Rattle.pass_records.specs.declared.FileRefusal.{FileRefusal}
use Rattle.pass_records.specs.PassRecords.{judge, question}
use Rattle.listing_line.specs.ListingLine.{number_line}
use Rattle.pass_file.specs.PassFile.{listing}

-- the most records that it takes
abbrev pub most_records : ℕ
most_records = 1365

-- the output that it lends, enough for each of them
abbrev pub output_bytes : ℕ
output_bytes = 65536

abbrev pub printed_by : Result (Unit {0}) FileRefusal → List ℕ → List ℕ
printed_by (Ok linked) text = text
printed_by (Err refusal) text = number_line (question refusal)

unfoldable pub printed : List ℕ → List ℕ
printed file = printed_by (judge most_records file output_bytes) (listing file)
