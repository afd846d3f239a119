-- The records of a pass file, 48 bytes each and numbered from 1, the chain that links them, and questions 10 to 13. What lies past a record's end counts as 0.
use Rattle.std.specs.Prelude.{ℕ, zero, suc, ◌*◌, ◌-◌, ◌/◌, ◌%◌, Bool, ◌&&◌, cond, List, [], ◌∷◌, Option, Some, None, Result, Ok, Err, eqb, ltb, leb, length, get_or, take, drop}
use Rattle.le_bytes.specs.LeBytes.{le}
use Rattle.pass_records.specs.declared.FileRefusal.{FileRefusal}
use Rattle.pass_records.specs.declared.FileRefusal.TheVariants.{BadLength, BadKind, BadNext, ShortOutput}
use Rattle.pass_records.specs.declared.Kind.{Kind}
use Rattle.pass_records.specs.declared.Kind.TheVariants.{Packet, Report, Timeout}

-- the number of the question that a file fails
abbrev pub question : FileRefusal → ℕ
question BadLength = 10
question BadKind = 11
question BadNext = 12
question ShortOutput = 13

abbrev pub record_bytes : ℕ
record_bytes = 48

-- the most records that the library takes; a program may take fewer
abbrev pub most_records : ℕ
most_records = 65535

-- the kinds
abbrev pub packet : ℕ
packet = 1

abbrev pub report : ℕ
report = 2

abbrev pub timeout : ℕ
timeout = 3

-- what a byte stands for
abbrev pub kind_of : ℕ → Result Kind FileRefusal
kind_of n = cond (eqb n packet) (Ok Packet) (cond (eqb n report) (Ok Report) (cond (eqb n timeout) (Ok Timeout) (Err BadKind)))

-- how many whole records so many bytes hold
abbrev pub whole_records : ℕ → ℕ
whole_records bytes = bytes / record_bytes

abbrev pub record_count : List ℕ → ℕ
record_count file = whole_records (length file)

-- the bytes of record k, or none where the file has no record k
unfoldable pub record_at : List ℕ → ℕ → List ℕ
record_at file k = cond (ltb 0 k && leb k (length file / record_bytes)) (take record_bytes (drop ((k - 1) * record_bytes) file)) []

-- ---- the fields of a record, from its bytes
-- the number of the record that follows it, or 0
abbrev pub next : List ℕ → ℕ
next bytes = le 4 bytes 0

abbrev pub kind : List ℕ → ℕ
kind bytes = get_or bytes 4 0

abbrev pub flag : List ℕ → ℕ
flag bytes = get_or bytes 5 0

abbrev pub size : List ℕ → ℕ
size bytes = le 2 bytes 6

abbrev pub sequence : List ℕ → ℕ
sequence bytes = le 8 bytes 8

abbrev pub send : List ℕ → ℕ
send bytes = le 8 bytes 16

abbrev pub remote : List ℕ → ℕ
remote bytes = le 8 bytes 24

-- a packet's local receive instant; a report's or a timeout's now
abbrev pub receive : List ℕ → ℕ
receive bytes = le 8 bytes 32

abbrev pub probe_bits : List ℕ → ℕ
probe_bits bytes = le 8 bytes 40

-- ---- the chain
-- question 11: the kind is 1 to 3, and a report's flag 0 or 1
unfoldable pub well_formed : List ℕ → Bool
well_formed bytes = cond (eqb (kind bytes) report) (leb (flag bytes) 1) (leb packet (kind bytes) && leb (kind bytes) timeout)

abbrev pub judge_kind : List ℕ → Result (Unit {0}) FileRefusal
judge_kind bytes = cond (well_formed bytes) (Ok tt) (Err BadKind)

-- the number of the record that follows record k of `last`, if one does: question 11, then 12, the number that it names is 0, or above k and not past the last
unfoldable pub successor : List ℕ → ℕ → ℕ → Result (Option ℕ) FileRefusal
successor bytes last k =
    cond (well_formed bytes)
    (cond (eqb (next bytes) 0) (Ok None) (cond (ltb k (next bytes) && leb (next bytes) last) (Ok (Some (next bytes))) (Err BadNext)))
    (Err BadKind)

abbrev pub onward : Result (Option ℕ) FileRefusal → (ℕ → List ℕ) → List ℕ
onward (Ok (Some n)) rest = rest n
onward (Ok None) rest = []
onward (Err refusal) rest = []

-- the numbers of the records along the chain from record k on, in so many steps
unfoldable pub steps : ℕ → List ℕ → ℕ → ℕ → List ℕ
steps zero file last k = []
steps (suc n) file last k = k ∷ onward (successor (record_at file k) last k) (λ j. steps n file last j)

-- in as many steps as there are records from k on, which is enough, since numbers rise along the chain
unfoldable pub chain_from : List ℕ → ℕ → ℕ → List ℕ
chain_from file last k = steps (suc last - k) file last k

-- the chain of a file
abbrev pub chain : List ℕ → List ℕ
chain file = chain_from file (record_count file) 1

-- ---- questions 11 and 12 along a chain: the first no
abbrev pub judge_one : Result (Option ℕ) FileRefusal → Result (Unit {0}) FileRefusal → Result (Unit {0}) FileRefusal
judge_one (Ok next) rest = rest
judge_one (Err refusal) rest = Err refusal

unfoldable pub judge_along : List ℕ → ℕ → List ℕ → Result (Unit {0}) FileRefusal
judge_along file last [] = Ok tt
judge_along file last (k ∷ ks) = judge_one (successor (record_at file k) last k) (judge_along file last ks)

-- ---- questions 10 and 13
-- question 10: so many bytes are 48 times 1 to `most`
unfoldable pub length_in : ℕ → ℕ → Bool
length_in most bytes = (eqb (bytes % record_bytes) 0 && ltb 0 (whole_records bytes)) && leb (whole_records bytes) most

-- how many records a file of so many bytes has
abbrev pub count : ℕ → ℕ → Result ℕ FileRefusal
count most bytes = cond (length_in most bytes) (Ok (whole_records bytes)) (Err BadLength)

-- question 13: the least output for a file of so many records, linked or not
abbrev pub most_short : ℕ
most_short = 1365

abbrev pub short_file_output : ℕ
short_file_output = 65536

abbrev pub output_per_record : ℕ
output_per_record = 48

unfoldable pub least_output : ℕ → ℕ
least_output records = cond (leb records most_short) short_file_output (records * output_per_record)

-- the least output for a file of so many bytes
unfoldable pub room : ℕ → ℕ → Result ℕ FileRefusal
room most bytes = cond (length_in most bytes) (Ok (least_output (whole_records bytes))) (Err BadLength)

-- ---- all four, in their order
abbrev pub judge_output : Result (Unit {0}) FileRefusal → Bool → Result (Unit {0}) FileRefusal
judge_output (Ok linked) enough = cond enough (Ok tt) (Err ShortOutput)
judge_output (Err refusal) enough = Err refusal

-- of a file that may have `most` records, and an output of so many bytes
unfoldable pub judge : ℕ → List ℕ → ℕ → Result (Unit {0}) FileRefusal
judge most file output =
    cond (length_in most (length file))
    (judge_output (judge_along file (record_count file) (chain file)) (leb (least_output (record_count file)) output))
    (Err BadLength)

-- the beginning of a file, one record more than `most`: as much as a program has to read to judge it
abbrev pub beginning : ℕ → List ℕ → List ℕ
beginning most file = take (suc most * record_bytes) file

-- 0, or the number of the question that a file fails
abbrev pub number : Result (Unit {0}) FileRefusal → ℕ
number (Ok linked) = 0
number (Err refusal) = question refusal
