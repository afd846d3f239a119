-- Document 01, pass file and program: the calls that a pass file makes, the lines of their run, and the answer to a file.
use Rattle.bandwidth.specs.declared.Bitrate.{Bitrate}
use Rattle.std.specs.Prelude.{ℕ, cond, List, [], ◌∷◌, ◌++◌, Result, Ok, Err, eqb, length, drop, Option, Some, None}
use Prim.Native.Char.{code}
use Rattle.std.specs.Float.{binary64}
use Rattle.std.specs.Float.Ieee.{of_bits, to_bits}
use Rattle.bandwidth.specs.Bandwidth.{rate, bps}
use Rattle.bandwidth.specs.declared.BandwidthUsage.{BandwidthUsage}
use Rattle.bandwidth.specs.declared.BandwidthUsage.TheVariants as Usage
use Rattle.control.specs.declared.DelayController.{DelayController}
use Rattle.questions.specs.Questions.{report-of}
use Rattle.link_state.specs.declared.Link.{Link}
use Rattle.link.specs.Link as L
use Rattle.link.specs.Link.{Outcome, refusal}
use Rattle.link_runs.specs.Statement.{Call, call, report, timeout}
use Rattle.pass_records.specs.PassRecords as Records
use Rattle.pass_records.specs.PassRecords.{record_at, kind, flag, receive, probe_bits, chain, judge}
use Rattle.listing_line.specs.ListingLine.{line}
use Rattle.pass_records.specs.declared.FileRefusal.{FileRefusal}
use Rattle.listing_line.specs.declared.Line.{Line}
use Rattle.waiting_packets.specs.WaitingPackets.{Packets, of_records}

-- the link that the calls are put to: at 1,000,000 bps, with windows of 500 and 150 ms
abbrev pub first : Link
first = L.new (bps 1000000) 500000000 150000000

-- ---- the calls of a file
abbrev pub probe : List ℕ → Option Bitrate
probe bytes = cond (eqb (flag bytes) 1) (Some (rate (of_bits binary64 (probe_bits bytes)))) None

-- the call of a record, with these packets if it is a report
abbrev pub call_of : List ℕ → Packets → Call
call_of bytes p =
    cond (eqb (kind bytes) Records.report)
    (report (report-of p.sequences p.sizes p.sends p.remotes p.receives (probe bytes) (receive bytes)))
    (timeout (receive bytes))

-- the same, with the packets of the records that wait
abbrev pub call_at : List ℕ → List (List ℕ) → Call
call_at bytes waiting = call_of bytes (of_records waiting)

-- a call, and the number of its record
pub record Numbered : Type 0 where
  pub number : ℕ
  pub call : Call

-- the calls along a chain: a packet waits for the next report, refused or not; packets left at the end are dropped
unfoldable pub calls : List ℕ → List (List ℕ) → List ℕ → List Numbered
calls file waiting [] = []
calls file waiting (k ∷ ks) =
    let bytes = record_at file k in
    cond (eqb (kind bytes) Records.packet)
    (calls file (waiting ++ (bytes ∷ [])) ks)
    (record { number = k; call = call_at bytes waiting } ∷ calls file (cond (eqb (kind bytes) Records.report) [] waiting) ks)

-- ---- the listing
abbrev pub letter : BandwidthUsage → ℕ
letter Usage.Overuse = code "O"
letter Usage.Normal = code "N"
letter Usage.Underuse = code "U"

-- the line of record k, with the number that its call got and what the link's controller then says
abbrev pub line_of : ℕ → ℕ → DelayController → Line
line_of k number c =
    record {
      record_number = k;
      refusal = number;
      letter = letter c.trendline_estimator.hypothesis;
      bits = to_bits binary64 c.rate_control.estimated_bitrate.0;
      next_timeout = c.next_timeout;
    }

-- what a call gave, and the link after it, which a refused call leaves as it was
unfoldable pub shown : ℕ → Outcome → List ℕ
shown k o = line (line_of k (refusal o.reply) o.link.control)

-- the lines of a run: each call gets the link that the one before handed back
unfoldable pub lines : Link → List Numbered → List ℕ
lines l [] = []
lines l (c ∷ cs) = shown c.number (call l c.call) ++ lines (call l c.call).link cs

unfoldable pub listing : List ℕ → List ℕ
listing file = lines first (calls file [] (chain file))

-- ---- the answer
abbrev pub answer : Result (Unit {0}) FileRefusal → List ℕ → Result ℕ FileRefusal
answer (Ok linked) text = Ok (length text)
answer (Err refusal) text = Err refusal

-- to a file that may have `most` records, with an output of so many bytes: questions 10 to 13, then how many bytes the listing has
unfoldable pub list : ℕ → List ℕ → ℕ → Result ℕ FileRefusal
list most file output = answer (judge most file output) (listing file)

-- the number of the question that turned a file down, or 0
abbrev pub answer_number : Result ℕ FileRefusal → ℕ
answer_number (Ok n) = 0
answer_number (Err refusal) = Records.question refusal

-- the output after: the listing, and after it the bytes that were there; a refusal leaves all as it was
abbrev pub output_by : Result (Unit {0}) FileRefusal → List ℕ → List ℕ → List ℕ
output_by (Ok linked) text out = text ++ drop (length text) out
output_by (Err refusal) text out = out

unfoldable pub output : ℕ → List ℕ → List ℕ → List ℕ
output most file out = output_by (judge most file (length out)) (listing file) out
