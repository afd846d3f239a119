-- Document 01's limits, and those of order 1 of document 02, as one table, each as the document writes it beside what stands for it in the definitions. They are equal: proofs/Limits.antt.
use Rattle.bandwidth.specs.declared.Bitrate.{Bitrate}
use Rattle.std.specs.Prelude.{ℕ, ◌+◌, ◌-◌, ◌*◌, ◌^◌, ◌<◌, ◌≡◌, Bool, not, List, [], ◌∷◌, ◌++◌, T, eqb, replicate, Float, Option, Some, None}
use Rattle.std.specs.Float.{binary64}
use Rattle.std.specs.Float.Ieee.{of_bits, to_bits}
use Rattle.std.specs.Float.Ieee.Positive.{den}
use Rattle.float_order.specs.Order.{over}
use Rattle.float_order.specs.Dyadic.{Is}
use Rattle.growth.specs.Growth.{last_entry}
use Rattle.bandwidth.specs.Bandwidth.{bps, min_estimate, max_estimate, most_rate, most_sum}
use Rattle.time.specs.Time as Time
use Rattle.acked_bitrate_estimator.specs.AckedBitrateEstimator as Acked
use Rattle.trendline.specs.Trendline.{most_timings, window_size, max_delay_count, max_overuse_count, min_threshold_ms, max_threshold_ms}
use Rattle.control.specs.Laws.{most_round_trip}
use Rattle.receive_order.specs.ReceiveOrder.{most_packets}
use Rattle.questions.specs.Questions as Q
use Rattle.questions.specs.Questions.{Report, report-of, millisecond, least_window, most_window, most_instant, least_size, of_opening, of_report}
use Rattle.link_state.specs.State.{most_ns, most_elapsed, most_overuse, most_time, most30, most31, least_acked}
use Rattle.link.specs.Link as L
use Rattle.link.specs.Link.{report_questions, timeout_questions}
use Rattle.pass_records.specs.PassRecords as Records
use Rattle.pass_records.specs.PassRecords.{record_bytes, most_records, length_in, least_output, output_per_record, well_formed}
use Rattle.pass_file.specs.PassFile.{first}

-- ---- what stands for a limit
pub data Stands : Type 0 where
  -- a number
  number : ℕ → Stands
  -- a float that is the limit
  float : Float → Stands
  -- of a limit that is no float, the next float below it or above it (that question 1's tests are then exact: crate link_state, Limits.antt)
  below : Float → Stands
  above : Float → Stands
  -- a test that passes from the limit on, and not just below it; up to the limit, and not just above it
  from : (ℕ → Bool) → Stands
  up_to : (ℕ → Bool) → Stands

-- the floats of the next bit patterns
abbrev pub up : Float → Float
up x = of_bits binary64 (to_bits binary64 x + 1)

abbrev pub down : Float → Float
down x = of_bits binary64 (to_bits binary64 x - 1)

-- what it is for that to be the limit n / d: a finite float x at 0 or above is over x / den x
abbrev pub Equal : ℕ → ℕ → Stands → Type 0
Equal n d (number k) = k * d ≡ n
Equal n d (float x) = Is x n d
Equal n d (below x) = (over x * d < n * den x) × (n * den (up x) < over (up x) * d)
Equal n d (above x) = (n * den x < over x * d) × (over (down x) * d < n * den (down x))
Equal n d (from test) = T (test n) × T (not (test (n - 1)))
Equal n d (up_to test) = T (test n) × T (not (test (n + 1)))

-- ---- the table
pub record Row : Type 0 where
  pub numerator : ℕ
  pub denominator : ℕ
  pub stands : Stands

abbrev pub row : ℕ → Stands → Row
row n s = record { numerator = n; denominator = 1; stands = s }

abbrev pub ms : ℕ → ℕ
ms n = n * 10 ^ 6

-- a report of n packets that are alike
abbrev pub packets : ℕ → ℕ → ℕ → Option Bitrate → ℕ → Report
packets n size instant probe now = report-of (replicate n 0) (replicate n size) (replicate n instant) (replicate n instant) (replicate n instant) probe now

-- the bytes of a record of which only these differ from 0
abbrev pub bytes : ℕ → ℕ → ℕ → List ℕ
bytes next kind flag = next ∷ 0 ∷ 0 ∷ 0 ∷ kind ∷ flag ∷ replicate 42 0

-- the number that an opening, a report and a pass file get
abbrev pub opening : ℕ → ℕ → ℕ
opening start window = Q.first_no (of_opening (bps start) window window)

abbrev pub report : Report → ℕ
report r = Q.first_no (report_questions first r)

abbrev pub file : List ℕ → ℕ → ℕ
file records output = Records.number (Records.judge most_records records output)

-- a file of so many records, of which the first is a timeout
abbrev pub records : ℕ → List ℕ
records n = bytes 0 3 0 ++ replicate ((n - 1) * 48) 0

unfoldable pub rows : List Row
rows =
    -- the growth table: "at most 1,000"
    row 1000 (number last_entry)
    -- time.rs: "above 4 × 10^18 ns"
    ∷ row (4 * 10 ^ 18) (number Time.limit)
    -- acked_bitrate_estimator.rs: "the 40,000 floor"
    ∷ row 40000 (float Acked.estimate_floor)
    -- trendline.rs: "window 20", "only up to 2"
    ∷ row 20 (number most_timings)
    ∷ row 20 (float window_size)
    ∷ row 2 (number max_overuse_count)
    -- rate_control.rs: "limits 40,000 and 10^10"; question 2 has them too
    ∷ row 40000 (float min_estimate.0)
    ∷ row (10 ^ 10) (float max_estimate.0)
    -- the pass file: "records of 48 bytes", "1 packet, 2 report, 3 timeout", "0 or 1"
    ∷ row 48 (number record_bytes)
    ∷ row 1 (number Records.packet)
    ∷ row 2 (number Records.report)
    ∷ row 3 (number Records.timeout)
    ∷ row 1 (up_to (λ flag. well_formed (bytes 0 Records.report flag)))
    -- the program: "at 1,000,000 bps with windows of 500 and 150 ms"
    ∷ row 1000000 (float (L.estimate first))
    ∷ row (ms 500) (number first.acked.initial_window)
    ∷ row (ms 150) (number first.acked.window)
    -- question 3: "whole milliseconds from 1 to 10,000"
    ∷ row (ms 1) (number millisecond)
    ∷ row (ms 1) (number least_window)
    ∷ row (ms 10000) (number most_window)
    -- question 1: rate limits as above, threshold limits 6 and 600, "at most 20 timings" as above
    ∷ row 6 (float min_threshold_ms)
    ∷ row 600 (float max_threshold_ms)
    -- "times within ±10^12 ms; delays within ±10^31 and accumulated delay within ±10^30"
    ∷ row (10 ^ 12) (float most_time)
    ∷ row (10 ^ 31) (below most31)
    ∷ row (10 ^ 30) (below most30)
    -- "counts within their caps": 1,000 delay variations, an overuse count as above
    ∷ row 1000 (number max_delay_count)
    -- "overuse time within ±2 × 10^18 ns; other instants and durations at most 10^18 + 10^9 ns"
    ∷ row (2 * 10 ^ 18) (number most_overuse)
    ∷ row (10 ^ 18 + 10 ^ 9) (number most_ns)
    -- "elapsed window at most 10^10 ns; acknowledged rate absent or from 0.8 to 10^14"
    ∷ row (10 ^ 10) (number most_elapsed)
    ∷ record { numerator = 8; denominator = 10; stands = above least_acked }
    ∷ row (10 ^ 14) (float most_rate.0)
    -- "round-trip average from 0 to 10^9 seconds, the rate's from 0 to 10^14, variances from 0 to 10^30": the last two as above
    ∷ row (10 ^ 9) (float most_round_trip)
    -- question 4: "at most 1,024"
    ∷ row 1024 (number most_packets)
    -- question 5: "at most 10^18"; question 7 has it too
    ∷ row (10 ^ 18) (number most_instant)
    -- question 6: "at least 1"
    ∷ row 1 (number least_size)
    -- question 7: "a multiple of 1,000,000"
    ∷ row 1000000 (number millisecond)
    -- question 8: "from 0 to 10^14": as above
    -- question 9: "at or below 2,147,483,647"
    ∷ row 2147483647 (number most_sum)
    -- question 10, order 1: "up to 65,535"
    ∷ row 1 (from (λ n. length_in most_records (48 * n)))
    ∷ row 65535 (up_to (λ n. length_in most_records (48 * n)))
    ∷ row 65535 (number most_records)
    -- question 11: "kind 1 to 3"
    ∷ row 1 (from (λ kind. well_formed (bytes 0 kind 0)))
    ∷ row 3 (up_to (λ kind. well_formed (bytes 0 kind 0)))
    -- question 13: "at least 65,536 bytes"; order 1: "48 bytes of output per record when a file has more than 1,365"
    ∷ row 65536 (number (least_output 1))
    ∷ row 65536 (number (least_output 1365))
    ∷ row 1365 (up_to (λ n. eqb (least_output n) 65536))
    ∷ row 48 (number output_per_record)
    ∷ row (1366 * 48) (number (least_output 1366))
    ∷ row (65535 * 48) (number (least_output 65535))
    -- the numbers of the questions: 0 at the limits, and each just past one. (1,024 packets by questions 4 to 8: to put them in order takes too long here.)
    ∷ row 0 (number (opening 40000 (ms 1)))
    ∷ row 0 (number (opening (10 ^ 10) (ms 10000)))
    ∷ row 0 (number (report (packets 1 2147483647 (10 ^ 18) (Some (bps (10 ^ 14))) (10 ^ 18))))
    ∷ row 0 (number (Q.first_no (of_report (packets 1024 1 (10 ^ 18) None 0))))
    ∷ row 0 (number (file (records 1365) 65536))
    ∷ row 0 (number (file (records 1366) 65568))
    ∷ row 1 (number (Q.first_no (timeout_questions (L.new (bps 39999) (ms 500) (ms 150)) 0)))
    ∷ row 2 (number (opening 39999 (ms 1)))
    ∷ row 2 (number (opening (10 ^ 10 + 1) (ms 1)))
    ∷ row 3 (number (opening 40000 0))
    ∷ row 3 (number (opening 40000 (ms 10001)))
    ∷ row 3 (number (opening 40000 1500000))
    ∷ row 4 (number (report (packets 1025 1 0 None 0)))
    ∷ row 5 (number (report (packets 1 1 (10 ^ 18 + 1) None 0)))
    ∷ row 6 (number (report (packets 1 0 0 None 0)))
    ∷ row 7 (number (report (packets 1 1 0 None (10 ^ 18 + 10 ^ 6))))
    ∷ row 7 (number (report (packets 1 1 0 None 1)))
    ∷ row 8 (number (report (packets 1 1 0 (Some (bps (10 ^ 14 + 1))) 0)))
    ∷ row 9 (number (report (packets 1 2147483648 0 None 0)))
    ∷ row 10 (number (file [] 65536))
    ∷ row 10 (number (Records.number (Records.judge 1365 (records 1366) 65568)))
    ∷ row 11 (number (file (bytes 0 4 0) 65536))
    ∷ row 11 (number (file (bytes 0 2 2) 65536))
    ∷ row 12 (number (file (bytes 1 3 0) 65536))
    ∷ row 12 (number (file (bytes 2 3 0) 65536))
    ∷ row 13 (number (file (records 1) 65535))
    ∷ row 13 (number (file (records 1365) 65535))
    ∷ row 13 (number (file (records 1366) 65567))
    ∷ []
