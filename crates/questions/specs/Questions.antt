-- Document 01's questions 2 to 9: what each asks, and its number. Instants, durations and windows are ns.
use Rattle.std.specs.Prelude.{ℕ, ◌%◌, ◌^◌, Bool, true, not, ◌&&◌, cond, List, [], ◌∷◌, leb, eqb, length, Option, Some, None, Result, Ok, Err}
use Rattle.bandwidth.specs.Bandwidth.{less, within, zero, min_estimate, max_estimate, most_rate, most_bytes}
use Rattle.bandwidth.specs.declared.Bitrate.{Bitrate}
use Rattle.bandwidth.specs.declared.DataSize.{DataSize}
use Rattle.receive_order.specs.ReceiveOrder.{most_packets, receive_order, entries}
use Rattle.questions.specs.declared.Refusal.{Refusal}
use Rattle.receive_order.specs.declared.Keys.{Keys}
use Rattle.questions.specs.declared.Report as Lent

-- ---- questions and refusals
-- a question's number, and whether its answer is yes
pub record Question : Type 0 where
  pub number : ℕ
  pub yes : Bool

abbrev pub question : ℕ → Bool → Question
question n answer = record { number = n; yes = answer }

-- the number of the first question that is answered with no; 0 if none is
unfoldable pub first_no : List Question → ℕ
first_no [] = 0
first_no (q ∷ qs) = cond q.yes (first_no qs) q.number

abbrev pub number : Refusal → ℕ
number Refusal.OutOfRange = 1
number Refusal.BadStartBitrate = 2
number Refusal.BadWindow = 3
number Refusal.BadLists = 4
number Refusal.BadInstant = 5
number Refusal.BadSize = 6
number Refusal.BadMoment = 7
number Refusal.BadProbe = 8
number Refusal.TooManyBytes = 9

-- the number of the question that turned a call down, or 0
abbrev pub number_or0 : {T : Type 0} → Result T Refusal → ℕ
number_or0 (Ok x) = 0
number_or0 (Err q) = number q

-- what a question says that is answered with yes or no
unfoldable pub answer : Bool → Refusal → Result (Unit {0}) Refusal
answer b q = cond b (Ok tt) (Err q)

-- ---- opening
-- 2: is the start rate from 40,000 to 10^10?
abbrev pub start_in : Bitrate → Bool
start_in start = within start min_estimate max_estimate

abbrev pub millisecond : ℕ
millisecond = 1000000

abbrev pub least_window : ℕ
least_window = 1000000

abbrev pub most_window : ℕ
most_window = 10000000000

-- 3: are both windows whole ms from 1 to 10,000?
unfoldable pub window_in : ℕ → Bool
window_in w = eqb (w % millisecond) 0 && leb least_window w && leb w most_window

unfoldable pub of_opening : Bitrate → ℕ → ℕ → List Question
of_opening start initial window = question 2 (start_in start) ∷ question 3 (window_in initial && window_in window) ∷ []

-- ---- report
-- packet i has sequence, size, send, remote and local receive instant at place i of five lists
pub record Report : Type 0 where
  pub sequences : List ℕ
  pub sizes : List ℕ
  pub sends : List ℕ
  pub remotes : List ℕ
  pub receives : List ℕ
  pub probe : Option Bitrate
  pub now : ℕ

abbrev pub report-of : List ℕ → List ℕ → List ℕ → List ℕ → List ℕ → Option Bitrate → ℕ → Report
report-of sequences sizes sends remotes receives probe now =
    record { sequences = sequences; sizes = sizes; sends = sends; remotes = remotes; receives = receives; probe = probe; now = now }

-- a report as it is lent, and what its packets are put in order by
abbrev pub report : Lent.Report → Report
report r = report-of r.sequences.now r.sizes.now r.sends.now r.remotes.now r.receives.now r.probe r.moment

abbrev pub keys : Lent.Report → Keys
keys r = record { remotes = r.remotes; sends = r.sends; sequences = r.sequences }

-- a list in the order of receipt: by remote, send and sequence, equal keys in the order given
abbrev pub in_order : Report → List ℕ → List ℕ
in_order r xs = entries xs (receive_order r.remotes r.sends r.sequences)

-- the packets in the order of receipt; the sequences, which are for that order alone, stay
abbrev pub ordered : Report → Report
ordered r = report-of r.sequences (in_order r r.sizes) (in_order r r.sends) (in_order r r.remotes) (in_order r r.receives) r.probe r.now

abbrev pub most_instant : ℕ
most_instant = 10 ^ 18

-- every number of a list passes a test
unfoldable pub every : (ℕ → Bool) → List ℕ → Bool
every test [] = true
every test (x ∷ xs) = test x && every test xs

abbrev pub all_at_most : ℕ → List ℕ → Bool
all_at_most most xs = every (λ x. leb x most) xs

abbrev pub all_at_least : ℕ → List ℕ → Bool
all_at_least least xs = every (λ x. leb least x) xs

-- 4: are the lists of equal length, at most 1,024?
unfoldable pub lists_in : List ℕ → List ℕ → List ℕ → List ℕ → List ℕ → Bool
lists_in sequences sizes sends remotes receives =
    let n = length sequences in
    eqb (length sizes) n && eqb (length sends) n && eqb (length remotes) n && eqb (length receives) n && leb n most_packets

-- 5: are all instants at most 10^18?
unfoldable pub instants_in : List ℕ → List ℕ → List ℕ → Bool
instants_in sends remotes receives = all_at_most most_instant sends && all_at_most most_instant remotes && all_at_most most_instant receives

abbrev pub least_size : ℕ
least_size = 1

-- 6: is every size at least 1?
abbrev pub sizes_in : List ℕ → Bool
sizes_in sizes = all_at_least least_size sizes

-- 7: is now at most 10^18 and a multiple of 1,000,000?
unfoldable pub moment_in : ℕ → Bool
moment_in now = leb now most_instant && eqb (now % millisecond) 0

-- 8: is a probe, if present, finite and from 0 to 10^14?
unfoldable pub probe_in : Option Bitrate → Bool
probe_in None = true
probe_in (Some p) = within p zero most_rate

-- 4 to 8; 9 is of the acknowledged rate too, and comes after them
unfoldable pub of_report : Report → List Question
of_report r =
    question 4 (lists_in r.sequences r.sizes r.sends r.remotes r.receives)
    ∷ question 5 (instants_in r.sends r.remotes r.receives)
    ∷ question 6 (sizes_in r.sizes)
    ∷ question 7 (moment_in r.now)
    ∷ question 8 (probe_in r.probe)
    ∷ []

-- what 9 asks of a byte sum: is it at or below 2,147,483,647?
abbrev pub bytes_in : DataSize → Bool
bytes_in sum = not (less most_bytes sum)

-- ---- timeout
unfoldable pub of_timeout : ℕ → List Question
of_timeout now = question 7 (moment_in now) ∷ []
