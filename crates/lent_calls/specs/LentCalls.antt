-- Calls on a link that is lent as words: what each answers, and what the words and the lent places then hold. Words that stand for no link, an unknown tag or
-- another format, are met by question 1's number. A refusal leaves the words, and every lent place, as they were.
use Rattle.bandwidth.specs.declared.Bitrate.{Bitrate}
use Rattle.std.specs.Prelude.{ℕ, cond, List, eqb, ℤ, pos, neg_ℤ, Float, Option, Some, None}
use Rattle.link_state.specs.State.{in_range}
use Rattle.link_state.specs.declared.Link.{Link}
use Rattle.link_words.specs.LinkWords.{formed, hypothesis_tag, of_words, timeout_words, to_words}
use Rattle.link.specs.Link.{Reply, Started, accepted, estimate, hypothesis, next_timeout, opened, refused, turned_down}
use Rattle.link_runs.specs.Statement.{Call, call, threshold}
use Rattle.link_runs.specs.Statement.Call.{report, timeout}

-- ---- what C gets for a reply: its code, 0 or the opposite of the number, and what a lent place holds after it
abbrev pub code : Reply → ℤ
code (accepted e h t) = pos 0
code (refused n) = neg_ℤ (pos n)

abbrev pub bitrate_after : Reply → Float → Float
bitrate_after (accepted e h t) before = e
bitrate_after (refused n) before = before

abbrev pub hypothesis_after : Reply → ℕ → ℕ
hypothesis_after (accepted e h t) before = hypothesis_tag h
hypothesis_after (refused n) before = before

abbrev pub next_timeout_after : Reply → ℕ → ℕ
next_timeout_after (accepted e h t) before = t
next_timeout_after (refused n) before = before

abbrev pub words_after : Reply → List ℕ → List ℕ → List ℕ
words_after (accepted e h t) stored before = stored
words_after (refused n) stored before = before

-- ---- opening
abbrev pub open_code : Started → ℤ
open_code (opened l) = pos 0
open_code (turned_down n) = neg_ℤ (pos n)

abbrev pub open_words : Started → List ℕ → List ℕ
open_words (opened l) before = to_words l
open_words (turned_down n) before = before

-- ---- report and timeout
-- a report's probe: a flag, which is 0 where there is none, and its result in bps
unfoldable pub probe_result : ℕ → Float → Option Bitrate
probe_result flag result = cond (eqb flag 0) None (Some (record { 0 = result }))

unfoldable pub reply_to : List ℕ → Call → Reply
reply_to w k = cond (formed w) (call (of_words w) k).reply (refused 1)

-- the words that an accepted call leaves, from the link that it hands back: a report stores it whole, a timeout what it changes
abbrev pub stored : Call → Link → List ℕ → List ℕ
stored (report r) l before = to_words l
stored (timeout now) l before = timeout_words l.control before

unfoldable pub after : List ℕ → Call → List ℕ
after w k = words_after (reply_to w k) (stored k (call (of_words w) k).link w) w

-- ---- reading a link without a call
unfoldable pub read : List ℕ → Reply
read w =
    let l = of_words w in
    cond (formed w) (cond (in_range l) (accepted (estimate l) (hypothesis l) (next_timeout l)) (refused 1)) (refused 1)

-- the threshold in ms, beside what the reply tells
abbrev pub threshold_after : Reply → List ℕ → Float → Float
threshold_after (accepted e h t) w before = threshold (of_words w)
threshold_after (refused n) w before = before
