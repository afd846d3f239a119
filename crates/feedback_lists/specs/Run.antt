-- Packets of a run of small deltas handed out together, and that steps one by one give the same.
use Rattle.std.specs.Prelude.{◌≡◌, ℕ, zero, suc, ◌+◌, ◌-◌, ◌%◌, ◌^◌, ◌<◌, ◌≤◌, List, [], ◌∷◌, length, drop, replicate, ℤ, slice_index, slice_set, refl, Some}
use Rattle.std.proofs.Math.Path.{sym}
use Rattle.std.proofs.Common.{◌∙◌, add-zero, mod-eq_of_lt}
use native.Mathlib.Omega.{arith}
use Rattle.std.proofs.Math.Nat.{sub-zero}
use Rattle.std.proofs.Math.ListN.{length-set}
use Rattle.std.proofs.lemmas.List.Edits.{sets}
use borrow.Author.Tests.{le-ltb, ne_eqb}
use Rattle.status_chunk.specs.Chunk.{small_delta, symbol_count, symbol_left}
use Rattle.status_chunk.specs.Laws.{run-symbol}
use Rattle.twcc.specs.Feedback.{signed, packet}
use Rattle.feedback_reader.specs.Reader.{gives, delta_bits, taken, taken_if, step_in, step}
use Rattle.feedback_reader.specs.Filling.{filled-now}
use Rattle.feedback_reader.specs.declared.Cursor.{Cursor}

-- ---- n packets
-- the sum of deltas after one packet
abbrev pub small_after : List ℕ → ℕ → ℕ → ℕ
small_after message delta ticks = (ticks + slice_index message delta) % 2 ^ 32

-- the sum after n of them, and their times
unfoldable pub run_ticks : ℕ → List ℕ → ℕ → ℕ → ℕ
run_ticks zero message delta ticks = ticks
run_ticks (suc n) message delta ticks = run_ticks n message (delta + 1) (small_after message delta ticks)

unfoldable pub run_times : ℕ → List ℕ → ℕ → ℕ → List ℤ
run_times zero message delta ticks = []
run_times (suc n) message delta ticks = signed 0x8000_0000 (small_after message delta ticks) ∷ run_times n message (delta + 1) (small_after message delta ticks)

-- the cursor after n of them
abbrev pub after_run : Cursor → ℕ → ℕ → Cursor
after_run cursor n ticks =
    record {
      place = record { next_chunk = cursor.place.next_chunk; chunk = cursor.place.chunk; symbols_left = cursor.place.symbols_left - n };
      next_delta = cursor.next_delta + n;
      packets_left = cursor.packets_left - n;
      next_sequence = (cursor.next_sequence + n) % 2 ^ 16;
      ticks = ticks;
    }

-- n packets of a run of small deltas are at hand, with their deltas in a message of a length, and with places for them
pub record AtHand (length places : ℕ) (cursor : Cursor) (n : ℕ) : Type 0 where
  pub room : n ≤ places
  pub symbols : n ≤ cursor.place.symbols_left
  pub packets : n ≤ cursor.packets_left
  pub from-small : 0 < n → 0x2000 ≤ cursor.place.chunk
  pub below-large : 0 < n → cursor.place.chunk < 0x4000
  pub deltas : 0 < n → cursor.next_delta + n ≤ length

-- ---- one of them
module _ (message : List ℕ) (cursor : Cursor) (places : ℕ) (n : ℕ) (run : AtHand (length message) places cursor (suc n)) where
  abbrev pub time : ℕ
  time = small_after message cursor.next_delta cursor.ticks

  symbol-is : symbol_left cursor.place.chunk cursor.place.symbols_left ≡ small_delta
  symbol-is =
      run-symbol cursor.place.chunk (symbol_count cursor.place.chunk - cursor.place.symbols_left) (omega (arith, run.below-large (omega arith)))
      ∙ omega (arith, run.from-small (omega arith), run.below-large (omega arith))

  pub run_step : step message cursor ≡ gives (Some (record { sequence = cursor.next_sequence; ticks = Some (signed 0x8000_0000 time) })) (after_run cursor 1 time)
  unfolding step step_in taken_if taken delta_bits packet
  run_step =
      rw (
        ne_eqb cursor.packets_left 0 (λ e. omega (arith, run.packets)),
        sym (filled-now (drop cursor.place.next_chunk message) cursor.place (λ e. omega (arith, run.symbols))),
        ne_eqb cursor.place.symbols_left 0 (λ e. omega (arith, run.symbols)),
        symbol-is,
        le-ltb (length message) (cursor.next_delta + 1) (omega (arith, run.deltas (omega arith))),
      )

  -- the others are at hand after it
  pub run_on : AtHand (length message) (places - 1) (after_run cursor 1 time) n
  run_on =
      record {
        room = omega (arith, run.room);
        symbols = omega (arith, run.symbols);
        packets = omega (arith, run.packets);
        from-small = λ h. run.from-small (omega arith);
        below-large = λ h. run.below-large (omega arith);
        deltas = λ h. omega (arith, run.deltas (omega arith));
      }

pub after_none : (cursor : Cursor) → cursor.next_sequence < 2 ^ 16 → after_run cursor 0 cursor.ticks ≡ cursor
after_none cursor h = simp (sub-zero, add-zero, mod-eq_of_lt h)

pub after_on : (cursor : Cursor) (n time ticks : ℕ) → after_run (after_run cursor 1 time) n ticks ≡ after_run cursor (suc n) ticks
after_on cursor n time ticks =
    let a : cursor.place.symbols_left - 1 - n ≡ cursor.place.symbols_left - suc n = omega arith in
    let b : cursor.next_delta + 1 + n ≡ cursor.next_delta + suc n = omega arith in
    let c : cursor.packets_left - 1 - n ≡ cursor.packets_left - suc n = omega arith in
    let d : ((cursor.next_sequence + 1) % 2 ^ 16 + n) % 2 ^ 16 ≡ (cursor.next_sequence + suc n) % 2 ^ 16 = omega arith in
    simp (a, b, c, d)

-- ---- the loop
module _ (message : List ℕ) (delta before : ℕ) (statuses₀ : List ℕ) (ticks₀ : List ℤ) (at n : ℕ) where
  -- i packets are handed out; what is left, handed out too, gives the whole
  pub record Running (statuses : List ℕ) (ticks : List ℤ) (sum i : ℕ) : Type 0 where
    pub within : i ≤ n
    pub statuses-long : length statuses ≡ length statuses₀
    pub ticks-long : length ticks ≡ length ticks₀
    pub sum_is : run_ticks (n - i) message (delta + i) sum ≡ run_ticks n message delta before
    pub statuses-are : sets statuses (at + i) (replicate (n - i) 1) ≡ sets statuses₀ at (replicate n 1)
    pub ticks-are : sets ticks (at + i) (run_times (n - i) message (delta + i) sum) ≡ sets ticks₀ at (run_times n message delta before)

  pub running_none : Running statuses₀ ticks₀ before 0
  running_none =
      record { within = omega arith; statuses-long = refl; ticks-long = refl; sum_is = rw (sub-zero, add-zero); statuses-are = rw (sub-zero, add-zero); ticks-are = rw (sub-zero, add-zero, add-zero) }

  module _ {statuses : List ℕ} {ticks : List ℤ} {sum i : ℕ} (r : Running statuses ticks sum i) where
    pub running_more : {next : ℕ} {y : ℤ} → i < n → next ≡ small_after message (delta + i) sum → y ≡ signed 0x8000_0000 next → Running (slice_set statuses (at + i) 1) (slice_set ticks (at + i) y) next (i + 1)
    unfolding run_ticks run_times
    running_more h next-is y-is =
        let z : n - i ≡ suc (n - (i + 1)) = omega arith in
        let d : delta + i + 1 ≡ delta + (i + 1) = omega arith in
        let a : suc (at + i) ≡ at + (i + 1) = omega arith in
        record {
          within = omega arith;
          statuses-long = rw length-set r.statuses-long;
          ticks-long = rw length-set r.ticks-long;
          sum_is = rw (next-is, ← d) (rw z at r.sum_is);
          statuses-are = rw (← a) (rw z at r.statuses-are);
          ticks-are = rw (y-is, next-is, ← a, ← d) (rw z at r.ticks-are);
        }

    pub record Ran : Type 0 where
      pub sum-end : sum ≡ run_ticks n message delta before
      pub statuses-end : statuses ≡ sets statuses₀ at (replicate n 1)
      pub ticks-end : ticks ≡ sets ticks₀ at (run_times n message delta before)

    pub running-all : n ≤ i → Ran
    unfolding run_ticks run_times
    running-all h =
        let z : n - i ≡ 0 = omega arith in
        record { sum-end = rw z at r.sum_is; statuses-end = rw z at r.statuses-are; ticks-end = rw z at r.ticks-are }
