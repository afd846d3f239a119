-- The state of a loop that hands out packets to two lists.
use Rattle.std.specs.Prelude.{◌≡◌, ℕ, zero, suc, ◌+◌, ◌-◌, ◌^◌, ◌<◌, ◌≤◌, min, Bool, true, false, ◌&&◌, nat_lt, List, [], ◌∷◌, map, length, replicate, ℤ, slice_set, refl, Option, Some, None}
use Rattle.std.proofs.Common.{sym, ap, ◌∙◌, zero-add, add-zero, add-one, ltb-false, ltb-true}
use native.Mathlib.Omega.{arith}
use Rattle.std.proofs.Math.ListN.{length-map, length-set}
use Rattle.std.proofs.lemmas.List.Edits.{sets, sets-eq}
use Rattle.bool_laws.specs.Bools.{both}
use Rattle.twcc.specs.Feedback.{signed}
use Rattle.twcc.specs.declared.Packet.{Packet}
use Rattle.feedback_reader.specs.Reader.{Step, gives, step}
use Rattle.feedback_reader.specs.declared.Cursor.{Cursor}
use Rattle.feedback_lists.specs.Lists.{next_packets, cursor_after, status, ticks_of, room, over, statuses_over, ticks_over}
use Rattle.feedback_lists.specs.Run.{run_ticks, run_times, after_run, AtHand, time, run_step, run_on, after_none, after_on}
use Rattle.feedback_lists.specs.Laws.{none_stays, packets-none, cursor-none, packets-some, packets-most}

-- the first places of a list written over, as stores one by one
over-is : {A : Type 0} (new old : List A) → length new ≤ length old → sets old 0 new ≡ over new old
unfolding over
over-is new old h = rw zero-add at (sets-eq new old 0 (rw zero-add h))

pub both-room : (n a b : ℕ) → (nat_lt n a && nat_lt n b) ≡ true → n < min a b
both-room n a b e =
    let t = both (nat_lt n a) (nat_lt n b) e in
    omega (arith, ltb-true n a t.0, ltb-true n b t.1)

pub no_room : (n a b : ℕ) → (nat_lt n a && nat_lt n b) ≡ false → min a b ≤ n
no_room n a b e = go (nat_lt n a) refl e
  where
    go : (t : Bool) → nat_lt n a ≡ t → (t && nat_lt n b) ≡ false → min a b ≤ n
    go true h k = let l = ltb-false n b k in omega arith
    go false h k = let l = ltb-false n a h in omega arith

-- ---- the loop
module _ (message statuses₀ : List ℕ) (ticks₀ : List ℤ) (from : Cursor) where
  abbrev most : ℕ
  most = room statuses₀ ticks₀

  abbrev all : List Packet
  all = next_packets most message from

  -- n packets are handed out; what is left, handed out too, gives the whole
  pub record Reading (statuses : List ℕ) (ticks : List ℤ) (n : ℕ) (cursor : Cursor) : Type 0 where
    pub within : n ≤ most
    pub statuses-long : length statuses ≡ length statuses₀
    pub ticks-long : length ticks ≡ length ticks₀
    pub count : n + length (next_packets (most - n) message cursor) ≡ length all
    pub cursor-is : cursor_after (most - n) message cursor ≡ cursor_after most message from
    pub statuses-are : sets statuses n (map status (next_packets (most - n) message cursor)) ≡ sets statuses₀ 0 (map status all)
    pub ticks-are : sets ticks n (map ticks_of (next_packets (most - n) message cursor)) ≡ sets ticks₀ 0 (map ticks_of all)

  pub reading-none : Reading statuses₀ ticks₀ 0 from
  reading-none =
      let z : most - 0 ≡ most = omega arith in
      record { within = omega arith; statuses-long = refl; ticks-long = refl; count = rw (z, zero-add); cursor-is = rw z; statuses-are = rw z; ticks-are = rw z }

  module _ {statuses : List ℕ} {ticks : List ℤ} {n : ℕ} {cursor : Cursor} (r : Reading statuses ticks n cursor) where
    -- one more
    more :
        {p : Packet} → n < most → (step message cursor).packet ≡ Some p
        → Reading (slice_set statuses n (status p)) (slice_set ticks n (ticks_of p)) (suc n) (step message cursor).cursor
    unfolding cursor_after
    more {p} h some =
        let z : most - n ≡ suc (most - suc n) = omega arith in
        let left : next_packets (most - n) message cursor ≡ p ∷ next_packets (most - suc n) message (step message cursor).cursor =
        rw z (packets-some message cursor some (most - suc n)) in
        record {
          within = omega arith;
          statuses-long = rw length-set r.statuses-long;
          ticks-long = rw length-set r.ticks-long;
          count = let e = rw left at r.count in omega arith;
          cursor-is = rw z at r.cursor-is;
          statuses-are = rw left at r.statuses-are;
          ticks-are = rw left at r.ticks-are;
        }

    pub reading-more :
        {o : Option Packet} {next : Cursor} {p : Packet} {x : ℕ} {y : ℤ} → n < most → gives o next ≡ step message cursor → o ≡ Some p → x ≡ status p → y ≡ ticks_of p
        → Reading (slice_set statuses n x) (slice_set ticks n y) (n + 1) next
    reading-more h is some x-is y-is = rw (add-one, ap (λ (t : Step). t.cursor) is, x-is, y-is) (more h (ap (λ (t : Step). t.packet) (sym is) ∙ some))

    pub record Read : Type 0 where
      pub answer : n ≡ length all
      pub cursor-end : cursor ≡ cursor_after most message from
      pub statuses-end : statuses ≡ statuses_over all statuses₀
      pub ticks-end : ticks ≡ ticks_over all ticks₀

    -- no more
    ends : next_packets (most - n) message cursor ≡ [] → cursor_after (most - n) message cursor ≡ cursor → Read
    ends none at-hand =
        let e : n + 0 ≡ length all = rw none at r.count in
        let f : n ≡ length all = omega arith in
        let g = packets-most most message from in
        record {
          answer = f;
          cursor-end = sym at-hand ∙ r.cursor-is;
          statuses-end = rw none at r.statuses-are ∙ over-is (map status all) statuses₀ (rw length-map (omega arith));
          ticks-end = rw none at r.ticks-are ∙ over-is (map ticks_of all) ticks₀ (rw length-map (omega arith));
        }

    pub reading-full : most ≤ n → Read
    unfolding next_packets cursor_after
    reading-full h = let z : most - n ≡ 0 = omega arith in ends (rw z) (rw z)

    pub reading-end : {o : Option Packet} {next : Cursor} → gives o next ≡ step message cursor → o ≡ None → Read × (next ≡ cursor_after most message from)
    reading-end is none =
        let e = ap (λ (t : Step). t.packet) (sym is) ∙ none in
        let r = ends (packets-none message cursor e _) (cursor-none message cursor e _) in
        (r, ap (λ (t : Step). t.cursor) (is ∙ none_stays message cursor e) ∙ r.cursor-end)

  -- k packets of a run of small deltas more
  abbrev Ran : ℕ → List ℕ → List ℤ → ℕ → Cursor → Type 0
  Ran k statuses ticks n cursor =
      Reading (sets statuses n (replicate k 1)) (sets ticks n (run_times k message cursor.next_delta cursor.ticks)) (n + k)
      (after_run cursor k (run_ticks k message cursor.next_delta cursor.ticks))

  module _ (k : ℕ) {statuses : List ℕ} {ticks : List ℤ} {n : ℕ} {cursor : Cursor} (places : ℕ) (run : AtHand (length message) places cursor (suc k)) (r : Reading statuses ticks n cursor) (h : n + suc k ≤ most) where
    abbrev t : ℕ
    t = time message cursor places k run

    -- one of them, and the others
    one_more : Reading (slice_set statuses n 1) (slice_set ticks n (signed 0x8000_0000 t)) (suc n) (after_run cursor 1 t)
    one_more =
        let one = run_step message cursor places k run in
        rw one at (more r {p = record { sequence = cursor.next_sequence; ticks = Some (signed 0x8000_0000 t) }} (omega arith) (ap (λ (x : Step). x.packet) one))

    all_more : Ran k (slice_set statuses n 1) (slice_set ticks n (signed 0x8000_0000 t)) (suc n) (after_run cursor 1 t) → Ran (suc k) statuses ticks n cursor
    unfolding run_times run_ticks
    all_more others =
        let m : suc n + k ≡ n + suc k = omega arith in
        rw (← m, ← after_on cursor k t (run_ticks k message (cursor.next_delta + 1) t)) others

  run_typed :
      (k : ℕ) {statuses : List ℕ} {ticks : List ℤ} {n : ℕ} {cursor : Cursor} (places : ℕ) → AtHand (length message) places cursor k → Reading statuses ticks n cursor → n + k ≤ most → cursor.next_sequence < 2 ^ 16 →
      Ran k statuses ticks n cursor
  unfolding run_times run_ticks
  run_typed zero {n = n} {cursor = cursor} places run r h q = rw (add-zero n, after_none cursor q) r
  run_typed (suc k) {cursor = cursor} places run r h q =
      all_more k places run r h (run_typed k (places - 1) (run_on message cursor places k run) (one_more k places run r h) (omega arith) (omega arith))

  run-some : (k : ℕ) {statuses : List ℕ} {ticks : List ℤ} {n : ℕ} {cursor : Cursor} (places : ℕ) → AtHand (length message) places cursor k → Reading statuses ticks n cursor → n + k ≤ most → 0 < k → Ran k statuses ticks n cursor
  run-some zero places run r h some = absurd (omega arith)
  run-some (suc k) {cursor = cursor} places run r h some =
      all_more k places run r h (run_typed k (places - 1) (run_on message cursor places k run) (one_more k places run r h) (omega arith) (omega arith))

  pub reading-run :
      (k : ℕ) {statuses x : List ℕ} {ticks y : List ℤ} {n : ℕ} {cursor z : Cursor} (places : ℕ) → AtHand (length message) places cursor k → Reading statuses ticks n cursor → n + k ≤ most → 0 < k →
      x ≡ sets statuses n (replicate k 1) → y ≡ sets ticks n (run_times k message cursor.next_delta cursor.ticks) → z ≡ after_run cursor k (run_ticks k message cursor.next_delta cursor.ticks) →
      Reading x y (n + k) z
  reading-run k places run r h some x-is y-is z-is = rw (z-is, x-is, y-is) (run-some k places run r h some)
