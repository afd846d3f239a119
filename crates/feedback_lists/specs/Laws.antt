-- Laws of the packets that a reader's next steps hand out: a step that gives none stays where it is, so the packets of n + k steps are those of n steps and of k steps after them.
use Rattle.std.specs.Prelude.{◌≡◌, ℕ, zero, suc, ◌+◌, ◌≤◌, List, [], ◌∷◌, ◌++◌, length, drop, ℤ, ◌==◌, nat_lt, Option, Some, None}
use Rattle.std.proofs.Math.Path.{refl, sym, ap}
use Rattle.std.proofs.Common.{◌∙◌, arith, zero-add, suc-add}
use Rattle.bool_laws.specs.Bools.{chosen}
use Rattle.status_chunk.specs.Chunk.{reserved, symbol_left}
use Rattle.twcc.specs.Feedback.{packet}
use Rattle.twcc.specs.declared.Packet.{Packet}
use Rattle.feedback_reader.specs.Reader.{Step, filled, none, step, step_in, taken, taken_if}
use Rattle.feedback_reader.specs.declared.Cursor.{Cursor}
use Rattle.feedback_lists.specs.Lists.{followed_by, next_packets, cursor_after}

abbrev Stays : Cursor → Step → Type 0
Stays cursor s = s.packet ≡ None → s ≡ none cursor

some-not-none : {p : Packet} {C : Type 0} → Some p ≡ None → C
some-not-none e = absurd (let z : ◌≡◌ {A = ℕ} 0 1 = cc in omega arith)

followed-first : (o : Option Packet) (rest : List Packet) {p : Packet} {packets : List Packet} → followed_by o rest ≡ p ∷ packets → o ≡ Some p
followed-first None rest e = absurd (let z : ◌≡◌ {A = ℕ} 0 1 = cc in omega arith)
followed-first (Some q) rest e = cc

-- ---- a step that gives none, and one that gives a packet
module _ (message : List ℕ) (cursor : Cursor) where
  -- it stays where it is
  pub none_stays : Stays cursor (step message cursor)
  unfolding step step_in taken_if taken
  none_stays =
      let place = filled (drop cursor.place.next_chunk message) cursor.place in
      let s = symbol_left place.chunk place.symbols_left in
      chosen (Stays cursor) (cursor.packets_left == 0) (λ e. refl)
      (chosen (Stays cursor) (place.symbols_left == 0) (λ e. refl)
      (chosen (Stays cursor) (s == reserved) (λ e. refl) (chosen (Stays cursor) (nat_lt (length message) (cursor.next_delta + s)) (λ e. refl) (λ e. some-not-none e))))

  module _ (e : (step message cursor).packet ≡ None) where
    pub packets-none : (n : ℕ) → next_packets n message cursor ≡ []
    unfolding next_packets
    packets-none zero = refl
    packets-none (suc n) = rw e

    pub cursor-none : (n : ℕ) → cursor_after n message cursor ≡ cursor
    unfolding cursor_after
    cursor-none zero = refl
    cursor-none (suc n) = rw (none_stays e) (cursor-none n)

  abbrev Numbers : Step → Type 0
  Numbers s = (p : Packet) → s.packet ≡ Some p → p.sequence ≡ cursor.next_sequence

  nothing : Numbers (none cursor)
  nothing p e = some-not-none (sym e)

  some-numbers : (symbol : ℕ) (ticks : ℤ) (p : Packet) → Some (packet symbol cursor.next_sequence ticks) ≡ Some p → p.sequence ≡ cursor.next_sequence
  unfolding packet
  some-numbers symbol ticks p e =
      let f : packet symbol cursor.next_sequence ticks ≡ p = cc in
      ap (λ (q : Packet). q.sequence) (sym f)

  -- the packet that a step gives has the cursor's sequence number
  pub step-number : Numbers (step message cursor)
  unfolding step step_in taken_if taken
  step-number =
      let place = filled (drop cursor.place.next_chunk message) cursor.place in
      let s = symbol_left place.chunk place.symbols_left in
      chosen Numbers (cursor.packets_left == 0) nothing
      (chosen Numbers (place.symbols_left == 0) nothing
      (chosen Numbers (s == reserved) nothing (chosen Numbers (nat_lt (length message) (cursor.next_delta + s)) nothing (λ p e. some-numbers s _ p e))))

  -- so has the first of the next packets
  pub first-number : (n : ℕ) {p : Packet} {packets : List Packet} → next_packets n message cursor ≡ p ∷ packets → p.sequence ≡ cursor.next_sequence
  unfolding next_packets
  first-number zero e = absurd (let z : ◌≡◌ {A = ℕ} 0 1 = cc in omega arith)
  first-number (suc n) {p} e = step-number p (followed-first (step message cursor).packet _ e)

  pub packets-some : {p : Packet} → (step message cursor).packet ≡ Some p → (n : ℕ) → next_packets (suc n) message cursor ≡ p ∷ next_packets n message (step message cursor).cursor
  unfolding next_packets
  packets-some e n = rw e

-- ---- so many packets, and then so many
followed-most : {n : ℕ} (packets : List Packet) (o : Option Packet) → length packets ≤ n → length (followed_by o packets) ≤ suc n
followed-most packets None h = omega arith
followed-most packets (Some p) h = omega arith

pub packets-most : (n : ℕ) (message : List ℕ) (cursor : Cursor) → length (next_packets n message cursor) ≤ n
unfolding next_packets
packets-most zero message cursor = omega arith
packets-most (suc n) message cursor = followed-most _ (step message cursor).packet (packets-most n message (step message cursor).cursor)

pub cursor-add : (n k : ℕ) (message : List ℕ) (cursor : Cursor) → cursor_after (n + k) message cursor ≡ cursor_after k message (cursor_after n message cursor)
unfolding cursor_after
cursor-add zero k message cursor = rw zero-add
cursor-add (suc n) k message cursor = rw suc-add (cursor-add n k message (step message cursor).cursor)

abbrev Splits : ℕ → ℕ → List ℕ → Cursor → Type 0
Splits n k message cursor = next_packets (n + k) message cursor ≡ next_packets n message cursor ++ next_packets k message (cursor_after n message cursor)

module _ (n k : ℕ) (message : List ℕ) (cursor : Cursor) (next : Splits n k message (step message cursor).cursor) where
  splits-on : (o : Option Packet) → (step message cursor).packet ≡ o → Splits (suc n) k message cursor
  unfolding cursor_after
  splits-on None e =
      let stay = packets-none message cursor e in
      stay (suc n + k) ∙ sym (rw (stay (suc n), cursor-none message cursor e (suc n)) (stay k))
  splits-on (Some p) e = rw (suc-add, packets-some message cursor e (n + k), packets-some message cursor e n) (ap (λ ps. p ∷ ps) next)

pub packets-add : (n k : ℕ) (message : List ℕ) (cursor : Cursor) → Splits n k message cursor
unfolding next_packets cursor_after
packets-add zero k message cursor = rw zero-add
packets-add (suc n) k message cursor = splits-on n k message cursor (packets-add n k message (step message cursor).cursor) (step message cursor).packet refl
