-- Stepping from a started reader hands out the packets of the message one by one, and then none for ever.
use Rattle.std.specs.Prelude.{◌≡◌, ℕ, zero, suc, ◌+◌, ◌*◌, ◌-◌, ◌≤◌, ◌<◌, Bool, true, false, ◌||◌, List, [], ◌∷◌, ◌++◌, map, eqb, ◌+ℤ◌, get_or, take, drop, replicate, Option, Some, None, Result, Ok, Err}
use Rattle.std.proofs.Math.Path.{refl, ap}
use Rattle.std.proofs.Common.{sym, subst, ◌∙◌, zero-add, length-append, drop-drop}
use native.Mathlib.Omega.{arith}
use Rattle.std.proofs.Math.Nat.{sub_self}
use Rattle.std.proofs.Math.ListN.{length, length-take}
use borrow.Author.Tests.{le-ltb, eq-eqb, ne_eqb, eqb-true, eqb-false}
use Rattle.bool_laws.specs.Bools.{cases}
use Rattle.status_chunk.specs.Chunk.{symbol_count, symbol_left, symbols_from, delta_bytes, any_reserved}
use Rattle.status_chunk.specs.Laws.{symbols-length}
use Rattle.twcc.specs.Feedback.{signed, header_bytes, base_seq, status_count, chunk_symbols, symbols, deltas_at, judge, recv_delta, packet, packets_from, packets}
use Rattle.twcc.specs.Numbers.{signed_low}
use Rattle.twcc.specs.declared.Header.{Header}
use Rattle.twcc.specs.declared.Packet.{Packet}
use Rattle.twcc.specs.declared.Refusal.{Refusal}
use Rattle.feedback_reader.specs.Starting.{judged_of, start-judged, started-good, started-is}
use Rattle.feedback_reader.specs.Reader.{Step, cursor_at, start, filled, taken, taken_if, step_in, step}
use Rattle.feedback_reader.specs.declared.Cursor.{Cursor}
use Rattle.feedback_reader.specs.declared.Place.{Place}
use Rattle.feedback_reader.specs.declared.Started.{Started}
use Rattle.feedback_runs.specs.Ticks.{SumOf, sum_of, sum_is, Delta16, delta16}
use Rattle.feedback_runs.specs.Packets.{refused-no-yes, accepted, packets-good, packets-refused, packets-count}

-- ---- the symbols to come
-- those that are left of the chunk at hand, and those of the chunks at a place
abbrev pub after : ℕ → ℕ → List ℕ → List ℕ
after chunk left chunks = symbols_from chunk (symbol_count chunk - left) left ++ chunk_symbols chunks

-- those that are counted
unfoldable pub coming : List ℕ → Cursor → List ℕ
coming message cursor = take cursor.packets_left (after cursor.place.chunk cursor.place.symbols_left (drop cursor.place.next_chunk message))

used-up : (chunk left : ℕ) (chunks : List ℕ) → left ≡ 0 → after chunk left chunks ≡ chunk_symbols chunks
unfolding symbols_from
used-up chunk left chunks e = rw e

whole_chunk : (chunk : ℕ) (chunks : List ℕ) → after chunk (symbol_count chunk) chunks ≡ symbols_from chunk 0 (symbol_count chunk) ++ chunk_symbols chunks
whole_chunk chunk chunks = rw (sub_self (symbol_count chunk))

-- ---- a chunk with a symbol left
record Fills (message : List ℕ) (from : Place) (chunks : List ℕ) (p : Place) : Type 0 where
  same : after p.chunk p.symbols_left (drop p.next_chunk message) ≡ after from.chunk from.symbols_left chunks
  most : p.symbols_left ≤ symbol_count p.chunk

abbrev next_place : Place → ℕ → ℕ → Place
next_place place a b = record { next_chunk = place.next_chunk + 2; chunk = a * 256 + b; symbols_left = symbol_count (a * 256 + b) }

filled-same : (message chunks : List ℕ) (place : Place) → place.symbols_left ≤ symbol_count place.chunk → drop place.next_chunk message ≡ chunks → Fills message place chunks (filled chunks place)
unfolding filled chunk_symbols
filled-same message [] place h e = record { same = rw e; most = h }
filled-same message (a ∷ []) place h e = record { same = rw e; most = h }
filled-same message (a ∷ b ∷ chunks) place h e =
    cases (Fills message place (a ∷ b ∷ chunks)) (eqb place.symbols_left 0)
    (λ t.
    let f = filled-same message chunks (next_place place a b) (omega arith) (sym (drop-drop 2 place.next_chunk message) ∙ ap (drop 2) e) in
    record { same = f.same ∙ whole_chunk (a * 256 + b) chunks ∙ sym (used-up place.chunk place.symbols_left (a ∷ b ∷ chunks) (eqb-true place.symbols_left 0 t)); most = f.most })
    (λ t. record { same = rw e; most = h })

filled-some : (chunks : List ℕ) (place : Place) → 0 < length (after place.chunk place.symbols_left chunks) → 0 < (filled chunks place).symbols_left
unfolding filled chunk_symbols
filled-some [] place h = omega (arith, simp (length-append, symbols-length) at h)
filled-some (a ∷ []) place h = omega (arith, simp (length-append, symbols-length) at h)
filled-some (a ∷ b ∷ chunks) place h =
    cases (λ (p : Place). 0 < p.symbols_left) (eqb place.symbols_left 0)
    (λ t. filled-some chunks (next_place place a b) (rw (whole_chunk (a * 256 + b) chunks) (rw (used-up place.chunk place.symbols_left (a ∷ b ∷ chunks) (eqb-true place.symbols_left 0 t)) at h)))
    (λ t. let z : place.symbols_left ≡ 0 → ⊥ = eqb-false place.symbols_left 0 t in positive place.symbols_left z)
  where
    positive : (n : ℕ) → (n ≡ 0 → ⊥) → 0 < n
    positive zero z = absurd (z refl)
    positive (suc n) z = omega arith

-- ---- a reader that has all it needs
pub record Sound (message : List ℕ) (cursor : Cursor) : Type 0 where
  pub bytes : (i : ℕ) → get_or message i 0 < 256
  pub few : cursor.packets_left < 65536
  pub most : cursor.place.symbols_left ≤ symbol_count cursor.place.chunk
  pub all : length (coming message cursor) ≡ cursor.packets_left
  pub unreserved : any_reserved (coming message cursor) ≡ false
  pub deltas : cursor.next_delta + delta_bytes (coming message cursor) ≤ length message
  pub sum : SumOf (65535 - cursor.packets_left) cursor.ticks

-- ---- one step
neither : (x y : Bool) → x || y ≡ false → (x ≡ false) × (y ≡ false)
neither true y e = absurd (let z : ◌≡◌ {A = ℕ} 0 1 = cc in omega arith)
neither false y e = (refl, e)

take-cons : (n x : ℕ) (xs : List ℕ) → 0 < n → take n (x ∷ xs) ≡ x ∷ take (n - 1) xs
take-cons zero x xs h = absurd (omega arith)
take-cons (suc n) x xs h =
    let e : suc n - 1 ≡ n = omega arith in
    rw e

-- the first of the symbols that are left, and the others
left-turn : (chunk left : ℕ) → 0 < left → left ≤ symbol_count chunk → symbols_from chunk (symbol_count chunk - left) left ≡ symbol_left chunk left ∷ symbols_from chunk (symbol_count chunk - (left - 1)) (left - 1)
unfolding symbols_from
left-turn chunk zero h l = absurd (omega arith)
left-turn chunk (suc left) h l =
    let e : suc left - 1 ≡ left = omega arith in
    let f : suc (symbol_count chunk - suc left) ≡ symbol_count chunk - left = omega arith in
    rw (e, f)

module _ (message : List ℕ) (cursor : Cursor) (sound : Sound message cursor) (some : 0 < cursor.packets_left) where
  abbrev p : Place
  p = filled (drop cursor.place.next_chunk message) cursor.place

  abbrev s : ℕ
  s = symbol_left p.chunk p.symbols_left

  abbrev next : Step
  next = taken message p cursor s

  fills : Fills message cursor.place (drop cursor.place.next_chunk message) p
  fills = filled-same message (drop cursor.place.next_chunk message) cursor.place sound.most refl

  there : 0 < p.symbols_left
  unfolding coming
  there = filled-some (drop cursor.place.next_chunk message) cursor.place (omega (arith, simp length-take at sound.all))

  -- its symbol is the first to come
  first : coming message cursor ≡ s ∷ coming message next.cursor
  unfolding coming taken
  first = rw (sym fills.same) (rw (left-turn p.chunk p.symbols_left there fills.most) (take-cons cursor.packets_left s _ some))

  clear : (eqb s 3 ≡ false) × (any_reserved (coming message next.cursor) ≡ false)
  unfolding any_reserved
  clear = neither _ _ (rw first at sound.unreserved)

  unreserved : eqb s 3 ≡ false
  unreserved = clear.0

  has-delta : cursor.next_delta + s ≤ length message
  unfolding delta_bytes
  has-delta = omega (arith, sound.deltas, ap delta_bytes first)

  pub step_is : step message cursor ≡ next
  unfolding step step_in taken_if
  step_is = rw (ne_eqb cursor.packets_left 0 (λ e. omega arith), ne_eqb p.symbols_left 0 (λ e. omega (arith, there)), unreserved, le-ltb _ _ has-delta)

  d : Delta16 s message cursor.next_delta
  d = delta16 s message cursor.next_delta sound.bytes

  pub time-is : signed 0x8000_0000 next.cursor.ticks ≡ signed 0x8000_0000 cursor.ticks +ℤ recv_delta s (drop cursor.next_delta message)
  unfolding taken
  time-is = rw (d.bits, d.number) (sum_is (65535 - cursor.packets_left) cursor.ticks d.value (omega arith) sound.sum d.small)

  pub left-next : (n : ℕ) → cursor.packets_left ≡ suc n → next.cursor.packets_left ≡ n
  unfolding taken
  left-next n e = omega arith

  pub sound-next : Sound message next.cursor
  unfolding taken delta_bytes
  sound-next =
      let e : 65535 - (cursor.packets_left - 1) ≡ 65535 - cursor.packets_left + 1 = omega (arith, sound.few) in
      record {
        bytes = sound.bytes;
        few = omega (arith, sound.few);
        most = omega (arith, fills.most);
        all = omega (arith, sound.all, ap length first);
        unreserved = clear.1;
        deltas = omega (arith, sound.deltas, ap delta_bytes first);
        sum = rw (e, d.bits) (sum_of (65535 - cursor.packets_left) cursor.ticks d.value (omega arith) sound.sum d.small);
      }

-- ---- all steps
-- the first n answers, each step from the cursor that the step before left
unfoldable pub answers_at : ℕ → List ℕ → Cursor → List (Option Packet)
answers_at zero message cursor = []
answers_at (suc n) message cursor = (step message cursor).packet ∷ answers_at n message (step message cursor).cursor

-- the packets that are still to be handed out
unfoldable pub to_come : List ℕ → Cursor → List Packet
to_come message cursor = packets_from cursor.next_sequence (signed 0x8000_0000 cursor.ticks) (coming message cursor) (drop cursor.next_delta message)

pub none-for-ever : (k : ℕ) (message : List ℕ) (cursor : Cursor) → cursor.packets_left ≡ 0 → answers_at k message cursor ≡ replicate k None
unfolding answers_at step
none-for-ever zero message cursor e = refl
none-for-ever (suc k) message cursor e = rw (eq-eqb cursor.packets_left 0 e) (ap (λ (l : List (Option Packet)). None ∷ l) (none-for-ever k message cursor e))

module _ (message : List ℕ) (cursor : Cursor) (sound : Sound message cursor) (some : 0 < cursor.packets_left) where
  abbrev pub packet_now : Packet
  packet_now = packet (s message cursor sound some) cursor.next_sequence (signed 0x8000_0000 (next message cursor sound some).cursor.ticks)

  -- one packet is handed out
  pub handed-now : (step message cursor).packet ≡ Some packet_now
  unfolding taken
  handed-now = rw (step_is message cursor sound some)

  pub to-come-step : to_come message cursor ≡ packet_now ∷ to_come message (step message cursor).cursor
  unfolding to_come packets_from taken
  to-come-step = rw (step_is message cursor sound some, first message cursor sound some, time-is message cursor sound some, drop-drop)

  pub sound-step : Sound message (step message cursor).cursor
  sound-step = subst (λ (x : Step). Sound message x.cursor) (sym (step_is message cursor sound some)) (sound-next message cursor sound some)

  pub left_step : (n : ℕ) → cursor.packets_left ≡ suc n → (step message cursor).cursor.packets_left ≡ n
  left_step n e = ap (λ (x : Step). x.cursor.packets_left) (step_is message cursor sound some) ∙ left-next message cursor sound some n e

pub nothing-to-come : (message : List ℕ) (cursor : Cursor) → cursor.packets_left ≡ 0 → to_come message cursor ≡ []
unfolding to_come coming packets_from
nothing-to-come message cursor e = rw e

pub hands_out :
    (n k : ℕ) (message : List ℕ) (cursor : Cursor) → cursor.packets_left ≡ n → Sound message cursor →
    answers_at (n + k) message cursor ≡ map Some (to_come message cursor) ++ replicate k None
unfolding answers_at
hands_out zero k message cursor e sound = rw (zero-add k, nothing-to-come message cursor e) (none-for-ever k message cursor e)
hands_out (suc n) k message cursor e sound =
    let some : 0 < cursor.packets_left = omega arith in
    let m : suc n + k ≡ suc (n + k) = omega arith in
    rw (m, to-come-step message cursor sound some, handed-now message cursor sound some)
    (ap (λ (l : List (Option Packet)). Some (packet_now message cursor sound some) ∷ l)
    (hands_out n k message (step message cursor).cursor (left_step message cursor sound some n e) (sound-step message cursor sound some)))

-- ---- a message
module _ (message : List ℕ) (bytes : (i : ℕ) → get_or message i 0 < 256) (s : Started) (started : start message ≡ Ok s) where
  good : judge message ≡ Ok s.header
  good = started-good message s started

  abbrev starts : Cursor
  starts = cursor_at (deltas_at message) (status_count message) (base_seq message)

  start-coming : coming message starts ≡ symbols message
  unfolding coming symbol_count symbols_from
  start-coming = refl

  pub start-cursor : s.cursor ≡ starts
  start-cursor = ap (λ (t : Started). t.cursor) (started-is message s started) ∙ ap (λ (h : Header). cursor_at (deltas_at message) h.status_count h.base_seq) (accepted message s.header good).told

  pub start-sound : Sound message starts
  start-sound =
      let a = accepted message s.header good in
      record {
        bytes = bytes;
        few = omega (arith, bytes 2, bytes 3);
        most = omega arith;
        all = rw start-coming a.covered;
        unreserved = rw start-coming a.unreserved;
        deltas = rw start-coming a.deltas;
        sum = record { fits = omega arith; high = λ e. omega arith; low = λ e. absurd (omega arith) };
      }

  pub all-to-come : to_come message starts ≡ packets message
  unfolding to_come
  all-to-come = rw (start-coming, signed_low 0x8000_0000 0 (omega arith)) (sym (packets-good message s.header good))

  good-handed : (k : ℕ) → answers_at (length (packets message) + k) message s.cursor ≡ map Some (packets message) ++ replicate k None
  good-handed k =
      rw (start-cursor, packets-count message s.header good)
      (hands_out (status_count message) k message starts refl start-sound ∙ ap (λ (l : List Packet). map Some l ++ replicate k None) all-to-come)

-- a message that is turned down starts no cursor; this one has no packets left
abbrev pub no_packets : Cursor
no_packets = cursor_at 0 0 0

abbrev pub cursor_of : Result Started Refusal → Cursor
cursor_of (Ok s) = s.cursor
cursor_of (Err r) = no_packets

pub start-at : (message : List ℕ) → (cursor_of (start message)).place.next_chunk ≡ header_bytes
start-at message = go (start message) refl
  where
    go : (started : Result Started Refusal) → start message ≡ started → (cursor_of started).place.next_chunk ≡ header_bytes
    go (Ok s) e = ap (λ (t : Started). t.cursor.place.next_chunk) (started-is message s e)
    go (Err r) e = refl

-- a message that is turned down has no packets
pub none-started : (message : List ℕ) (r : Refusal) → start message ≡ Err r → packets message ≡ []
none-started message r e = packets-refused message (λ h good. refused-no-yes (ap judged_of (sym e) ∙ start-judged message ∙ good))

-- every packet of a message once, in order, and then none for ever
pub all-handed :
    (message : List ℕ) (k : ℕ) → ((i : ℕ) → get_or message i 0 < 256) →
    answers_at (length (packets message) + k) message (cursor_of (start message)) ≡ map Some (packets message) ++ replicate k None
all-handed message k bytes = go (start message) refl
  where
    go : (started : Result Started Refusal) → start message ≡ started → answers_at (length (packets message) + k) message (cursor_of started) ≡ map Some (packets message) ++ replicate k None
    go (Ok s) e = good-handed message bytes s e k
    go (Err r) e = rw (none-started message r e, zero-add k) (none-for-ever k message no_packets refl)
