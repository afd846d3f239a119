-- A step keeps a cursor's numbers within their types, and so do a start and any number of steps.
use Rattle.std.specs.Prelude.{◌≡◌, List, [], ◌∷◌, eqb, ltb, length, get_or, drop, Ok}
use Prim.Native.Nat.{ℕ, zero, suc, ◌+◌, ◌*◌, ◌^◌, ◌<◌}
use Rattle.std.proofs.Common.{arith}
use Rattle.std.proofs.Math.Seq.{get_or-drop}
use Rattle.bool_laws.specs.Bools.{cases, chosen}
use Rattle.status_chunk.specs.Chunk.{reserved, symbol_count, symbol_left}
use Rattle.status_chunk.specs.Laws.{count_small}
use Rattle.feedback_reader.specs.Reader.{Step, start, filled, taken, taken_if, step_in, step}
use Rattle.feedback_reader.specs.declared.Cursor.{Cursor}
use Rattle.feedback_reader.specs.declared.Started.{Started}
use Rattle.feedback_reader.specs.declared.Place.{Place}
use Rattle.feedback_lists.specs.Lists.{cursor_after}
use Rattle.feedback_runs.specs.Handing.{start-cursor}
use Rattle.c_feedback.specs.Laws.{Typed}

record TypedPlace (p : Place) : Type 0 where
  chunk : p.chunk < 2 ^ 16
  symbols-left : p.symbols_left < 2 ^ 16

filled-typed : (chunks : List ℕ) (place : Place) → ((i : ℕ) → get_or chunks i 0 < 256) → TypedPlace place → TypedPlace (filled chunks place)
unfolding filled
filled-typed [] place bytes t = t
filled-typed (a ∷ []) place bytes t = t
filled-typed (a ∷ b ∷ chunks) place bytes t =
    cases TypedPlace (eqb place.symbols_left 0)
    (λ e.
    filled-typed chunks (record { next_chunk = place.next_chunk + 2; chunk = a * 256 + b; symbols_left = symbol_count (a * 256 + b) }) (λ i. bytes (suc (suc i)))
    (record { chunk = omega (arith, bytes 0, bytes 1); symbols-left = omega (arith, count_small (a * 256 + b)) }))
    (λ e. t)

module _ (message : List ℕ) (bytes : (i : ℕ) → get_or message i 0 < 256) where
  taken-typed : (p : Place) (cursor : Cursor) (s : ℕ) → TypedPlace p → Typed cursor → Typed (taken message p cursor s).cursor
  unfolding taken
  taken-typed p cursor s q t =
      record {
        chunk = q.chunk;
        symbols-left = omega (arith, q.symbols-left);
        packets-left = omega (arith, t.packets-left);
        next-sequence = omega arith;
        ticks = omega arith;
      }

  pub step_typed : (cursor : Cursor) → Typed cursor → Typed (step message cursor).cursor
  unfolding step step_in taken_if
  step_typed cursor t =
      let place = filled (drop cursor.place.next_chunk message) cursor.place in
      let s = symbol_left place.chunk place.symbols_left in
      let q = filled-typed (drop cursor.place.next_chunk message) cursor.place (λ i. rw get_or-drop (bytes (cursor.place.next_chunk + i))) (record { chunk = t.chunk; symbols-left = t.symbols-left }) in
      chosen (λ (x : Step). Typed x.cursor) (eqb cursor.packets_left 0) t
      (chosen (λ (x : Step). Typed x.cursor) (eqb place.symbols_left 0) t
      (chosen (λ (x : Step). Typed x.cursor) (eqb s reserved) t
      (chosen (λ (x : Step). Typed x.cursor) (ltb (length message) (cursor.next_delta + s)) t (taken-typed place cursor s q t))))

  pub after-typed : (n : ℕ) (cursor : Cursor) → Typed cursor → Typed (cursor_after n message cursor)
  unfolding cursor_after
  after-typed zero cursor t = t
  after-typed (suc n) cursor t = after-typed n (step message cursor).cursor (step_typed cursor t)

  pub start-typed : (s : Started) → start message ≡ Ok s → Typed s.cursor
  start-typed s e =
      rw (start-cursor message bytes s e)
      (record {
        chunk = omega arith;
        symbols-left = omega arith;
        packets-left = omega (arith, bytes 2, bytes 3);
        next-sequence = omega (arith, bytes 0, bytes 1);
        ticks = omega arith;
      })
