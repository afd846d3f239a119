-- Laws of the first chunk with a symbol left.
use Rattle.std.specs.Prelude.{◌≡◌, ℕ, ◌+◌, ◌<◌, ◌≤◌, List, [], ◌∷◌, length, drop, ◌≢◌, refl}
use Rattle.std.proofs.Common.{arith, ne_eqb, length-drop, ltb-false, ltb-true}
use Rattle.status_chunk.specs.Chunk.{symbol_count}
use Rattle.twcc.specs.Feedback.{read_u16}
use Rattle.twcc.specs.Chunks.{drop-two}
use Rattle.feedback_reader.specs.Reader.{filled}
use Rattle.feedback_reader.specs.declared.Place.{Place}

pub filled-now : (chunks : List ℕ) (place : Place) → (place.symbols_left ≢ 0) → place ≡ filled chunks place
unfolding filled
filled-now [] place h = refl
filled-now (a ∷ []) place h = refl
filled-now (a ∷ b ∷ chunks) place h = rw (ne_eqb place.symbols_left 0 h)

pub filled-end : (chunks : List ℕ) (place : Place) → length chunks < 2 → place ≡ filled chunks place
unfolding filled
filled-end [] place h = refl
filled-end (a ∷ []) place h = refl
filled-end (a ∷ b ∷ chunks) place h = absurd (omega arith)

pub filled-turn :
    (bytes : List ℕ) (place : Place) → place.next_chunk + 2 ≤ length bytes → place.symbols_left ≡ 0 →
    filled (drop place.next_chunk bytes) place
    ≡ filled (drop (place.next_chunk + 2) bytes)
    (record { next_chunk = place.next_chunk + 2; chunk = read_u16 bytes place.next_chunk; symbols_left = symbol_count (read_u16 bytes place.next_chunk) })
unfolding filled
filled-turn bytes place h e = rw (drop-two bytes place.next_chunk h, e)

-- what `fill` goes by
pub ruleset filling = (filled-now, filled-end, filled-turn, length-drop, ltb-false, ltb-true)
