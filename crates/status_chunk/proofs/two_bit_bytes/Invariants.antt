use Rattle.std.proofs.Common.{◌≡◌, ◌+◌, ◌*◌, ◌-◌, ◌≤◌}
use Rattle.status_chunk.specs.Chunk.{symbols_from, delta_bytes}
use Rattle.status_chunk.specs.Laws.{rest_of}
use Rattle.status_chunk.proofs.two_bit_bytes.Given as goal

abbrev pub invariant-loop : goal.invariant-loop
invariant-loop l =
    (l.rest ≡ rest_of l.chunk l.n l.counter) × (l.bytes ≤ 3 * l.counter) × (l.bytes + delta_bytes (symbols_from l.chunk 0 (l.n - l.counter)) ≡ delta_bytes (symbols_from l.chunk 0 l.n))
