use Rattle.std.proofs.Common.{◌≡◌, ◌-◌}
use Rattle.status_chunk.specs.Chunk.{symbols_from, any_reserved}
use Rattle.status_chunk.specs.Laws.{rest_of}
use Rattle.status_chunk.proofs.two_bit_reserved.Given as goal

abbrev pub invariant-loop : goal.invariant-loop
invariant-loop l = (l.rest ≡ rest_of l.chunk l.n l.counter) × (any_reserved (symbols_from l.chunk 0 (l.n - l.counter)) ≡ any_reserved (symbols_from l.chunk 0 l.n))
