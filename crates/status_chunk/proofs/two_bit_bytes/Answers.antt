-- `status_chunk::two_bit_bytes` meets its contract. The loop's invariant: the bytes counted, and those of the symbols left, are those of all.
use Rattle.std.proofs.Common.{◌≡◌, ◌+◌, ◌-◌, ◌%◌, ◌≤◌, Bool, true, false, ltb, ltb-true, ltb-false, refl, ap, ◌∙◌, arith, ℕ}
use Rattle.status_chunk.specs.Chunk.{two_bit_vector, symbols_from, delta_bytes}
use Rattle.status_chunk.specs.Laws.{rest_of, rest-symbol, rest-none, rest-turn, bytes-turn}
use Rattle.status_chunk.proofs.two_bit_bytes.Goals as goal

-- one more symbol, or zeros in its place
turn :
    (chunk n i bytes whole : ℕ) → two_bit_vector ≤ chunk → n ≤ 7 → bytes + delta_bytes (symbols_from chunk 0 (n - i)) ≡ whole →
    (bytes + rest_of chunk n i % 4) + delta_bytes (symbols_from chunk 0 (n - (i + 1))) ≡ whole
turn chunk n i bytes whole v few e = go (ltb i n) refl
  where
    go : (t : Bool) → ltb i n ≡ t → (bytes + rest_of chunk n i % 4) + delta_bytes (symbols_from chunk 0 (n - (i + 1))) ≡ whole
    go true t =
        let h = ltb-true i n t in
        rw (rest-symbol chunk n i few h v) (bytes-turn chunk n i bytes whole h e)
    go false t =
        let h = ltb-false i n t in
        let z : n - i ≡ 0 = omega arith in
        let y : n - (i + 1) ≡ 0 = omega arith in
        rw (rest-none chunk n i few h, y) (omega (arith, rw z at e))

pub loop-preserved : goal.loop-preserved
loop-preserved c =
    let v = c.loop.invariant in
    let s : c.from-bytes.result ≡ rest_of c.args.chunk c.args.n c.loop.counter % 4 = c.from-bytes.ensures ∙ ap (λ (k : ℕ). k % 4) v.0 in (
      rw v.0 (rest-turn _ _ _ (omega arith)),
      omega (arith, s),
      rw s (turn _ _ _ _ _ (omega arith) (omega arith) v.2),
    )

pub returns : goal.returns
unfolding delta_bytes symbols_from
returns c =
    let z : c.args.n - c.loop.counter ≡ 0 = omega arith in
    omega (arith, rw z at c.loop.invariant.2)
