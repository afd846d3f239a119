-- The example of document 01, three records of which the second is skipped, and the limits of questions 10 and 13, computed from the definitions.
use Rattle.std.specs.Prelude.{ℕ, zero, suc, ◌+◌, ◌*◌, ◌≡◌, refl, true, false, List, [], ◌∷◌, ◌++◌, Ok, Err}
use Rattle.le_bytes.specs.LeBytes.{le}
use Rattle.pass_records.specs.declared.FileRefusal.TheVariants.{BadLength}
use Rattle.pass_records.specs.PassRecords.{
  most_records,
  record_count,
  probe_bits,
  receive,
  well_formed,
  record_at,
  successor,
  steps,
  chain_from,
  chain,
  judge_along,
  length_in,
  least_output,
  room,
  judge,
}

abbrev zeros : ℕ → List ℕ
zeros zero = []
zeros (suc n) = 0 ∷ zeros n

-- the first is followed by record 3, and is a timeout at 1000000000
abbrev first : List ℕ
first = 3 ∷ 0 ∷ 0 ∷ 0 ∷ 3 ∷ zeros 27 ++ (0 ∷ 0xca ∷ 0x9a ∷ 0x3b ∷ zeros 12)

-- the third ends the chain, and is a report at 1010000000 with a probe of 2000000
abbrev third : List ℕ
third = zeros 4 ++ (2 ∷ 1 ∷ zeros 26) ++ (0x80 ∷ 0x60 ∷ 0x33 ∷ 0x3c ∷ zeros 8) ++ (0x80 ∷ 0x84 ∷ 0x3e ∷ 0x41 ∷ [])

abbrev pub example : List ℕ
example = first ++ zeros 48 ++ third

pub three-records : record_count example ≡ 3
three-records = refl

pub example-linked : judge most_records example 65536 ≡ Ok tt
unfolding judge length_in least_output judge_along chain_from steps successor record_at well_formed le
example-linked = refl

pub example-chain : chain example ≡ 1 ∷ 3 ∷ []
unfolding chain_from steps successor record_at well_formed le
example-chain = refl

pub first-now : receive (record_at example 1) ≡ 1000000000
unfolding record_at le
first-now = refl

pub third-now : receive (record_at example 3) ≡ 1010000000
unfolding record_at le
third-now = refl

pub third-probe : probe_bits (record_at example 3) ≡ 0x413e_8480_0000_0000
unfolding record_at le
third-probe = refl

pub lengths-taken : length_in most_records 0 ∷ length_in most_records 47 ∷ length_in most_records 48 ∷ length_in most_records 49
    ∷ length_in most_records (65535 * 48) ∷ length_in most_records (65535 * 48 + 1) ∷ length_in most_records (65536 * 48) ∷ []
    ≡ false ∷ false ∷ true ∷ false ∷ true ∷ false ∷ false ∷ []
unfolding length_in
lengths-taken = refl

pub rooms : room most_records 47 ∷ room most_records 48 ∷ room most_records (1365 * 48) ∷ room most_records (1366 * 48) ∷ room most_records (65535 * 48) ∷ room most_records (65536 * 48) ∷ []
    ≡ Err BadLength ∷ Ok 65536 ∷ Ok 65536 ∷ Ok 65568 ∷ Ok 3145680 ∷ Err BadLength ∷ []
unfolding room length_in least_output
rooms = refl
