-- The packets that wait for a report: of more than 1,025 the first 1,025 are kept, since with more than 1,024 a report is refused, whatever they are.
use Rattle.std.specs.Prelude.{ℕ, suc, cond, List, [], ◌∷◌, ◌++◌, map, ltb, length, take}
use Rattle.receive_order.specs.ReceiveOrder.{most_packets, put_in_order}
use Rattle.pass_records.specs.PassRecords.{receive, remote, send, sequence, size}

abbrev pub most_waiting : ℕ
most_waiting = suc most_packets

-- five lists: packet i's numbers are at place i
pub record Packets : Type 0 where
  pub sequences : List ℕ
  pub sizes : List ℕ
  pub sends : List ℕ
  pub remotes : List ℕ
  pub receives : List ℕ

-- those of these records
abbrev pub of_records : List (List ℕ) → Packets
of_records records =
    record { sequences = map sequence records; sizes = map size records; sends = map send records; remotes = map remote records; receives = map receive records }

-- with one record more, which is kept where there are fewer than 1,025
abbrev pub pushed : Packets → List ℕ → Packets
pushed p bytes =
    cond (ltb (length p.sequences) most_waiting)
    (record {
      sequences = p.sequences ++ (sequence bytes ∷ []);
      sizes = p.sizes ++ (size bytes ∷ []);
      sends = p.sends ++ (send bytes ∷ []);
      remotes = p.remotes ++ (remote bytes ∷ []);
      receives = p.receives ++ (receive bytes ∷ []);
    })
    p

-- the first 1,024 in the order in which a report's packets are processed; sequences stay as they came
abbrev pub in_order : Packets → Packets
in_order p =
    let put : List ℕ → List ℕ = put_in_order (length p.sequences) p.remotes p.sends p.sequences in
    record { sequences = p.sequences; sizes = put p.sizes; sends = put p.sends; remotes = put p.remotes; receives = put p.receives }

-- what is kept of the records that wait
abbrev pub kept : List (List ℕ) → Packets
kept waiting = of_records (take most_waiting waiting)
