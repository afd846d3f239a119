-- A case of the oracle, and counts of cases.
use Rattle.std.specs.Prelude.{ℕ, ◌+◌, ◌*◌, ◌%◌, ◌^◌, Bool, not, ◌&&◌, List, [], ◌∷◌, ◌==◌, slice_index}
use mir.Val.{bool_byte}
use Rattle.le_bytes.specs.LeBytes.{le}
use Rattle.cases.specs.declared.Case.{Case}
use Rattle.cases.specs.declared.Counts.{Counts}

-- word k of some bytes
abbrev word : List ℕ → ℕ → ℕ
word bytes k = le 8 bytes (8 * k)

abbrev pub read : List ℕ → Case
read s =
    record {
      op = word s 0;
      a = word s 1;
      b = word s 2;
      c = word s 3;
      d = word s 4;
      e = word s 5;
      answers = word s 6 ∷ word s 7 ∷ word s 8 ∷ word s 9 ∷ word s 10 ∷ word s 11 ∷ [];
    }

abbrev same_at : List ℕ → List ℕ → ℕ → Bool
same_at xs ys k = slice_index xs k == slice_index ys k

abbrev pub agrees : Case → List ℕ → Bool
agrees c xs =
    same_at xs c.answers 0 && same_at xs c.answers 1 && same_at xs c.answers 2 && same_at xs c.answers 3 && same_at xs c.answers 4 && same_at xs c.answers 5

abbrev pub new : Counts
new = record { cases = 0; packets = 0; agreed = 0; wrong = 0 }

abbrev add : ℕ → ℕ → ℕ
add a b = (a + b) % 2 ^ 64

-- with one case more, which has so many packets
abbrev pub counted : Counts → ℕ → Bool → Counts
counted c packets same =
    record {
      cases = add c.cases 1;
      packets = add c.packets packets;
      agreed = add c.agreed (bool_byte (same && c.wrong == 0));
      wrong = add c.wrong (bool_byte (not same));
    }
