-- A number of units, brought to 53 digits and an even power of two: what `root_of` takes from it, and why its root can be read off that.
use Rattle.std.specs.Prelude.{◌≡◌, ℕ, zero, suc, ◌+◌, ◌-◌, ◌*◌, ◌/◌, ◌%◌, ◌^◌, ◌<◌, ◌≤◌, ◌⊎◌, from_bits, refl}
use Rattle.std.proofs.Common.{sym, ap, ◌∙◌, inl, inr, le_trans, le_of_eq, lt_of_lt_of_le, lt_irrefl, lt_of_not-le, mul_assoc, mul-le-mul_right, mul-lt-mul_of_pos_right, arith, pow_pos, pow-add, pow_mono}
use Rattle.std.specs.Int.Count.{count_leading_zeros}
use Rattle.std.proofs.lemmas.Nat.{leading_top}
use Rattle.std.specs.Float.{binary64}
use Rattle.sqrt.specs.Sqrt.{root_units, whole_root}
use Rattle.sqrt.specs.WholeRoot.{whole, root_ge, root-lt}
use Rattle.sqrt.specs.RootBits.{root_bits, Sized}
use Rattle.sqrt.specs.Rounded.{root-bits}

-- ---- to 53 digits
pub record Normal (m z : ℕ) : Type 0 where
  pub shift : z ≤ 52
  pub low : 2 ^ 52 ≤ m * 2 ^ z
  pub high : m * 2 ^ z < 2 ^ 53

to-53 : (m j z : ℕ) → 2 ^ j ≤ m → m < 2 ^ suc j → j + z ≡ 52 → Normal m z
to-53 m j z l h e = record {
  shift = omega arith;
  low = le_trans (le_of_eq (ap (λ (x : ℕ). 2 ^ x) (sym e) ∙ pow-add 2 j z)) (mul-le-mul_right (2 ^ z) l);
  high = lt_of_lt_of_le (mul-lt-mul_of_pos_right h (pow_pos z)) (le_of_eq (sym (pow-add 2 (suc j) z) ∙ ap (λ (x : ℕ). 2 ^ x) one_up));
}
  where
    one_up : suc j + z ≡ 53
    one_up = omega arith

pub normal : (m : ℕ) → 0 < m → m < 2 ^ 53 → (11 ≤ count_leading_zeros 64 m) × Normal m (count_leading_zeros 64 m - 11)
normal m p h =
    let t = leading_top 64 m p (omega arith) in
    let j = t.0 in
    let k : j < 53 = lt_of_not-le (λ (x : 53 ≤ j). lt_irrefl m (lt_of_lt_of_le h (le_trans (pow_mono {i = 53} {j = j} x) t.2))) in
    (omega (arith, t.1), to-53 m j (count_leading_zeros 64 m - 11) t.2 t.3 (omega (arith, t.1)))

-- ---- to an even power
one-or-two : (p : ℕ) → (2 ^ (p % 2) ≡ 1) ⊎ (2 ^ (p % 2) ≡ 2)
one-or-two p = go (p % 2) (omega arith)
  where
    go : (r : ℕ) → r < 2 → (2 ^ r ≡ 1) ⊎ (2 ^ r ≡ 2)
    go zero h = inl refl
    go (suc zero) h = inr refl
    go (suc (suc r)) h = absurd (omega arith)

-- with A of 53 digits and P a 1 or a 2, the shifts lose nothing
shifted : (A P : ℕ) → 2 ^ 52 ≤ A → A < 2 ^ 53 → (P ≡ 1) ⊎ (P ≡ 2) → (A % 2 ^ 64 * P % 2 ^ 64 ≡ A * P) × (2 ^ 52 ≤ A * P) × (A * P ≤ 2 ^ 54 - 2)
shifted A P l h (inl e) = rw e (omega arith, omega arith, omega arith)
shifted A P l h (inr e) = rw e (omega arith, omega arith, omega arith)

join : (m a b : ℕ) → m * 2 ^ a * 2 ^ b ≡ m * 2 ^ (a + b)
join m a b = mul_assoc m (2 ^ a) (2 ^ b) ∙ ap (λ (x : ℕ). m * x) (sym (pow-add 2 a b))

powers : (m z r j e : ℕ) → z + r + 54 + (j + j) ≡ e + 106 → m * 2 ^ e * 4 ^ 53 ≡ m * 2 ^ z * 2 ^ r * 2 ^ 54 * (2 ^ j * 2 ^ j)
powers m z r j e h =
    join m e 106
    ∙ ap (λ (x : ℕ). m * 2 ^ x) (sym h)
    ∙ sym (ap (λ (x : ℕ). x * 2 ^ 54 * (2 ^ j * 2 ^ j)) (join m z r) ∙ ap (λ (x : ℕ). x * (2 ^ j * 2 ^ j)) (join m (z + r) 54) ∙ ap (λ (x : ℕ). m * 2 ^ (z + r + 54) * x) (sym (pow-add 2 j j)) ∙ join m (z + r + 54) (j + j))

-- the whole root of big * 2 ^ 54 has 54 digits, and is not the last number that has
pub digits : (big base : ℕ) → Sized big base → (2 ^ 53 ≤ whole_root (big * 2 ^ 54)) × (whole_root (big * 2 ^ 54) < 2 ^ 54 - 1)
digits big base s = (root_ge (big * 2 ^ 54) (2 ^ 53) (omega arith), root-lt (big * 2 ^ 54) (2 ^ 54 - 1) (omega arith))

-- a root's pattern is above those of zero and of the floats below 2 ^ -1022, and below infinity's
pub in_range : (big base : ℕ) → Sized big base → (2 ^ 52 ≤ root_bits big base) × (root_bits big base < 2047 * 2 ^ 52)
in_range big base s = let d = digits big base s in (omega (arith, d.0), omega (arith, d.1, s.small))

module _ (m e z : ℕ) (n : Normal m z) where
  -- as the code has them, with their shifts
  abbrev pub half : ℕ
  half = (e + 54 - z) / 2

  abbrev pub big : ℕ
  big = (m * 2 ^ z) % 2 ^ 64 * 2 ^ ((e + 54 - z) % 2) % 2 ^ 64

  facts : (big ≡ m * 2 ^ z * 2 ^ ((e + 54 - z) % 2)) × (2 ^ 52 ≤ m * 2 ^ z * 2 ^ ((e + 54 - z) % 2)) × (m * 2 ^ z * 2 ^ ((e + 54 - z) % 2) ≤ 2 ^ 54 - 2)
  facts = shifted (m * 2 ^ z) (2 ^ ((e + 54 - z) % 2)) n.low n.high (one-or-two (e + 54 - z))

  pub scale : m * 2 ^ e * 4 ^ 53 ≡ big * 2 ^ 54 * (2 ^ (half - 1) * 2 ^ (half - 1))
  scale = rw facts.0 (powers m z ((e + 54 - z) % 2) (half - 1) e (omega (arith, n.shift)))

  pub sized : (base : ℕ) → base ≤ 1533 * 2 ^ 52 → Sized big base
  sized base h = record { low = rw facts.0 facts.1; high = rw facts.0 facts.2; small = h }

  pub answer : e < 2046 → Sized big ((half + 484) * 2 ^ 52) × (root_units (m * 2 ^ e) ≡ from_bits binary64 (root_bits big ((half + 484) * 2 ^ 52)))
  answer he =
      let q = whole_root (big * 2 ^ 54) in
      let s = sized ((half + 484) * 2 ^ 52) (omega arith) in
      let d = digits big ((half + 484) * 2 ^ 52) s in
      let back : half - 1 + 1 ≡ half = omega (arith, n.shift) in (
        s,
        root-bits (m * 2 ^ e) (big * 2 ^ 54) (half - 1) q scale (omega arith) (whole (big * 2 ^ 54)) d.0 d.1 (omega arith) ∙ ap (λ (x : ℕ). from_bits binary64 ((x + 484) * 2 ^ 52 + (q + 1) / 2)) back,
      )
