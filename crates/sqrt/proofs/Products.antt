-- Whether the whole root of big * 2 ^ 54, halved and rounded up, is q: by the squares of 2 * q - 1 and 2 * q + 1, which are odd and so no multiple of 2 ^ 54.
use Rattle.std.proofs.Common.{◌≡◌, ℕ, ◌+◌, ◌-◌, ◌*◌, ◌/◌, ◌%◌, ◌^◌, ◌<◌, ◌≤◌, ◌&&◌, eqb, ltb, leb, ap, mul-le-mul, arith, le→leb, eqb→eq, ltb→lt, lt→ltb, leb→le}
use lib.Ieee.Fits.{and_i, and_l, and_r, eq→eqb}
use Rattle.bool_laws.specs.Bools.{same-holds}
use Rattle.sqrt.specs.Sqrt.{whole_root}
use Rattle.sqrt.specs.WholeRoot.{whole, root_ge, square-odd}
use Rattle.sqrt.specs.RootBits.{root_bits}

-- ---- an odd number is at most the root exactly if its square, without the low 54 digits, is below big
at-most : (big s : ℕ) → s * s / 2 ^ 54 < big → s ≤ whole_root (big * 2 ^ 54)
at-most big s h = root_ge (big * 2 ^ 54) s (omega arith)

below : (big s : ℕ) → s % 2 ≡ 1 → s ≤ whole_root (big * 2 ^ 54) → s * s / 2 ^ 54 < big
below big s o h =
    let e : s ≡ 2 * (s / 2) + 1 = omega arith in
    omega (arith, mul-le-mul h h, (whole (big * 2 ^ 54)).0, square-odd (s / 2), ap (λ (x : ℕ). x * x) e)

module _ (big base b : ℕ) (h : base < b) where
  abbrev lower : ℕ
  lower = 2 * (b - base) - 1

  abbrev upper : ℕ
  upper = 2 * (b - base) + 1

  found : lower * lower / 2 ^ 54 < big → big ≤ upper * upper / 2 ^ 54 → b ≡ root_bits big base
  found l u =
      let r : ¬ (upper ≤ whole_root (big * 2 ^ 54)) = λ x. omega (arith, below big upper (omega arith) x) in
      omega (arith, at-most big lower l)

  meets : b ≡ root_bits big base → (lower * lower / 2 ^ 54 < big) × (big ≤ upper * upper / 2 ^ 54)
  meets e =
      let n : ¬ (upper * upper / 2 ^ 54 < big) = λ x. omega (arith, at-most big upper x) in
      (below big lower (omega arith) (omega arith), omega arith)

  pub tested : (ltb (lower * lower / 2 ^ 54) big && leb big (upper * upper / 2 ^ 54)) ≡ eqb b (root_bits big base)
  tested =
      let l = lower * lower / 2 ^ 54 in
      let u = upper * upper / 2 ^ 54 in
      same-holds (ltb l big && leb big u) (eqb b (root_bits big base))
      (λ t. eq→eqb (found (ltb→lt l big (and_l (ltb l big) (leb big u) t)) (leb→le big u (and_r (ltb l big) (leb big u) t))))
      (λ t. let m = meets (eqb→eq b (root_bits big base) t) in and_i (ltb l big) (leb big u) (lt→ltb l big m.0) (le→leb big u m.1))
