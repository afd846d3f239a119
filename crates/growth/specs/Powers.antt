-- Fractions that are at most an nth root, said of whole numbers, and how such bounds multiply.
use Rattle.std.specs.Prelude.{◌≡◌, ℕ, zero, suc, ◌*◌, ◌^◌, ◌≤◌, ◌<◌}
use Rattle.std.proofs.Common.{le_trans, le_of_eq, mul_comm, mul_assoc, mul_left_comm, mul-le-mul, mul-le-mul_left, mul-le-mul_right, le_of_mul-le-mul_right, pow-suc}
use Rattle.std.proofs.Math.Nat.{one-le-pow, pow-zero, pow-le-pow_left}

ruleset ac = (mul_assoc, mul_comm, mul_left_comm)

mul-pow : (a b n : ℕ) → (a * b) ^ n ≡ a ^ n * b ^ n
mul-pow a b zero = simp pow-zero
mul-pow a b (suc n) = simp (pow-suc, mul-pow a b n) (simp ac)

module _ (n : ℕ) where
  -- (x / s) ^ n is at most q / p
  pub record AtMost (x s q p : ℕ) : Type 0 where
    pub law : x ^ n * p ≤ q * s ^ n

  -- so is (y / z) ^ n where y / z is at most x / s, shown by a common factor u
  pub less : {x s q p : ℕ} (u y z : ℕ) → AtMost x s q p → 0 < u → y * u ≤ x → s ≤ z * u → AtMost y z q p
  less {x} {s} {q} {p} u y z h U l m = record {
    law =
        let e : y ^ n * p * u ^ n ≡ (y * u) ^ n * p = rw mul-pow (simp ac) in
        let k : (y * u) ^ n * p ≤ q * (z * u) ^ n = le_trans (mul-le-mul_right p (pow-le-pow_left l n)) (le_trans h.law (mul-le-mul_left q (pow-le-pow_left m n))) in
        let f : q * (z * u) ^ n ≡ q * z ^ n * u ^ n = rw mul-pow (simp ac) in
        le_of_mul-le-mul_right (le_trans (le_of_eq e) (le_trans k (le_of_eq f))) (one-le-pow n u U);
  }

  product : {x s q p r t v u : ℕ} → AtMost x s q p → AtMost r t v u → AtMost (x * r) (s * t) (q * v) (p * u)
  product {x} {s} {q} {p} {r} {t} {v} {u} h k = record {
    law =
        let e : (x * r) ^ n * (p * u) ≡ x ^ n * p * (r ^ n * u) = rw mul-pow (simp ac) in
        let f : q * s ^ n * (v * t ^ n) ≡ q * v * (s * t) ^ n = rw mul-pow (simp ac) in
        le_trans (le_of_eq e) (le_trans (mul-le-mul h.law k.law) (le_of_eq f));
  }

  -- from the ith power of a / b to the next
  pub next : {x s a b r t : ℕ} (u y z i : ℕ) → AtMost x s (a ^ i) (b ^ i) → AtMost r t a b → 0 < u → y * u ≤ x * r → s * t ≤ z * u → AtMost y z (a ^ suc i) (b ^ suc i)
  next {a = a} {b = b} u y z i h k U l m = rw (pow-suc a i, pow-suc b i) (less u y z (product h k) U l m)
