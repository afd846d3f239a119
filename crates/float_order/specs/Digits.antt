-- What `round` goes by: what a comparison of two numbers gives, how many binary digits a number has,
-- and how far `closest n u`, the nearest whole number to n / u, is off.
use Rattle.std.specs.Prelude.{◌≡◌, ℕ, suc, ◌+◌, ◌*◌, ◌/◌, ◌%◌, ◌^◌, ◌<◌, ◌≤◌, not, T, ◌==◌, refl}
use Rattle.std.proofs.Common.{sym, ap, ◌∙◌, subst, le_trans, le_of_eq, lt_of_lt_of_le, lt_of_not-le, lt_irrefl, mul-le-mul_right, div-add-mod', mod-lt, mul-div_cancel, arith, eqb→eq, leb→le, pow-add, pow_mono}
use Prim.Native.Nat.{compare, Ordering}
use Rattle.std.proofs.Math.Nat.{mul-mod_left}
use Rattle.std.proofs.Math.Dec.{is_le, compare_is_eq, eqb_refl, nleb→lt}
use Rattle.std.proofs.Math.Arith.{lt_of_le-ne}
use Rattle.std.specs.Float.Ieee.{size, nearest}
use Rattle.std.specs.Float.Ieee.Digits.{size-lt, size-le}
use Rattle.std.specs.Float.Ieee.Nearest.{closest}

-- ---- what `compare` gives
abbrev Cmp : Ordering → ℕ → ℕ → Type 0
Cmp Ordering.lt a b = a < b
Cmp Ordering.eq a b = a ≡ b
Cmp Ordering.gt a b = b < a

cmp : (a b : ℕ) → Cmp (compare a b) a b
cmp a b = go (compare a b) (leb→le a b) (nleb→lt a b) (eqb→eq a b) (λ (e : a ≡ b). subst (λ (x : ℕ). T (a == x)) e (eqb_refl a))
  where
    go : (o : Ordering) → (T (is_le o) → a ≤ b) → (T (not (is_le o)) → b < a) → (T (compare_is_eq o) → a ≡ b) → (a ≡ b → T (compare_is_eq o)) → Cmp o a b
    go Ordering.lt h k e n = lt_of_le-ne (h tt) n
    go Ordering.eq h k e n = e tt
    go Ordering.gt h k e n = k tt

pub compare-lt : (a b : ℕ) → a < b → compare a b ≡ Ordering.lt
compare-lt a b h = go (compare a b) (cmp a b)
  where
    go : (o : Ordering) → Cmp o a b → o ≡ Ordering.lt
    go Ordering.lt c = refl
    go Ordering.eq c = absurd (omega arith)
    go Ordering.gt c = absurd (omega arith)

pub compare-gt : (a b : ℕ) → b < a → compare a b ≡ Ordering.gt
compare-gt a b h = go (compare a b) (cmp a b)
  where
    go : (o : Ordering) → Cmp o a b → o ≡ Ordering.gt
    go Ordering.lt c = absurd (omega arith)
    go Ordering.eq c = absurd (omega arith)
    go Ordering.gt c = refl

pub compare-eq : (a : ℕ) → compare a a ≡ Ordering.eq
compare-eq a = go (compare a a) (cmp a a)
  where
    go : (o : Ordering) → Cmp o a a → o ≡ Ordering.eq
    go Ordering.lt c = absurd (omega arith)
    go Ordering.eq c = refl
    go Ordering.gt c = absurd (omega arith)

-- ---- how many digits
pub size_is : (n d : ℕ) → 2 ^ d ≤ n → n < 2 ^ suc d → size n ≡ suc d
size_is n d l h =
    let a : size n ≤ suc d = size-le n (suc d) h in
    let b : d < size n = lt_of_not-le (λ (s : size n ≤ d). lt_irrefl n (lt_of_lt_of_le (size-lt n) (le_trans (pow_mono s) l))) in
    omega arith

pub size-shifted : (r d k : ℕ) (n : ℕ) → 2 ^ d ≤ r → r < 2 ^ suc d → r * 2 ^ k ≤ n → n < (r + 1) * 2 ^ k → size n ≡ suc d + k
size-shifted r d k n l h a b =
    size_is n (d + k) (le_trans (le_of_eq (pow-add 2 d k)) (le_trans (mul-le-mul_right (2 ^ k) l) a))
    (lt_of_lt_of_le b (le_trans (mul-le-mul_right {m = r + 1} {n = 2 ^ suc d} (2 ^ k) (omega arith)) (le_of_eq (sym (pow-add 2 (suc d) k) ∙ ap (λ (x : ℕ). 2 ^ x) (omega arith)))))
    ∙ omega arith

-- ---- n / u to the nearest whole number: half a unit off at most
half : (o : Ordering) (q r u n : ℕ) → Cmp o (r * 2) u → r < u → q * u + r ≡ n → (nearest q o * u * 2 ≤ n * 2 + u) × (n * 2 ≤ nearest q o * u * 2 + u)
half Ordering.lt q r u n c l e = omega arith
half Ordering.eq q r u n c l e = omega (arith, mul-le-mul_right {m = q % 2} {n = 1} u (omega arith))
half Ordering.gt q r u n c l e = omega arith

pub closest-near : (n u : ℕ) → 0 < u → (closest n u * u * 2 ≤ n * 2 + u) × (n * 2 ≤ closest n u * u * 2 + u)
closest-near n u h = half (compare (n % u * 2) u) (n / u) (n % u) u n (cmp (n % u * 2) u) (mod-lt n h) (div-add-mod' n u)

-- a whole number stays
pub closest-whole : (x n u : ℕ) → 0 < u → n ≡ x * u → closest n u * u ≡ n
closest-whole x n u h e =
    go (compare (n % u * 2) u) (n / u) (n % u) (cmp (n % u * 2) u) (ap (λ (z : ℕ). z / u) e ∙ mul-div_cancel x h) (ap (λ (z : ℕ). z % u) e ∙ mul-mod_left x u)
  where
    go : (o : Ordering) (q r : ℕ) → Cmp o (r * 2) u → q ≡ x → r ≡ 0 → nearest q o * u ≡ n
    go Ordering.lt q r c i j = ap (λ (z : ℕ). z * u) i ∙ sym e
    go Ordering.eq q r c i j = absurd (omega arith)
    go Ordering.gt q r c i j = absurd (omega arith)
