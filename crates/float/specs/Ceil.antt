-- The ceiling of a value that `f64` holds is the least whole number that is not below it. And `ceil` keeps the order, of any values.
use Rattle.std.specs.Prelude.{◌≡◌, ℕ, zero, suc, ◌+◌, ◌-◌, ◌*◌, ◌/◌, ◌%◌, ◌^◌, ◌<◌, ◌≤◌, Bool, true, false, ◌&&◌, T, ℤ, pos, negsuc, ◌==◌, nat_eq, nat_le, nat_lt, refl, Float}
use Rattle.std.proofs.Common.{sym, ap, ◌∙◌, le_trans as nat-le-trans, add-zero, mul-one, add-mul, div-one, div-le_self, div-mul-le_self, div-add-mod', div-lt_iff_lt-mul, le-div_iff_mul-le, le_of_mul-le-mul_right, le-mul_of_pos_right, arith, eqb→eq, ltb→lt, pow_pos}
use Rattle.std.proofs.Math.Nat.{div-eq_of_lt-le, lt-div-mul-add, mul-mod_left}
use Rattle.std.specs.Float.{nan, inf, fin, binary64}
use Rattle.std.specs.Float.Ieee.{up, down, le, fits}
use Rattle.std.specs.Float.Ieee.Fits.{and_l, and_r, eq→eqb, down_pos, nan-fits, inf-fits, round-fits}
use Rattle.std.specs.Float.Ieee.Exact.{HasValue}
use Rattle.std.specs.Float.Ieee.Back.{round_whole, whole_unique}
use Rattle.std.specs.Float.Ieee.Scale.{finite}
use Rattle.float_order.specs.Order.{gain, loss, gain-mul, loss-mul, ordered, le→cross, cross→le, le_trans, le-ordered-r, bottom-le, le-top}
use Rattle.float_order.specs.Round.{round-mono-signed, round-ordered}
use Rattle.float_order.specs.Range.{In}
use Rattle.float_order.specs.Exact.{self-round}
use Rattle.float.specs.Float.{upward, ceil}

-- a finite value with no fraction
abbrev pub is_whole : Float → Bool
is_whole nan = false
is_whole (inf s) = false
is_whole (fin s m e) = m * up e % down e == 0

-- ---- the ceiling of a fraction: a sign and n / d
-- it is not below it
upward-above : (s : Bool) (n d : ℕ) → 0 < d → gain s n + loss s (upward s n d) * d ≤ gain s (upward s n d) * d + loss s n
upward-above false n d D = omega (arith, lt-div-mul-add {a = n + (d - 1)} D)
upward-above true n d D = omega (arith, div-mul-le_self n d)

-- and at most every whole number, a sign t and q, that is not below it
upward-least : (s : Bool) (n d : ℕ) (t : Bool) (q : ℕ) → 0 < d → gain s n + loss t q * d ≤ gain t q * d + loss s n → gain s (upward s n d) + loss t q ≤ gain t q + loss s (upward s n d)
upward-least false n d false q D h = let k : (n + (d - 1)) / d < q + 1 = (div-lt_iff_lt-mul D).1 (omega (arith, add-mul q 1 d)) in omega arith
upward-least false n d true q D h =
    let k : (n + (d - 1)) / d < 1 = (div-lt_iff_lt-mul D).1 (omega arith) in
    let z : q ≤ 0 = le_of_mul-le-mul_right {m = q} {n = 0} {k = d} (omega arith) D in
    omega arith
upward-least true n d false q D h = omega arith
upward-least true n d true q D h = let k : q ≤ n / d = (le-div_iff_mul-le D).1 (omega arith) in omega arith

pub upward-whole : (s : Bool) (n d : ℕ) → 0 < d → n % d ≡ 0 → upward s n d ≡ n / d
upward-whole true n d D z = refl
upward-whole false n d D z = div-eq_of_lt-le {k = n / d} d {m = n + (d - 1)} (omega (arith, div-mul-le_self n d)) (omega (arith, add-mul (n / d) 1 d, div-add-mod' n d))

-- ---- whole numbers as floats, not rounded
abbrev whole : Bool → ℕ → Float
whole s q = fin s q (pos 0)

whole-up : (s : Bool) (m : ℕ) (e : ℤ) → T (le (fin s m e) (whole s (upward s (m * up e) (down e))))
whole-up s m e = cross→le (fin s m e) (whole s (upward s (m * up e) (down e))) tt tt (rw (mul-one (upward s (m * up e) (down e))) (omega (arith, upward-above s (m * up e) (down e) (down_pos e))))

least-up : (s : Bool) (m : ℕ) (e : ℤ) (t : Bool) (q : ℕ) → T (le (fin s m e) (whole t q))
    → gain s (upward s (m * up e) (down e)) + loss t q ≤ gain t q + loss s (upward s (m * up e) (down e))
least-up s m e t q h = upward-least s (m * up e) (down e) t q (down_pos e) (let k = rw (mul-one q) at (le→cross (fin s m e) (whole t q) tt tt h) in omega arith)

-- ---- it keeps the order
pub ceil-ordered : (x : Float) → T (ordered x) → T (ordered (ceil x))
unfolding ceil
ceil-ordered nan p = p
ceil-ordered (inf s) p = tt
ceil-ordered (fin s m e) p = round-ordered binary64 s (upward s (m * up e) (down e)) 1

fin-mono : (s : Bool) (m : ℕ) (e : ℤ) (t : Bool) (n : ℕ) (d : ℤ) → T (le (fin s m e) (fin t n d)) → T (le (ceil (fin s m e)) (ceil (fin t n d)))
unfolding ceil
fin-mono s m e t n d h =
    let p = upward s (m * up e) (down e) in
    let q = upward t (n * up d) (down d) in
    round-mono-signed binary64 s p 1 t q 1 (pow_pos 0) (pow_pos 0) (omega (arith, least-up s m e t q (le_trans (fin s m e) (fin t n d) (whole t q) h (whole-up t n d))))

pub ceil-mono : (x y : Float) → T (le x y) → T (le (ceil x) (ceil y))
unfolding le ceil
ceil-mono nan y h = absurd h
ceil-mono (inf true) y h = bottom-le (ceil y) (ceil-ordered y (le-ordered-r (inf true) y h))
ceil-mono (inf false) nan h = absurd h
ceil-mono (inf false) (inf t) h = h
ceil-mono (inf false) (fin t n d) h = absurd h
ceil-mono (fin s m e) nan h = absurd h
ceil-mono (fin s m e) (inf true) h = absurd h
ceil-mono (fin s m e) (inf false) h = le-top (ceil (fin s m e)) (ceil-ordered (fin s m e) tt)
ceil-mono (fin s m e) (fin t n d) h = fin-mono s m e t n d h

pub ceil-at : {a b x : Float} → In a b x → In (ceil a) (ceil b) (ceil x)
ceil-at {a} {b} {x} h = record { low = ceil-mono a x h.low; high = ceil-mono x b h.high }

-- ---- of a value that the format holds it is exact
-- a significand has 53 digits
pub significand : (s : Bool) (m : ℕ) (e : ℤ) → T (fits binary64 (fin s m e)) → m < 2 ^ 53
unfolding fits
significand s zero e h = pow_pos 53
significand s (suc m) e h =
    let a = nat_eq (suc m % 2) 1 in
    let b = nat_lt (suc m) (2 ^ 53) in
    let c = nat_le (down e) (2 ^ 1074) in
    let d = nat_lt (suc m * up e) (2 ^ 1024 * down e) in
    ltb→lt (suc m) (2 ^ 53) (and_r a b (and_l (a && b) c (and_l (a && b && c) d h)))

upward-le : (s : Bool) (n d : ℕ) → 0 < d → upward s n d ≤ n
upward-le true n d D = div-le_self n d
upward-le false n d D = let k = upward-least false n d false n D (omega (arith, le-mul_of_pos_right n D)) in omega arith

upward-one : (s : Bool) (n : ℕ) → upward s n 1 ≡ n
upward-one true n = div-one n
upward-one false n = div-one (n + 0) ∙ add-zero n

ceil-value : (s : Bool) (m : ℕ) (e : ℤ) → T (fits binary64 (fin s m e)) → HasValue (ceil (fin s m e)) s (upward s (m * up e) (down e)) 1
unfolding ceil
ceil-value s m (pos k) h = rw (upward-one s (m * 2 ^ k), self-round binary64 s m (pos k) h) (refl, refl)
ceil-value s m (negsuc k) h =
    round_whole binary64 s (upward s (m * 1) (2 ^ suc k)) (nat-le-trans (upward-le s (m * 1) (2 ^ suc k) (pow_pos (suc k))) (omega (arith, significand s m (negsuc k) h)))

pub ceil-fits : (x : Float) → T (fits binary64 (ceil x))
unfolding ceil
ceil-fits nan = nan-fits binary64
ceil-fits (inf s) = inf-fits binary64 s
ceil-fits (fin s m e) = round-fits binary64 s (upward s (m * up e) (down e)) 1

-- a whole number stays
pub ceil-whole : (x : Float) → T (fits binary64 x) → T (is_whole x) → ceil x ≡ x
ceil-whole nan h w = absurd w
ceil-whole (inf s) h w = absurd w
ceil-whole (fin s m e) h w =
    let z : m * up e % down e ≡ 0 = eqb→eq (m * up e % down e) 0 w in
    whole_unique binary64 (ceil (fin s m e)) (fin s m e) s (upward s (m * up e) (down e)) (ceil-fits (fin s m e)) h (ceil-value s m e h)
    (refl, rw (upward-whole s (m * up e) (down e) (down_pos e) z) (omega (arith, div-add-mod' (m * up e) (down e))))

-- ---- the least whole number
value-whole : (x : Float) (s : Bool) (q : ℕ) → HasValue x s q 1 → T (is_whole x)
value-whole nan s q v = v
value-whole (inf t) s q v = v
value-whole (fin t m e) s q v = eq→eqb (ap (λ (z : ℕ). z % down e) (sym (mul-one (m * up e)) ∙ v.1) ∙ mul-mod_left q (down e))

value_in : (x : Float) (s : Bool) (q : ℕ) → HasValue x s q 1 → In (whole s q) (whole s q) x
value_in nan s q v = absurd v
value_in (inf t) s q v = absurd v
value_in (fin t m e) s q v =
    let n : m * up e ≡ q * down e = sym (mul-one (m * up e)) ∙ v.1 in
    rw v.0
    (record {
      low = cross→le (whole s q) (fin s m e) tt tt (rw (n, mul-one q, ← gain-mul s q (down e), ← loss-mul s q (down e)) (omega arith));
      high = cross→le (fin s m e) (whole s q) tt tt (rw (n, mul-one q, ← gain-mul s q (down e), ← loss-mul s q (down e)) (omega arith));
    })

whole-value : (s : Bool) (m : ℕ) (e : ℤ) → T (is_whole (fin s m e)) → HasValue (fin s m e) s (m * up e / down e) 1
whole-value s m e w = (refl, omega (arith, div-add-mod' (m * up e) (down e), eqb→eq (m * up e % down e) 0 w))

-- c is the least whole number that is not below x
pub record Ceiling (x c : Float) : Type 0 where
  pub whole : T (is_whole c)
  pub above : T (le x c)
  pub least : (z : Float) → T (is_whole z) → T (le x z) → T (le c z)

least : (s : Bool) (m : ℕ) (e : ℤ) (z : Float) → T (is_whole z) → T (le (fin s m e) z) → T (le (whole s (upward s (m * up e) (down e))) z)
least s m e nan w h = absurd w
least s m e (inf t) w h = absurd w
least s m e (fin t n d) w h =
    let p = upward s (m * up e) (down e) in
    let q = n * up d / down d in
    let Z = value_in (fin t n d) t q (whole-value t n d w) in
    let k = least-up s m e t q (le_trans (fin s m e) (fin t n d) (whole t q) h Z.high) in
    le_trans (whole s p) (whole t q) (fin t n d) (cross→le (whole s p) (whole t q) tt tt (rw (mul-one p, mul-one q) (omega arith))) Z.low

pub ceiling : (x : Float) → T (finite x) → T (fits binary64 x) → Ceiling x (ceil x)
ceiling nan p h = absurd p
ceiling (inf s) p h = absurd p
ceiling (fin s m e) p h =
    let q = upward s (m * up e) (down e) in
    let c = ceil (fin s m e) in
    let v = ceil-value s m e h in
    let C = value_in c s q v in
    record {
      whole = value-whole c s q v;
      above = le_trans (fin s m e) (whole s q) c (whole-up s m e) C.low;
      least = λ z w k. le_trans c (whole s q) z C.high (least s m e z w k);
    }
