-- The overuse time of a reached link: how far the previous group's last send instant lies after an anchor, which stays while the overuse lasts. An overuse
-- begins halfway between two groups, and each later group adds the time since the one before. So it never passes the largest instant.
use Rattle.std.specs.Prelude.{ℕ, ◌+◌, ◌-◌, ◌/◌, ◌^◌, ◌≤◌, ◌≡◌, ltb}
use native.Mathlib.Omega.{arith}
use Rattle.std.proofs.Math.Path.{refl}
use borrow.Author.Tests.{le-leb, ltb-true, ltb-false}
use Rattle.time.specs.Time as Time
use Rattle.time.specs.Time.{limit, negative, positive, difference, add_limited, div_limited}
use Rattle.time.specs.Laws.{limited-within}
use Rattle.time.specs.declared.TimeDelta.{TimeDelta}
use Rattle.time.specs.declared.TimeDelta.TheVariants.{NegativeInfinity, Negative, Positive, PositiveInfinity}
use Rattle.bool_laws.specs.Bools.{cases}

-- ---- the claims
-- the latest send instant of a group: rounding to ms adds half of one at most
abbrev pub most_send : ℕ
most_send = 10 ^ 18 + 500000

-- t is s - a; a zero of either sign
abbrev pub Since : ℕ → ℕ → TimeDelta → Type 0
Since s a NegativeInfinity = ⊥
Since s a (Negative n) = s + n ≡ a
Since s a (Positive n) = s ≡ a + n
Since s a PositiveInfinity = ⊥

pub record Anchored (s : ℕ) (t : TimeDelta) : Type 0 where
  pub anchor : ℕ
  pub most : anchor ≤ most_send
  pub since : Since s anchor t

-- ---- two groups, the last of which were sent at s and s'
module _ (s s' : ℕ) (h : s ≤ most_send) (k : s' ≤ most_send) where
  pub begins : Anchored s' (Time.div (difference s' s) 2)
  unfolding Time.div div_limited difference
  begins =
      cases (λ d. Anchored s' (Time.div d 2)) (ltb s' s)
      (λ e. rw (limited-within (Negative (s - s')) (omega arith)) (record { anchor = s' + (s - s') / 2; most = omega (arith, ltb-true s' s e); since = refl }))
      (λ e.
      rw (limited-within (Positive (s' - s)) (omega arith))
      (record { anchor = s' - (s' - s) / 2; most = omega arith; since = omega (arith, ltb-false s' s e) }))

  pub lasts : (t : TimeDelta) → Anchored s t → Anchored s' (Time.add t (difference s' s))
  unfolding Time.add add_limited difference negative positive
  lasts NegativeInfinity r = absurd r.since
  lasts (Negative n) r =
      let i : s + n ≡ r.anchor = r.since in
      let m = r.most in
      cases (λ d. Anchored s' (Time.add (Negative n) d)) (ltb s' s)
      (λ e.
      let l = ltb-true s' s e in
      rw (limited-within (Negative n) (omega arith), limited-within (Negative (s - s')) (omega arith), le-leb (n + (s - s')) limit (omega arith))
      (record { anchor = r.anchor; most = m; since = omega arith }))
      (λ e.
      let l = ltb-false s' s e in
      rw (limited-within (Negative n) (omega arith), limited-within (Positive (s' - s)) (omega arith))
      (cases (Anchored s') (ltb (s' - s) n)
      (λ f. record { anchor = r.anchor; most = m; since = omega (arith, ltb-true (s' - s) n f) })
      (λ f. record { anchor = r.anchor; most = m; since = omega (arith, ltb-false (s' - s) n f) })))
  lasts (Positive n) r =
      let i : s ≡ r.anchor + n = r.since in
      let m = r.most in
      cases (λ d. Anchored s' (Time.add (Positive n) d)) (ltb s' s)
      (λ e.
      let l = ltb-true s' s e in
      rw (limited-within (Positive n) (omega arith), limited-within (Negative (s - s')) (omega arith))
      (cases (Anchored s') (ltb n (s - s'))
      (λ f. record { anchor = r.anchor; most = m; since = omega (arith, ltb-true n (s - s') f) })
      (λ f. record { anchor = r.anchor; most = m; since = omega (arith, ltb-false n (s - s') f) })))
      (λ e.
      let l = ltb-false s' s e in
      rw (limited-within (Positive n) (omega arith), limited-within (Positive (s' - s)) (omega arith), le-leb (n + (s' - s)) limit (omega arith))
      (record { anchor = r.anchor; most = m; since = omega arith }))
  lasts PositiveInfinity r = absurd r.since
