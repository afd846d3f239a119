-- std's `Duration` holds from 0 to below 2 ^ 64 seconds: what it rounds, and what is past an end.
use Rattle.std.specs.Prelude.{Result, Ok, Err}
use Rattle.std.proofs.Common.{◌≡◌, ℕ, ◌-◌, ◌*◌, ◌^◌, ◌<◌, min, Bool, true, false, T, pos, refl, sym, arith}
use Rattle.std.specs.Float.{Float, nan, inf, fin, binary64}
use Rattle.std.specs.Float.Ieee.{up, down, le, lt, eq, of_bits}
use Rattle.std.specs.Float.Ieee.Fits.{down_pos}
use Rattle.std.specs.Float.Ieee.Nearest.{closest, closest_same}
use Rattle.std.specs.Result.{OkIff, result_unwrap_or}
use Rattle.std.specs.Duration.{FitsDurationSecs, nanos_of_secs}
use Rattle.float_order.specs.Order.{ordered, is_true, lt-left→le, lt-taken→le, le-ordered-r}
use Rattle.float_order.specs.Ops.{zero₊, nonneg-under}
use Rattle.seconds.specs.Seconds.{from_secs_f64}
use Rattle.seconds.specs.Laws.{ns-most, ns-mono}

-- a u64 where it holds the number, and its last one where it doesn't
pub held : {E : Type 0} (n : ℕ) (r : Result ℕ E) → OkIff r (n < 2 ^ 64) n → result_unwrap_or r (2 ^ 64 - 1) ≡ min n (2 ^ 64 - 1)
held n (Ok x) h = omega arith
held n (Err e) h = omega arith

none-of : (a d : ℕ) → 0 < d → a ≡ 0 → closest (a * 1000000000) d ≡ 0
none-of a d D z = rw z (closest_same 0 d 0 1 D (omega arith) (omega arith))

pub within : (x : Float) → FitsDurationSecs x → min (nanos_of_secs x) (2 ^ 64 - 1) ≡ from_secs_f64 x
unfolding le lt eq from_secs_f64
within nan h = absurd h.0
within (inf true) h = absurd h.0
within (inf false) h = absurd h.1
within (fin true m e) h = let z : closest (m * up e * 1000000000) (down e) ≡ 0 = none-of (m * up e) (down e) (down_pos e) (nonneg-under (fin true m e) tt h.0) in omega arith
within (fin false m e) h = refl

-- 2 ^ 64 seconds
abbrev end : Float
end = fin false 1 (pos 64)

full : from_secs_f64 end ≡ 2 ^ 64 - 1
unfolding from_secs_f64
full = refl

empty : from_secs_f64 zero₊ ≡ 0
unfolding from_secs_f64
empty = refl

at-most-zero : (x : Float) → T (ordered x) → lt zero₊ x ≡ false → 0 ≡ from_secs_f64 x
at-most-zero x p k = omega (arith, empty, ns-mono x zero₊ (lt-left→le zero₊ x tt p k))

zero64 : of_bits binary64 0 ≡ zero₊
unfolding of_bits
zero64 = refl

pub none : (x : Float) → lt (of_bits binary64 0) x ≡ false → 0 ≡ from_secs_f64 x
unfolding from_secs_f64
none nan k = refl
none (inf s) k = at-most-zero (inf s) tt (rw zero64 at k)
none (fin s m e) k = at-most-zero (fin s m e) tt (rw zero64 at k)

past : (x : Float) → T (ordered x) → T (le zero₊ x) → (b : Bool) → b ≡ lt x end → ¬ (FitsDurationSecs x) → 2 ^ 64 - 1 ≡ from_secs_f64 x
past x p l true e h = absurd (h (l, is_true _ (sym e)))
past x p l false e h = omega (arith, full, ns-most x, ns-mono end x (lt-left→le x end p tt (sym e)))

pub over : (x : Float) → ¬ (FitsDurationSecs x) → lt (of_bits binary64 0) x ≡ true → 2 ^ 64 - 1 ≡ from_secs_f64 x
over x h k =
    let l : T (le zero₊ x) = lt-taken→le zero₊ x (rw zero64 at k) in
    past x (le-ordered-r zero₊ x l) l (lt x end) refl h
