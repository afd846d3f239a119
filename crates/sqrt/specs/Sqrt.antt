-- Document 01's square root, IEEE 754's: to nearest, ties to even, over whole numbers. That it is the nearest float is proved (Nearest.antt, NearestLaws.antt).
use Rattle.std.specs.Prelude.{ℕ, zero, suc, ◌+◌, ◌*◌, ◌/◌, ◌^◌, true, false, cond, ◌==◌, nat_le, Float}
use Rattle.std.specs.Float.{nan, inf, fin, binary64}
use Rattle.std.specs.Float.Ieee.{up, down, size, round}

-- the largest number whose square is at most n, for an n below 4 ^ k: digit by digit
unfoldable pub root_by : ℕ → ℕ → ℕ
root_by zero n = 0
root_by (suc k) n = let r = 2 * root_by k (n / 4) in cond (nat_le ((r + 1) * (r + 1)) n) (r + 1) r

-- the largest number whose square is at most n
unfoldable pub whole_root : ℕ → ℕ
unfolding root_by size
whole_root n = root_by (size n) n

-- The root of N of the format's smallest values, 2 ^ -1074 each, is √n * 2 ^ -590 for n = N * 4 ^ 53. The whole part s of √n has at least 54 binary digits,
-- so no number of 53 digits, nor a midpoint of two, lies strictly between s and s + 1: where √n is not s itself, s + 1/2 rounds as √n does.
unfoldable pub root_units : ℕ → Float
unfolding whole_root round
root_units N =
    let n = N * 4 ^ 53 in
    let s = whole_root n in
    round binary64 false (2 * s + cond (s * s == n) 0 1) (2 ^ 591)

-- nothing below zero has a root; a zero keeps its sign
unfoldable pub sqrt : Float → Float
unfolding root_units
sqrt nan = nan
sqrt (inf s) = cond s nan (inf false)
sqrt (fin s zero e) = fin s zero e
sqrt (fin true (suc m) e) = nan
sqrt (fin false (suc m) e) = root_units (suc m * up e * 2 ^ 1074 / down e)
