-- The square root (scope, part 2), computed on whole numbers, over any format.
use Rattle.std.specs.Prelude.{ℕ, zero, suc, ◌+◌, ◌-◌, ◌*◌, ◌/◌, ◌%◌, ◌^◌, false, ℤ, leb, eqb, Float}
use Rattle.std.specs.Float.{nan, inf, fin, Format}
use Rattle.std.specs.Float.Ieee.{up, down, prec, low, size, odd}
use Rattle.basics.specs.Choice.{pick}

-- r with k more binary digits below those it has, each one set where the square stays at most n
unfoldable pub root_from : ℕ → ℕ → ℕ → ℕ
unfolding pick
root_from zero n r = r
root_from (suc k) n r = root_from k n (pick (leb ((r + 2 ^ k) * (r + 2 ^ k)) n) (r + 2 ^ k) r)

-- the largest r whose square is at most n
unfoldable pub isqrt : ℕ → ℕ
unfolding root_from size
isqrt n = root_from (size n) n 0

-- A finite s > 0 is n of the format's smallest values, s = n · 2^-low. Part 2's e is (A + low)/2 − p − low, where A is n's length in binary
-- digits or one more, so that A + low is even; then s/2^(2e) is the number `scaled`, from 2^(2p−2) up and below 2^(2p).
abbrev pub even_length : Format → ℕ → ℕ
even_length f n = size n + (size n + low f) % 2

abbrev pub scaled : Format → ℕ → ℕ
scaled f n = n * 2 ^ (2 * prec f) / 2 ^ even_length f n

-- the whole number m with (2m − 1)² < 4 · scaled < (2m + 1)²
abbrev pub nearest_root : ℕ → ℕ
nearest_root N = (isqrt (4 * N) + 1) / 2

-- m · 2^e
unfoldable pub root_units : Format → ℕ → Float
unfolding isqrt odd
root_units f n = odd (prec f) false (nearest_root (scaled f n)) ((even_length f n + low f) / 2 - prec f) (low f)

-- how many of the format's smallest values m · 2^e is
abbrev pub units_of : Format → ℕ → ℤ → ℕ
units_of f m e = m * up e * 2 ^ low f / down e

-- the root of a zero is that zero, of infinity infinity; below zero there is no root
unfoldable pub root_of : Format → Float → Float
unfolding root_units pick
root_of f nan = nan
root_of f (inf s) = pick s nan (inf false)
root_of f (fin s zero e) = fin s zero e
root_of f (fin s (suc m) e) = pick s nan (root_units f (units_of f (suc m) e))

-- how many of binary32's smallest values the pattern b, with no sign and below the infinity's, stands for
unfoldable pub pattern_units : ℕ → ℕ
unfolding pick
pattern_units b = pick (eqb (b / 2 ^ 23) 0) (b % 2 ^ 23) ((2 ^ 23 + b % 2 ^ 23) * 2 ^ (b / 2 ^ 23 - 1))
