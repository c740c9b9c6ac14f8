-- Hyperplanes (scope, part 3): the numbers of one stream, over any format.
use Rattle.std.specs.Prelude.{ℕ, zero, suc, ◌-◌, ◌^◌, true, false, List, [], ◌∷◌, ◌++◌, nat_lt, Float}
use Rattle.std.specs.Float.{Format}
use Rattle.std.specs.Float.Ieee.{round}
use Rattle.basics.specs.Choice.{pick}
use Rattle.random.specs.Lcg.{next_of, high, plane_addend}

-- r after k steps; r starts at 42
unfoldable pub stream : ℕ → ℕ
unfolding next_of
stream zero = 42
stream (suc k) = next_of plane_addend (stream k)

-- (h − 2^30)/2^30, rounded once, ties to even
unfoldable pub plane_value : Format → ℕ → Float
unfolding pick round
plane_value f h = pick (nat_lt h (2 ^ 30)) (round f true (2 ^ 30 - h) (2 ^ 30)) (round f false (h - 2 ^ 30) (2 ^ 30))

-- number k of the stream, counted from 0
unfoldable pub plane_number : Format → ℕ → Float
unfolding stream plane_value
plane_number f k = plane_value f (high (stream (suc k)))

-- the first n of them
unfoldable pub plane_numbers : Format → ℕ → List Float
unfolding plane_number
plane_numbers f zero = []
plane_numbers f (suc n) = plane_numbers f n ++ (plane_number f n ∷ [])
