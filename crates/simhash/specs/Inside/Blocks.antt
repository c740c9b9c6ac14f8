-- The hash of a residual by blocks of eight planes (scope, part 5): in a block component i of plane j is at 8 · i + j.
use Rattle.std.specs.Prelude.{Bool, ◌&&◌, List, [], ◌∷◌, ◌++◌, ℕ, zero, suc, ◌+◌, ◌*◌, ◌/◌, ◌%◌, ◌^◌, ltb, length, get_or, take, drop, Float}
use Rattle.std.specs.Float.{binary32}
use Rattle.std.specs.Float.Ieee.{le}
use Rattle.basics.specs.Choice.{pick}
use Rattle.basics.specs.Sum.{+zero, sum_of, products}
use Rattle.simd.specs.Inside.Eight.{row_in}

-- some floats at the front of a slice, as far as there is room; the rest of it stays
abbrev pub put_front : List Float → List Float → List Float
put_front xs out = take (length out) xs ++ drop (length xs) out

-- bits 0 to n − 1, each at its weight
unfoldable pub bits_of : (ℕ → Bool) → ℕ → ℕ
unfolding pick
bits_of bit zero = 0
bits_of bit (suc n) = bits_of bit n + pick (bit n) (2 ^ n) 0

-- the sum of a residual with plane j of a block
abbrev pub sum_in : List Float → List Float → ℕ → Float
sum_in r block j = sum_of binary32 (products binary32 r (row_in block j))

-- bit j of a block is set where that sum is 0, −0 or above, and not where it is a NaN
abbrev pub side_of : List Float → List Float → ℕ → Bool
side_of r block j = le +zero (sum_in r block j)

abbrev pub block_hash : List Float → List Float → ℕ
block_hash r block = bits_of (side_of r block) 8

-- bit b by blocks laid one after the other, in which planes are as long as the residual
abbrev pub bit_in : List Float → List Float → ℕ → Bool
bit_in r blocks b = side_of r (drop (b / 8 * (8 * length r)) blocks) (b % 8)

abbrev pub blocks_hash : List Float → List Float → ℕ → ℕ
blocks_hash r blocks bits = bits_of (bit_in r blocks) bits

-- which plane's number stands at place k of the blocks, and of which of its components
abbrev pub plane_at : ℕ → ℕ → ℕ
plane_at dimension k = 8 * (k / 8 / dimension) + k % 8

abbrev pub component_at : ℕ → ℕ → ℕ
component_at dimension k = k / 8 % dimension

-- that number, of planes that stand one after the other; +0 past the last plane
unfoldable pub block_number : List Float → ℕ → ℕ → ℕ → Float
unfolding pick
block_number planes dimension bits k =
    pick (ltb 0 dimension && ltb (plane_at dimension k) bits) (get_or planes (plane_at dimension k * dimension + component_at dimension k) +zero) +zero

-- the first n numbers of the blocks
unfoldable pub plane_blocks : List Float → ℕ → ℕ → ℕ → List Float
unfolding block_number
plane_blocks planes dimension bits zero = []
plane_blocks planes dimension bits (suc n) = plane_blocks planes dimension bits n ++ (block_number planes dimension bits n ∷ [])
