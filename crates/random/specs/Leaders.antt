-- The leaders of a segment (scope, part 4): how many, and which positions are drawn.
use Rattle.std.specs.Prelude.{ℕ, zero, suc, ◌+◌, ◌-◌, ◌*◌, ◌%◌, ◌^◌, min, max, List, [], ◌∷◌, ◌++◌, length, take, drop, pos, slice_index, slice_set, Float}
use Rattle.std.specs.Float.{binary64}
use Rattle.std.specs.Float.Ieee.{mul, of_int, to_unsigned}
use Rattle.random.specs.Lcg.{next_of, high, draw_addend}

-- the floor of the rounded product of length and fraction, at least 2, at most the length
abbrev pub leader_count : ℕ → Float → ℕ
leader_count n fraction = min n (max 2 (to_unsigned 64 (mul binary64 (of_int binary64 (pos n)) fraction)))

-- r starts from the level alone
abbrev pub draw_start : ℕ → ℕ
draw_start level = (level * 2654435761 + 42) % 2 ^ 64

-- position p is taken out, and the last moves into its place
unfoldable pub swap_remove : ℕ → List ℕ → List ℕ
swap_remove p left = take (length left - 1) (slice_set left p (slice_index left (length left - 1)))

-- `count` draws from those left: each steps r, and takes the position that r determines
unfoldable pub drawn : ℕ → ℕ → List ℕ → List ℕ
unfolding next_of swap_remove
drawn zero r left = []
drawn (suc count) r left =
    let r' : ℕ = next_of draw_addend r in
    let p : ℕ = high r' % length left in
    slice_index left p ∷ drawn count r' (swap_remove p left)

-- 0, 1, .. n − 1
unfoldable pub up_to : ℕ → List ℕ
up_to zero = []
up_to (suc n) = up_to n ++ (n ∷ [])

-- the positions drawn in a segment of n, in the order in which they were drawn
unfoldable pub leader_positions : ℕ → ℕ → Float → List ℕ
unfolding drawn up_to
leader_positions level n fraction = drawn (leader_count n fraction) (draw_start level) (up_to n)

-- as many of them as a slice has room for, at its front
unfoldable pub drawn_into : ℕ → ℕ → List ℕ → List ℕ
drawn_into level n out = let count : ℕ = min (length out) n in drawn count (draw_start level) (up_to n) ++ drop count out
