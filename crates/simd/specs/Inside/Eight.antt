-- Eight rows at once: each number is the single row's.
use Rattle.std.specs.Prelude.{List, [], ◌∷◌, ◌++◌, ℕ, zero, suc, ◌+◌, ◌*◌, ◌/◌, ◌≤◌, length, get_or, map, Float}
use Rattle.std.specs.Float.{binary32, nan}
use Rattle.std.specs.List.{All, range_with_len}
use denote.Ref.{Bor}
use Rattle.simd.specs.Dot.{dot_of}

-- the dots of a query with rows
abbrev pub dots_of : List Float → List (Bor (List Float)) → List Float
dots_of q rows = map (λ (r : Bor (List Float)). dot_of binary32 q r.now) rows

-- no row is shorter than the query
abbrev pub NoneShorter : List Float → List (Bor (List Float)) → Type 0
NoneShorter q rows = All (λ (r : Bor (List Float)). length q ≤ length r.now) rows

-- a row without components
abbrev pub none : Bor (List Float)
none = record { ref_ptr = (0, 0); now = [] }

-- the first n components of row j of a block, in which component i of row j stands at 8 · i + j
unfoldable pub lane_of : List Float → ℕ → ℕ → List Float
lane_of block j zero = []
lane_of block j (suc n) = lane_of block j n ++ (get_or block (8 * n + j) nan ∷ [])

-- the whole row j
abbrev pub row_in : List Float → ℕ → List Float
row_in block j = lane_of block j (length block / 8)

-- the number that is asked of each of the eight rows of a block
abbrev pub eight_in : (List Float → Float) → List Float → List Float
eight_in number block = map (λ (j : ℕ). number (row_in block j)) (range_with_len 0 8)

abbrev pub block_dots_of : List Float → List Float → List Float
block_dots_of q = eight_in (dot_of binary32 q)
