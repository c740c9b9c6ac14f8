-- The distance of two vectors (scope, part 1): 1 − dot. Vectors of different lengths are infinitely far apart, as in the Rust.
use Rattle.std.specs.Prelude.{false, List, eqb, length, map, Float}
use Rattle.std.specs.Float.{Format, binary32, inf}
use Rattle.std.specs.Float.Ieee.{sub}
use Rattle.basics.specs.Choice.{pick}
use Rattle.basics.specs.Sum.{+one}
use Rattle.simd.specs.Dot.{dot_of}
use Rattle.simd.specs.Inside.Eight.{eight_in}
use denote.Ref.{Bor}

unfoldable pub distance_of : Format → List Float → List Float → Float
unfolding pick dot_of
distance_of f xs ys = pick (eqb (length xs) (length ys)) (sub f +one (dot_of f xs ys)) (inf false)

-- eight rows at once: each number is the single row's
abbrev pub distances_of : List Float → List (Bor (List Float)) → List Float
distances_of q rows = map (λ (r : Bor (List Float)). distance_of binary32 q r.now) rows

-- the eight rows of a block
abbrev pub block_distances_of : List Float → List Float → List Float
block_distances_of q = eight_in (distance_of binary32 q)
