-- The vector of a node (`get`), how far two nodes are apart, and where that distance stands in part 1's order. An index's vectors are a
-- list, node by node, as they are stored.
use Rattle.std.specs.Prelude.{List, [], ℕ, ◌/◌, length, get_or, Float}
use Rattle.std.specs.Float.{binary32}
use Rattle.basics.specs.Lists.{pieces}
use Rattle.distance.specs.Distance.{distance_of}
use Rattle.distance.specs.Order.{key_of}
use Rattle.distance.specs.declared.vectors.Vectors.{Vectors}

-- the vectors of d components that stand whole in a list of floats, one after the other
abbrev pub vectors_in : ℕ → List Float → List (List Float)
vectors_in d xs = pieces d (length xs / d) xs

-- the vectors that a `Vectors` stands for
abbrev pub vectors_of : Vectors → List (List Float)
vectors_of v = vectors_in v.dimension v.components.now

abbrev pub vector_of : List (List Float) → ℕ → List Float
vector_of vs i = get_or vs i []

-- the distance of node i and node j
unfoldable pub between : List (List Float) → ℕ → ℕ → Float
unfolding distance_of
between vs i j = distance_of binary32 (vector_of vs i) (vector_of vs j)

-- a whole number that orders the nodes j by their distance from node i
unfoldable pub rank : List (List Float) → ℕ → ℕ → ℕ
unfolding between key_of
rank vs i j = key_of binary32 (between vs i j)
