-- Leaves that compute, with the Rust's outcome: one component, rows of one entry, each of two nodes twice in the leaf. Assumes nothing.
use mathlib.Core.Path.{◌≡◌, refl}
use mathlib.Core.Bool.{true}
use mathlib.Core.List.{[], ◌∷◌}
use lib.IntN.{negsuc}
use lib.Ieee.{Float, fin, binary32, add, sub, mul, lt, le, is_nan, to_bits}
use Rattle.basics.specs.Sum.{+zero, +one}
use Rattle.def_graph.specs.Simhash.{simhash_residual}
use Rattle.def_graph.specs.Leaf.{build_leaf}

abbrev -half : Float
-half = fin true 1 (negsuc 0)

-- With no hash bits there is one cell, and the first node stays in it. Node 0's second place offers node 0, as near as the entry 1 that the row
-- has: the earlier entry stays.
earlier_entry : build_leaf 1 0 1 ((+one ∷ []) ∷ (+one ∷ []) ∷ []) (0 ∷ 1 ∷ 0 ∷ 1 ∷ []) ([] ∷ [] ∷ []) ≡ (1 ∷ []) ∷ (0 ∷ []) ∷ []
unfolding build_leaf add sub mul lt le is_nan to_bits
earlier_entry = refl

-- the residual of a node with itself is 0, and a dot of 0 sets its bit; that of −½ with the first plane is below 0
zero_sets : simhash_residual binary32 1 (+zero ∷ []) (+zero ∷ []) 1 ≡ 1
unfolding simhash_residual add sub mul le
zero_sets = refl

below_clears : simhash_residual binary32 1 (+zero ∷ []) (-half ∷ []) 1 ≡ 0
unfolding simhash_residual add sub mul le
below_clears = refl

-- Node 1's place has two candidates for its one entry, node 1 itself and node 0, equally near. Their hashes are 1 and 0, and the lower one comes
-- first: node 0.
two_candidates : build_leaf 1 1 1 ((-half ∷ []) ∷ (+zero ∷ []) ∷ []) (1 ∷ 1 ∷ 0 ∷ 0 ∷ []) ([] ∷ [] ∷ []) ≡ (0 ∷ []) ∷ (0 ∷ []) ∷ []
unfolding build_leaf add sub mul lt le is_nan to_bits
two_candidates = refl

-- the same with the two nodes exchanged: it is the lower hash that comes first, not the lower node
lower_hash : build_leaf 1 1 1 ((+zero ∷ []) ∷ (-half ∷ []) ∷ []) (0 ∷ 0 ∷ 1 ∷ 1 ∷ []) ([] ∷ [] ∷ []) ≡ (1 ∷ []) ∷ (1 ∷ []) ∷ []
unfolding build_leaf add sub mul lt le is_nan to_bits
lower_hash = refl
