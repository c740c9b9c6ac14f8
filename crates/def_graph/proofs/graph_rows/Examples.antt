-- Examples that compute: the worked example, and others whose outcome is the Rust's once its sorts are stable. Assumes nothing.
use mathlib.Core.Path.{◌≡◌, refl}
use mathlib.Core.Bool.{true, false}
use mathlib.Core.List.{List, [], ◌∷◌, ◌++◌}
use Prim.Native.Nat.{ℕ}
use lib.IntN.{pos, negsuc}
use lib.ListN.{get_or, replicate}
use lib.Ieee.{Float, fin, add, sub, mul, div, lt, le, of_int, to_unsigned, is_nan, to_bits}
use Rattle.basics.specs.Sum.{+zero, +one}
use Rattle.def_graph.specs.Partition.{leaves_of}
use Rattle.def_graph.specs.Leaf.{cells_from}
use Rattle.def_graph.specs.Refine.{final_prune}
use Rattle.def_graph.specs.Rows.{Settings, leaf_rows, rows_of, entry_of}

abbrev half : Float
half = fin false 1 (negsuc 0)

abbrev three_quarters : Float
three_quarters = fin false 3 (negsuc 1)

abbrev -half : Float
-half = fin true 1 (negsuc 0)

abbrev -one : Float
-one = fin true 1 (pos 0)

-- 1.2, the Rust's default
abbrev alpha : Float
alpha = fin false 5033165 (negsuc 21)

-- ---- the worked example

abbrev pub worked_vectors : List (List Float)
worked_vectors = (+one ∷ +zero ∷ []) ∷ (+zero ∷ +one ∷ []) ∷ (-one ∷ +zero ∷ []) ∷ []

abbrev pub worked_settings : Settings
worked_settings =
    record { dimension = 2; max_leaf_size = 256; min_leaf_size = 0; leader_fraction = half; max_degree = 1; num_hash_bits = 0; final_prune = true; alpha = alpha }

-- node 1's two neighbours are equally near and meet in the one cell: the first stays
pub worked_rows_lem : rows_of worked_settings worked_vectors ≡ (1 ∷ []) ∷ (0 ∷ []) ∷ (1 ∷ []) ∷ []
unfolding rows_of add sub mul lt is_nan to_bits
worked_rows_lem = refl

pub worked_entry : entry_of worked_settings worked_vectors ≡ 1
unfolding entry_of add sub mul div lt of_int
worked_entry = refl

-- ---- carving

-- Six nodes, leaves of two. Level 0 draws the leaders 5, 3, 1 and 2; the bucket of leader 5 is small, and at the end goes onto the last. At
-- level 1 the buckets {5} and {0} gather, and take their place behind the larger one that came between them. Of equally near leaders the
-- earlier drawn wins, and carving goes down to level 4.
carve_vectors : List (List Float)
carve_vectors =
    (+zero ∷ +one ∷ []) ∷ (-half ∷ -half ∷ []) ∷ (-one ∷ +zero ∷ []) ∷ (-half ∷ half ∷ []) ∷ (-one ∷ half ∷ []) ∷ (+zero ∷ -half ∷ []) ∷ []

carve_leaves : leaves_of 2 2 three_quarters carve_vectors
    ≡ (0 ∷ 2 ∷ []) ∷ (3 ∷ 4 ∷ []) ∷ (1 ∷ 5 ∷ []) ∷ (2 ∷ 1 ∷ []) ∷ (3 ∷ 4 ∷ []) ∷ (5 ∷ 0 ∷ []) ∷ []
unfolding leaves_of carve_vectors add sub mul is_nan to_bits of_int to_unsigned
carve_leaves = refl

-- Equal vectors cannot be told apart: every node goes to the leader drawn first, the other bucket stays empty, and after level 20 the segment
-- is a leaf of any size.
equal_leaves : leaves_of 2 0 half ((+one ∷ []) ∷ (+one ∷ []) ∷ (+one ∷ []) ∷ [])
    ≡ ((0 ∷ 1 ∷ 2 ∷ []) ∷ replicate 20 []) ++ ((0 ∷ 1 ∷ 2 ∷ []) ∷ replicate 20 [])
unfolding leaves_of add sub mul is_nan to_bits of_int to_unsigned
equal_leaves = refl

-- an empty bucket is smaller than one node, and gathers to nothing
equal_gathered : leaves_of 2 1 half ((+one ∷ []) ∷ (+one ∷ []) ∷ (+one ∷ []) ∷ []) ≡ (0 ∷ 1 ∷ 2 ∷ []) ∷ (0 ∷ 1 ∷ 2 ∷ []) ∷ []
unfolding leaves_of add sub mul is_nan to_bits of_int to_unsigned
equal_gathered = refl

-- ---- leaf lists

-- Three nodes, all at the same distance from each other, three hash bits. As nodes 0 and 1 see them the other two lie in one direction: they
-- meet in one cell, and the first stays. As node 2 sees them they do not; node 1 has the lower hash, and so comes first. The reverse edges
-- give node 2 back to both.
leaf_vectors : List (List Float)
leaf_vectors = (+zero ∷ half ∷ []) ∷ (-one ∷ +one ∷ []) ∷ (half ∷ +one ∷ []) ∷ []

leaf_settings : Settings
leaf_settings =
    record { dimension = 2; max_leaf_size = 256; min_leaf_size = 2; leader_fraction = three_quarters; max_degree = 2; num_hash_bits = 3; final_prune = true; alpha = alpha }

leaf_rows_lem : leaf_rows leaf_settings leaf_vectors ≡ (1 ∷ []) ∷ (0 ∷ []) ∷ (1 ∷ 0 ∷ []) ∷ []
unfolding leaf_rows leaf_settings leaf_vectors add sub mul lt le is_nan to_bits
leaf_rows_lem = refl

leaf_reversed : rows_of leaf_settings leaf_vectors ≡ (1 ∷ 2 ∷ []) ∷ (0 ∷ 2 ∷ []) ∷ (1 ∷ 0 ∷ []) ∷ []
unfolding rows_of leaf_settings leaf_vectors add sub mul lt le is_nan to_bits
leaf_reversed = refl

-- In a leaf the nearest come first, so that a cell is never won from its holder. In any other order it is, by a strictly smaller distance:
-- of the nodes 0 to 3, at distances 1, 1/2, 1/2 and 0 with the hashes 5, 2, 2 and 5, nodes 3 and 1 hold the two cells.
cell_distance : ℕ → Float
cell_distance v = get_or (+one ∷ half ∷ half ∷ +zero ∷ []) v +zero

cell_hash : ℕ → ℕ
cell_hash v = get_or (5 ∷ 2 ∷ 2 ∷ 5 ∷ []) v 0

cell_won : cells_from cell_distance cell_hash [] (0 ∷ 1 ∷ 2 ∷ 3 ∷ []) ≡ record { hash = 2; node = 1 } ∷ record { hash = 5; node = 3 } ∷ []
unfolding cells_from cell_distance cell_hash lt
cell_won = refl

-- Six nodes, leaves of three, three entries a row. Node 1 stands twice in a leaf and lists itself. Node 4 lists 5 twice, since 2 is as near
-- and stands between. Node 2 gets 4 back.
twice_vectors : List (List Float)
twice_vectors =
    (+one ∷ -half ∷ []) ∷ (-half ∷ +zero ∷ []) ∷ (+zero ∷ +one ∷ []) ∷ (+one ∷ -half ∷ []) ∷ (+zero ∷ half ∷ []) ∷ (+one ∷ +one ∷ []) ∷ []

twice_settings : Settings
twice_settings =
    record { dimension = 2; max_leaf_size = 3; min_leaf_size = 2; leader_fraction = three_quarters; max_degree = 3; num_hash_bits = 3; final_prune = true; alpha = alpha }

twice_leaves : leaves_of 3 2 three_quarters twice_vectors ≡ (0 ∷ 3 ∷ []) ∷ (2 ∷ 4 ∷ 5 ∷ []) ∷ (0 ∷ 3 ∷ []) ∷ (1 ∷ 1 ∷ []) ∷ (2 ∷ 4 ∷ 5 ∷ []) ∷ []
unfolding leaves_of twice_vectors add sub mul is_nan to_bits of_int to_unsigned
twice_leaves = refl

twice_rows : rows_of twice_settings twice_vectors
    ≡ (3 ∷ []) ∷ (1 ∷ []) ∷ (5 ∷ 4 ∷ []) ∷ (0 ∷ []) ∷ (5 ∷ 2 ∷ 5 ∷ []) ∷ (2 ∷ 4 ∷ []) ∷ []
unfolding rows_of twice_settings twice_vectors add sub mul lt le is_nan to_bits of_int to_unsigned
twice_rows = refl

twice_entry : entry_of twice_settings twice_vectors ≡ 5
unfolding entry_of twice_settings twice_vectors add sub mul div lt of_int
twice_entry = refl

-- Two nodes, leaves of one: each goes to both leaders, the buckets gather, and after level 20 each node stands twice in one leaf. With no hash bits
-- the earlier entry stays; with one, the residual of a node with itself, 0, sets its bit, so the other node has the lower hash.
pair_settings : ℕ → Settings
pair_settings bits =
    record { dimension = 1; max_leaf_size = 1; min_leaf_size = 3; leader_fraction = three_quarters; max_degree = 1; num_hash_bits = bits; final_prune = true; alpha = alpha }

pair_equal : rows_of (pair_settings 0) ((+one ∷ []) ∷ (+one ∷ []) ∷ []) ≡ (1 ∷ []) ∷ (0 ∷ []) ∷ []
unfolding rows_of pair_settings add sub mul lt le is_nan to_bits of_int to_unsigned
pair_equal = refl

pair_below : rows_of (pair_settings 1) ((-half ∷ []) ∷ (+zero ∷ []) ∷ []) ≡ (0 ∷ []) ∷ (0 ∷ []) ∷ []
unfolding rows_of pair_settings add sub mul lt le is_nan to_bits of_int to_unsigned
pair_below = refl

pair_exchanged : rows_of (pair_settings 1) ((+zero ∷ []) ∷ (-half ∷ []) ∷ []) ≡ (1 ∷ []) ∷ (1 ∷ []) ∷ []
unfolding rows_of pair_settings add sub mul lt le is_nan to_bits of_int to_unsigned
pair_exchanged = refl

-- ---- the final prune

-- Rows of more than max_degree entries, which reverse edges never leave. Node 2, next on node 0's list, is crowded out by 1: that is nearer
-- to it than 0 is, even 1.2 times as far away, and 3 takes its place. Node 1's row is short enough and stays. Node 2's is sorted and cut.
prune_vectors : List (List Float)
prune_vectors = (+one ∷ +zero ∷ []) ∷ (half ∷ half ∷ []) ∷ (half ∷ +one ∷ []) ∷ (+zero ∷ -one ∷ []) ∷ []

pruned : final_prune 2 alpha prune_vectors ((1 ∷ 2 ∷ 3 ∷ []) ∷ (2 ∷ 0 ∷ []) ∷ (3 ∷ 1 ∷ 0 ∷ []) ∷ (2 ∷ []) ∷ [])
    ≡ (1 ∷ 3 ∷ []) ∷ (2 ∷ 0 ∷ []) ∷ (1 ∷ 0 ∷ []) ∷ (2 ∷ []) ∷ []
unfolding final_prune prune_vectors add sub mul lt is_nan to_bits
pruned = refl
