-- The graph before repair: what parts 1 to 6 of the scope make of an index's parameters and its vectors as they are stored, node by node. `build` of
-- src/pipnn/mod.rs, steps 1 to 5.
use Rattle.std.specs.Prelude.{Bool, List, [], ℕ, length, replicate, Float}
use Rattle.basics.specs.Choice.{pick}
use Rattle.def_graph.specs.Partition.{leaves_of}
use Rattle.def_graph.specs.Leaf.{build_leaves}
use Rattle.def_graph.specs.Refine.{add_reverse_edges, final_prune}
use Rattle.def_graph.specs.Medoid.{compute_medoid}

-- what the graph depends on besides the vectors: the dimension, and `PipnnParams` but for ef_search
pub record Settings : Type 0 where
  pub dimension : ℕ
  pub max_leaf_size : ℕ
  pub min_leaf_size : ℕ
  pub leader_fraction : Float
  pub max_degree : ℕ
  pub num_hash_bits : ℕ
  pub final_prune : Bool
  pub alpha : Float

-- each leaf's lists, from empty rows
unfoldable pub leaf_rows : Settings → List (List Float) → List (List ℕ)
unfolding leaves_of build_leaves
leaf_rows p vs =
    build_leaves p.max_degree p.num_hash_bits p.dimension vs
    (leaves_of p.max_leaf_size p.min_leaf_size p.leader_fraction vs)
    (replicate (length vs) [])

-- with reverse edges
unfoldable pub reversed_rows : Settings → List (List Float) → List (List ℕ)
unfolding leaf_rows add_reverse_edges
reversed_rows p vs = add_reverse_edges p.max_degree (leaf_rows p vs)

-- the lists before repair
unfoldable pub rows_of : Settings → List (List Float) → List (List ℕ)
unfolding pick reversed_rows final_prune
rows_of p vs = pick p.final_prune (final_prune p.max_degree p.alpha vs (reversed_rows p vs)) (reversed_rows p vs)

-- the entry node
unfoldable pub entry_of : Settings → List (List Float) → ℕ
unfolding compute_medoid
entry_of p vs = compute_medoid p.dimension vs
