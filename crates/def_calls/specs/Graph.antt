-- The graph that a build makes of an index's parameters and its stored vectors: parts 1 to 6 of the scope make the rows and the entry node, part 7
-- the bridges.
use Rattle.std.specs.Prelude.{List, ℕ, Float}
use Rattle.basics.specs.Graph.{Bridge}
use Rattle.params.specs.declared.PipnnParams.{PipnnParams}
use Rattle.store.specs.View.{View}
use Rattle.def_graph.specs.Rows.{Settings, rows_of, entry_of}
use Rattle.def_walk.specs.Repair.{ensure_connectivity}

-- ef_search plays no part
abbrev pub settings_of : ℕ → PipnnParams → Settings
settings_of dimension p = record {
  dimension = dimension;
  max_leaf_size = p.max_leaf_size;
  min_leaf_size = p.min_leaf_size;
  leader_fraction = p.leader_fraction;
  max_degree = p.max_degree;
  num_hash_bits = p.num_hash_bits;
  final_prune = p.final_prune;
  alpha = p.alpha;
}

pub record Graph : Type 0 where
  pub rows : List (List ℕ)
  pub entry : ℕ
  pub bridges : List Bridge

unfoldable pub graph_of : Settings → List (List Float) → Graph
unfolding rows_of entry_of ensure_connectivity
graph_of s vs = record { rows = rows_of s vs; entry = entry_of s vs; bridges = ensure_connectivity (rows_of s vs) (entry_of s vs) vs }

-- the graph that a build makes of a store
abbrev pub graph_for : View → Graph
graph_for v = graph_of (settings_of v.dimension v.params) v.vectors
