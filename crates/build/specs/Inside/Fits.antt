-- What the steps of a build ask of each other, and what they leave of the word store.
use Rattle.std.specs.Prelude.{◌≡◌, ℕ, ◌+◌, ◌*◌, ◌≤◌, leb, length, get_or, take, drop, set, Float}
use mathlib.Core.List.{List, [], map, flatten}
use Rattle.basics.specs.Choice.{pick}
use Rattle.basics.specs.Graph.{Bridge}
use Rattle.basics.specs.Nodes.{Below}
use Rattle.distance.specs.Vectors.{vectors_of}
use Rattle.distance.specs.declared.vectors.Vectors.{Vectors}
use Rattle.def_graph.specs.Leaf.{build_leaves}
use Rattle.carving.specs.Inside.Carving.{Laid}
use Rattle.build_leaf.specs.Inside.Built.{Sizes}
use Rattle.build_leaf.specs.declared.LeafParams.{LeafParams}
use Rattle.params.specs.declared.PipnnParams.{PipnnParams}
use Rattle.def_graph.specs.Medoid.{compute_medoid}
use Rattle.def_walk.specs.Repair.{ensure_connectivity}
use Rattle.store.specs.Layout.{built_state, state_at, entry_at, bridge_count_at, rows_at, row_size, bridges_at}
use Rattle.store.specs.View.{bridge_block}
use Rattle.lists.specs.Inside.Words.{Blocks}
use Rattle.def_calls.specs.Build.{laid}

-- how many nodes all leaves have together
abbrev pub leaf_entries : ℕ → ℕ → ℕ
leaf_entries n maxLeaf = pick (leb n maxLeaf) n (2 * n)

-- the leaves of n nodes that hold a node, with their nodes and sizes in words: these counts fit
pub record LeavesFit (n count words : ℕ) : Type 0 where
  pub most : n ≤ 1024
  pub counted : count ≤ 2 * n
  pub words_room : 4 * n ≤ words

-- what leaf lists take from the parameters of an index
abbrev pub leaf_of : PipnnParams → LeafParams
leaf_of p = record { degree = p.max_degree; bits = p.num_hash_bits }

-- whatever leaves those are, and whatever the rows are
abbrev pub LeavesPut : ℕ → ℕ → LeafParams → Vectors → List ℕ → ℕ → ℕ → List ℕ → List ℕ → Type 0
LeavesPut n maxLeaf leaf v carved count room rows rows' =
    let D : ℕ = leaf.degree in
    let d : ℕ = v.dimension in
    (leaves rs : List (List ℕ)) → Sizes n leaf v → length rs ≡ n → length (flatten leaves) ≡ leaf_entries n maxLeaf
    → Laid leaves count (2 * n) carved → Below n (flatten leaves) → 16 * n ≤ room
    → Blocks D rs rows → Blocks D (build_leaves D leaf.bits d (vectors_of v) leaves rs) rows'

-- n vectors and n rows, parameters within their limits, and scratch for them
pub record RowsFit (n dimension : ℕ) (p : PipnnParams) (rows : List ℕ) (vectors : List Float) (words floats : ℕ) : Type 0 where
  pub most : n ≤ 1024
  pub dimension_some : 1 ≤ dimension
  pub dimension_most : dimension ≤ 64
  pub degree_most : p.max_degree ≤ 32
  pub bits_most : p.num_hash_bits ≤ 16
  pub leaf_some : 1 ≤ p.max_leaf_size
  pub rows_are : length rows ≡ n * row_size p.max_degree
  pub vectors_are : length vectors ≡ n * dimension
  pub words_room : 4 * n ≤ words
  pub floats_room : 16 * n ≤ floats

-- n vectors of d components, at least one, in a store of capacity C and degree D that has room for n rows and n bridges; and scratch
pub record RepairFits (n C D d : ℕ) (w : List ℕ) (vectors : List Float) (bridges words floats : ℕ) : Type 0 where
  pub some : 1 ≤ n
  pub most : n ≤ 1024
  pub dimension_some : 1 ≤ d
  pub capacity : n ≤ C
  pub capacity_most : C ≤ 1024
  pub degree_most : D ≤ 32
  pub store : bridges_at C D + 2 * C ≤ length w
  pub vectors_are : length vectors ≡ n * d
  pub words_room : 4 * n ≤ words
  pub bridges_room : 2 * n ≤ bridges
  pub floats_room : d ≤ floats

-- words 0, 9 and 10, and the bridges, for rows that are not repaired yet
abbrev pub with_repair : (C D dimension : ℕ) → List (List Float) → List (List ℕ) → List ℕ → List ℕ
with_repair C D dimension vs rows w =
    let entry : ℕ = compute_medoid dimension vs in
    let bridges : List Bridge = ensure_connectivity rows entry vs in
    laid (bridges_at C D) (flatten (map bridge_block bridges)) (set (set (set w state_at built_state) entry_at entry) bridge_count_at (length bridges))

-- whatever rows stand in the store, with entries below n
abbrev pub RepairPut : (n C D d : ℕ) → List (List Float) → List ℕ → List ℕ → Type 0
RepairPut n C D d vs w w' =
    (rows : List (List ℕ)) → length rows ≡ n → ((u : ℕ) → Below n (get_or rows u [])) → Blocks D rows (take (n * row_size D) (drop (rows_at C) w))
    → w' ≡ with_repair C D d vs rows w
