-- Leaf lists in words (scope, part 5): what the code leaves of rows as a build makes them, each a count and D entries, zero past the count. Each
-- says: whatever rows the words were, the words are now those that the definition makes of them, where the sizes fit.
use Rattle.std.specs.Prelude.{◌≡◌, ℕ, ◌+◌, ◌*◌, ◌≤◌, ◌<◌, length, Float}
use mathlib.Core.List.{List, ◌++◌, map, flatten, Memᴰ as In}
use Rattle.basics.specs.Nodes.{Below}
use Rattle.simd.specs.Inside.Eight.{lane_of}
use Rattle.distance.specs.Vectors.{vectors_of, between}
use Rattle.distance.specs.declared.vectors.Vectors.{Vectors}
use Rattle.def_graph.specs.Leaf.{hashprune_insert, candidates_at, places_to, build_leaf, build_leaves}
use Rattle.lists.specs.Inside.Words.{Blocks}
use Rattle.hashprune.specs.Inside.Hashprune.{PlanesFor}
use Rattle.build_leaf.specs.Inside.Lanes.{node_at}
use Rattle.build_leaf.specs.Inside.Candidates.{node_in, LaneReady}
use Rattle.build_leaf.specs.declared.Builder.{Builder}
use Rattle.build_leaf.specs.declared.LeafParams.{LeafParams}
use Rattle.build_leaf.specs.declared.leaf_candidates.Place.{Place}

-- sizes that fit, for an index of n nodes
pub record Sizes (n : ℕ) (p : LeafParams) (v : Vectors) : Type 0 where
  pub nodes_most : n ≤ 1024
  pub degree_most : p.degree ≤ 32
  pub bits_most : p.bits ≤ 16
  pub dimension_some : 1 ≤ v.dimension
  pub dimension_most : v.dimension ≤ 64
  pub vectors_are : length v.components.now ≡ n * v.dimension

pub record Setting (n : ℕ) (b : Builder) : Type 0 where
  pub sizes : Sizes n b.params b.vectors
  pub planes_are : PlanesFor b.vectors.dimension b.params.bits b.planes.now

-- the blocks of hyperplanes
abbrev pub PlanesMade : ℕ → ℕ → ℕ → List Float → Type 0
PlanesMade d bits room planes = room ≡ 1024 → d ≤ 64 → bits ≤ 16 → PlanesFor d bits planes

-- a leaf that the floats have room for
pub record LeafHeld (n : ℕ) (leaf : List ℕ) (room : ℕ) : Type 0 where
  pub below : Below n leaf
  pub fits : 8 * length leaf ≤ room
  pub few : length leaf ≤ 2 * n

-- leaves whose nodes stand one after the other, each of at most 2·n places
pub record LeavesIn (n : ℕ) (leaves : List (List ℕ)) (nodes sizes : List ℕ) (room : ℕ) : Type 0 where
  pub rest : List ℕ
  pub nodes_are : nodes ≡ flatten leaves ++ rest
  pub sizes_are : sizes ≡ map length leaves
  pub nodes_below : Below n nodes
  pub leaf_most : (leaf : List ℕ) → In leaf leaves → length leaf ≤ 2 * n
  pub room_is : 16 * n ≤ room

-- ---- what the functions leave of the rows of an index

module _ (b : Builder) where
  abbrev D : ℕ
  D = b.params.degree

  abbrev bits : ℕ
  bits = b.params.bits

  abbrev d : ℕ
  d = b.vectors.dimension

  abbrev vs : List (List Float)
  vs = vectors_of b.vectors

  -- a node's candidates are in its row
  abbrev pub RowPut : ℕ → List ℕ → List Float → List ℕ → List ℕ → Type 0
  RowPut node candidates far rows rows' =
      (n : ℕ) (rs : List (List ℕ)) → Setting n b → length rs ≡ n → node < n → Below n candidates → length candidates ≤ 64
      → far ≡ map (between vs node) candidates
      → Blocks D rs rows → Blocks D (hashprune_insert D bits d vs node candidates rs) rows'

  -- one place of a leaf, whose distances stand in a lane
  abbrev pub PlacePut : Place → List ℕ → List ℕ → Type 0
  PlacePut p rows rows' =
      (n : ℕ) (rs : List (List ℕ)) → Setting n b → length rs ≡ n → Below n p.nodes.now → LaneReady p D vs
      → Blocks D rs rows → Blocks D (hashprune_insert D bits d vs (node_in p p.i) (candidates_at D vs p.nodes.now p.i) rs) rows'

  -- the places of a leaf from `first` on and before `end`, if those before `first` had their turns; the distances of place first + g stand in lane g
  abbrev pub PlacesPut : List ℕ → ℕ → ℕ → List Float → List ℕ → List ℕ → Type 0
  PlacesPut leaf first end floats rows rows' =
      (n : ℕ) (rs : List (List ℕ)) → Setting n b → length rs ≡ n → LeafHeld n leaf (length floats)
      → ((g : ℕ) → g < 8 → lane_of floats g (length leaf) ≡ map (between vs (node_at leaf (first + g))) leaf)
      → Blocks D (places_to D bits d vs leaf rs first) rows → Blocks D (places_to D bits d vs leaf rs end) rows'

  -- a leaf
  abbrev pub LeafBuilt : List ℕ → ℕ → List ℕ → List ℕ → Type 0
  LeafBuilt leaf room rows rows' =
      (n : ℕ) (rs : List (List ℕ)) → Setting n b → length rs ≡ n → LeafHeld n leaf room
      → Blocks D rs rows → Blocks D (build_leaf D bits d vs leaf rs) rows'

  abbrev pub LeavesBuilt : List ℕ → List ℕ → ℕ → List ℕ → List ℕ → Type 0
  LeavesBuilt nodes sizes room rows rows' =
      (n : ℕ) (rs leaves : List (List ℕ)) → Setting n b → length rs ≡ n → LeavesIn n leaves nodes sizes room
      → Blocks D rs rows → Blocks D (build_leaves D bits d vs leaves rs) rows'

-- all leaves, where the sizes fit
abbrev pub Built : LeafParams → Vectors → List ℕ → List ℕ → ℕ → List ℕ → List ℕ → Type 0
Built p v nodes sizes room rows rows' =
    (rs leaves : List (List ℕ)) → Sizes (length rs) p v → LeavesIn (length rs) leaves nodes sizes room
    → Blocks p.degree rs rows → Blocks p.degree (build_leaves p.degree p.bits v.dimension (vectors_of v) leaves rs) rows'
