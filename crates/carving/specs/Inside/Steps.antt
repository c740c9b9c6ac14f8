-- What the steps of carving ask of each other, inside this crate.
use Rattle.std.specs.Prelude.{◌≡◌, List, [], ◌∷◌, map, ℕ, ◌+◌, ◌*◌, ◌/◌, ◌≤◌, length, take}
use Rattle.distance.specs.Vectors.{vectors_of}
use Rattle.distance.specs.declared.vectors.Vectors.{Vectors}
use Rattle.def_graph.specs.Partition.{fanout, buckets_of, carve_segment, carve_buckets, leaves_of}
use Rattle.dealing.specs.Inside.Marks.{marks_of}
use Rattle.dealing.specs.Inside.Deal.{Holding}
use Rattle.carving.specs.Inside.Carving.{non_empty}
use Rattle.carving.specs.declared.CarveParams.{CarveParams}
use Rattle.carving.specs.declared.Carve.{Carve}

-- one level down
abbrev pub below : Carve → Carve
below c = record c { level = c.level + 1 }

module _ (c : Carve) where
  -- the buckets of a segment, the leaves of a segment, and those of buckets
  abbrev pub dealt_in : List ℕ → List (List ℕ)
  dealt_in ids = buckets_of c.p.dealing.min_leaf c.p.dealing.leader_fraction (vectors_of c.vectors) c.level ids

  abbrev pub leaves_in : List ℕ → List (List ℕ)
  leaves_in ids = carve_segment c.p.max_leaf c.p.dealing.min_leaf c.p.dealing.leader_fraction (vectors_of c.vectors) c.level ids

  abbrev pub leaves_under : List (List ℕ) → List (List ℕ)
  leaves_under buckets = carve_buckets c.p.max_leaf c.p.dealing.min_leaf c.p.dealing.leader_fraction (vectors_of c.vectors) c.level buckets

  -- how many nodes the segment has that these begin with, where there is room for its buckets
  abbrev pub segment_size : List ℕ → ℕ
  segment_size nodes = length nodes / fanout c.level

  -- levels below the top, and as many marks as nodes
  pub record Carvable (nodes marks : List ℕ) : Type 0 where
    pub some : 1 ≤ c.p.max_leaf
    pub below_top : 1 ≤ c.level
    pub levels : c.level ≤ 21
    pub few : length nodes ≤ 2048
    pub marked : length marks ≡ length nodes

  -- nodes that begin with a segment, with room for its buckets
  pub record Dealing (nodes marks : List ℕ) : Type 0 where
    pub deals : 1 ≤ fanout c.level
    pub two : 2 ≤ segment_size nodes
    pub whole : length nodes ≡ fanout c.level * segment_size nodes
    pub few : length nodes ≤ 2048
    pub marked : length marks ≡ length nodes

  -- a segment marked as one is carved
  abbrev pub CarvesSegment : (nodes marks nodes' marks' : List ℕ) → Type 0
  CarvesSegment nodes marks nodes' marks' = marks ≡ marks_of (nodes ∷ []) → Holding (leaves_in nodes) nodes' marks'

  -- buckets are carved, whichever the slices hold
  abbrev pub CarvesBuckets : (nodes marks nodes' marks' : List ℕ) → Type 0
  CarvesBuckets nodes marks nodes' marks' = (buckets : List (List ℕ)) → Holding buckets nodes marks → Holding (leaves_under buckets) nodes' marks'

-- the leaves of an index at the front of both slices
pub record Carved (vectors : Vectors) (p : CarveParams) (n total : ℕ) (nodes marks : List ℕ) : Type 0 where
  pub within : total ≤ length nodes
  pub leaves : length (vectors_of vectors) ≡ n
      → Holding (leaves_of p.max_leaf p.dealing.min_leaf p.dealing.leader_fraction (vectors_of vectors)) (take total nodes) (take total marks)

-- the sizes that marks show, at the front of a slice
abbrev pub MarkedSizes : (marks sizes' : List ℕ) (count : ℕ) → Type 0
MarkedSizes marks sizes' count = (leaves : List (List ℕ)) → marks ≡ marks_of leaves → (count ≡ length (non_empty leaves)) × (take (length (non_empty leaves)) sizes' ≡ map length (non_empty leaves))
