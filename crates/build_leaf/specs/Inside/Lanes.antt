-- Distances within a leaf (scope, part 5) by blocks of eight: component c of vector g, and the distance of position j to vector g, are in lane g of a
-- block, at 8 · c + g and 8 · j + g (`lane_of` of Rattle.simd).
use Rattle.std.specs.Prelude.{◌≡◌, List, map, ℕ, ◌+◌, ◌-◌, ◌*◌, ◌/◌, ◌≤◌, ◌<◌, min, length, get_or, take, Float}
use Rattle.std.specs.Float.{binary32}
use Rattle.basics.specs.Nodes.{Below}
use Rattle.simd.specs.Inside.Eight.{lane_of, row_in}
use Rattle.distance.specs.Distance.{distance_of}
use Rattle.distance.specs.Vectors.{vectors_of, vector_of, between}
use Rattle.build_leaf.specs.declared.leaf_distances.Leaf.{Leaf}

-- the node of the leaf's place i, or of its last place where there is no such place
abbrev pub node_at : List ℕ → ℕ → ℕ
node_at leaf i = get_or leaf (min i (length leaf - 1)) 0

-- lane g holds v, the other lanes are as they were
pub record LanePut (g : ℕ) (v before after : List Float) : Type 0 where
  pub put : lane_of after g (length v) ≡ v
  pub kept : (k n : ℕ) → k < 8 → (k ≡ g → ⊥) → lane_of after k n ≡ lane_of before k n

-- the vector of a leaf's place i, or of its last place
abbrev pub vector_at : Leaf → ℕ → List Float
vector_at l i = vector_of (vectors_of l.vectors) (node_at l.nodes.now i)

-- the first lanes of a block hold the vectors of the leaf's places from `first` on
abbrev pub BlockTurned : Leaf → ℕ → ℕ → List Float → Type 0
BlockTurned l first lanes block = (g : ℕ) → g < lanes → lane_of block g (length (vector_at l (first + g))) ≡ vector_at l (first + g)

-- each lane holds the distances of the leaf's first places to that lane's vector of a block
abbrev pub LanesFilled : Leaf → List Float → ℕ → List Float → Type 0
LanesFilled l block places floats =
    (g : ℕ) → g < 8 → lane_of floats g places ≡ map (λ (u : ℕ). distance_of binary32 (vector_of (vectors_of l.vectors) u) (row_in block g)) (take places l.nodes.now)

-- lane g holds the distances of place first + g to every place
abbrev pub Distances : Leaf → ℕ → ℕ → List Float → Type 0
Distances l first room floats =
    l.vectors.dimension ≤ 64 → first < length l.nodes.now → 8 * length l.nodes.now ≤ room → Below (length l.vectors.components.now / l.vectors.dimension) l.nodes.now
    → (g : ℕ) → g < 8 → lane_of floats g (length l.nodes.now) ≡ map (between (vectors_of l.vectors) (node_at l.nodes.now (first + g))) l.nodes.now
