-- One node's turn in a leaf (scope, part 5; `hashprune_insert`), on slices: what has to be there, and what its row then holds.
use Rattle.std.specs.Prelude.{◌≡◌, List, ◌++◌, map, ℕ, ◌+◌, ◌-◌, ◌*◌, ◌/◌, ◌≤◌, ◌<◌, length, Float}
use Rattle.std.specs.Float.{binary32}
use Rattle.basics.specs.Nodes.{Below}
use Rattle.random.specs.Hyperplanes.{plane_numbers}
use Rattle.distance.specs.Vectors.{vectors_in, between}
use Rattle.distance.specs.declared.vectors.Vectors.{Vectors}
use Rattle.simhash.specs.Inside.Blocks.{plane_blocks}
use Rattle.def_graph.specs.Leaf.{selected, merged}
use Rattle.store.specs.View.{row_block}
use Rattle.hashprune.specs.declared.Candidate.{Candidate}
use Rattle.hashprune.specs.declared.Point.{Point}

-- `planes` are the blocks that `simhash::plane_blocks_into` makes of a table of the stream's first numbers, whatever follows them, with room for
-- `bits` planes in both
pub record PlanesFor (dimension bits : ℕ) (planes : List Float) : Type 0 where
  pub numbers : ℕ
  pub rest : List Float
  pub enough : bits * dimension ≤ numbers
  pub room : (bits + 7) / 8 * (8 * dimension) ≤ length planes
  pub are : planes ≡ plane_blocks (plane_numbers binary32 numbers ++ rest) dimension bits (length planes)

-- the turn of node p, whose row has D = length row − 1 places and holds `old`
pub record Turn (vectors : List Float) (dimension bits : ℕ) (planes : List Float) (p : ℕ) (candidates : List ℕ) (far : List Float) (row old : List ℕ) : Type 0 where
  pub dimension_some : 1 ≤ dimension
  pub dimension_most : dimension ≤ 64
  pub bits_most : bits ≤ 16
  pub planes_are : PlanesFor dimension bits planes
  pub p_there : p < length vectors / dimension
  pub candidates_most : length candidates ≤ 64
  pub candidates_there : Below (length vectors / dimension) candidates
  pub far_is : far ≡ map (between (vectors_in dimension vectors) p) candidates
  pub row_some : 1 ≤ length row
  pub row_most : length row ≤ 33
  pub old_most : length old ≤ length row - 1
  pub row_is : row ≡ row_block (length row - 1) old

abbrev pub node_of : Candidate → ℕ
node_of c = c.node.0

abbrev pub far_of : Candidate → Float
far_of c = c.far

-- the row afterwards, where all of that is so
abbrev pub Inserted : Point → Vectors → List Float → List Candidate → List ℕ → List ℕ → Type 0
Inserted p v planes candidates row row' =
    let d : ℕ = v.dimension in
    let D : ℕ = length row - 1 in
    let vs : List (List Float) = vectors_in d v.components.now in
    let nodes : List ℕ = map node_of candidates in
    (old : List ℕ) → Turn v.components.now d p.bits planes p.node.0 nodes (map far_of candidates) row old
    → row' ≡ row_block D (merged D vs p.node.0 old (selected D p.bits d vs p.node.0 nodes))
