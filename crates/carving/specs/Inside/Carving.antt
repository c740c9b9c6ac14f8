-- What `partition` leaves (scope, part 4): the leaves of an index that hold a node, one after the other, and their sizes. An empty leaf has neither
-- nodes nor a size: a build passes over leaves of one node or none.
use Rattle.std.specs.Prelude.{◌≡◌, ℕ, ◌*◌, ◌≤◌, eqb, length, take, drop, Float}
use mathlib.Core.List.{List, [], ◌∷◌, map, flatten}
use Rattle.basics.specs.Choice.{pick}
use Rattle.def_graph.specs.Partition.{leaves_of}

-- the lists that hold something
unfoldable pub non_empty : List (List ℕ) → List (List ℕ)
unfolding pick
non_empty [] = []
non_empty (leaf ∷ leaves) = let rest : List (List ℕ) = non_empty leaves in pick (eqb (length leaf) 0) rest (leaf ∷ rest)

-- `count` lists, whose elements stand from word 0 on, their lengths from word `at` on
pub record Laid (leaves : List (List ℕ)) (count at : ℕ) (words : List ℕ) : Type 0 where
  pub counted : count ≡ length leaves
  pub nodes : take (length (flatten leaves)) words ≡ flatten leaves
  pub sizes : take (length leaves) (drop at words) ≡ map length leaves

-- an index of at most 1,024 nodes, leaves of at least one, and room for 4 words a node
pub record Asked (maxLeaf n : ℕ) (words : List ℕ) : Type 0 where
  pub most : n ≤ 1024
  pub some : 1 ≤ maxLeaf
  pub room : 4 * n ≤ length words

-- the leaves are laid out, or 0 is returned and nothing is written
pub record Partitioned (maxLeaf minLeaf : ℕ) (fraction : Float) (vs : List (List Float)) (n : ℕ) (words words' : List ℕ) (count : ℕ) : Type 0 where
  pub made : length vs ≡ n → Asked maxLeaf n words → Laid (non_empty (leaves_of maxLeaf minLeaf fraction vs)) count (2 * n) words'
  pub refused : (Asked maxLeaf n words → ⊥) → (count ≡ 0) × (words' ≡ words)
