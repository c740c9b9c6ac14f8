-- What the steps of one node's turn say of each other, inside this crate (scope, part 5). A cell is held by the place of its candidate, and a node to
-- be sorted stands with its key.
use Rattle.std.specs.Prelude.{◌≡◌, List, [], ◌∷◌, ◌++◌, map, ℕ, zero, suc, ◌-◌, ◌≤◌, ◌<◌, min, length, get_or, take, Float}
use Rattle.std.specs.Float.{binary32, nan}
use Rattle.std.specs.Float.Ieee.{lt}
use Rattle.basics.specs.Choice.{pick}
use Rattle.basics.specs.Nodes.{Below}
use Rattle.distance.specs.Order.{key_of}
use Rattle.distance.specs.Distance.{distance_of}
use Rattle.distance.specs.Vectors.{vectors_of, vector_of}
use Rattle.distance.specs.declared.vectors.Vectors.{Vectors}
use Rattle.sorting.specs.declared.Keyed.{Keyed}
use Rattle.sorting.specs.Sorting.{sort_by}
use Rattle.sorting.specs.Inside.Pairs.{key_in, id_in, put_front}
use Rattle.def_graph.specs.Simhash.{residual}
use Rattle.def_graph.specs.Leaf.{Cell, nodes_in, cells_from, dedup}
use Rattle.simhash.specs.Inside.Blocks.{blocks_hash}
use Rattle.store.specs.View.{entries_in, row_block}
use Rattle.hashprune.specs.Inside.Hashprune.{node_of, far_of}
use Rattle.hashprune.specs.declared.Candidate.{Candidate}
use Rattle.hashprune.specs.declared.Cell.{Cell as Taken}
use Rattle.hashprune.specs.declared.Point.{Point}

-- ---- hash cells, each held by a place among the candidates

-- what is read past the end of a slice
abbrev pub no_cell : Taken
no_cell = record { hash = 0; place = 0 }

abbrev pub no_candidate : Candidate
no_candidate = record { node = record { 0 = 0 }; far = nan }

abbrev pub place_in : Taken → ℕ
place_in cell = cell.place

abbrev pub cell_in : Taken → Cell
cell_in cell = record { hash = cell.hash; node = cell.place }

abbrev pub cells_in : List Taken → List Cell
cells_in cells = map cell_in cells

-- the candidate at a place, and its distance
abbrev pub node_at : List Candidate → ℕ → ℕ
node_at candidates i = node_of (get_or candidates i no_candidate)

abbrev pub far_at : List Candidate → ℕ → Float
far_at candidates i = far_of (get_or candidates i no_candidate)

-- of two candidates that come to a cell, the one that is there stays unless the other is nearer
abbrev pub winner : List Candidate → ℕ → Taken → Taken
winner candidates place cell = record { hash = cell.hash; place = pick (lt (far_at candidates place) (far_at candidates cell.place)) place cell.place }

-- room for one cell more, whose candidate is there, as all that hold cells are
pub record ContestRoom (new : Taken) (cells : List Taken) (candidates : List Candidate) : Type 0 where
  pub room : length cells < 64
  pub place_inside : new.place < length candidates
  pub inside : Below (length candidates) (map place_in cells)

-- the hash by blocks of planes, of a residual cut to 64 components
abbrev pub hash_by : List Float → ℕ → List Float → List Float → ℕ
hash_by planes bits p c = blocks_hash (take 64 (residual binary32 c p)) planes (min bits 16)

-- the vector of the node whose turn it is
abbrev pub vector_at : Point → Vectors → List Float
vector_at p v = vector_of (vectors_of v) p.node.0

-- the hash of the candidate at a place
abbrev pub hash_at : Point → Vectors → List Float → List Candidate → ℕ → ℕ
hash_at p v planes candidates i = hash_by planes p.bits (vector_at p v) (vector_of (vectors_of v) (node_at candidates i))

-- 0 to n − 1
unfoldable pub first_places : ℕ → List ℕ
first_places zero = []
first_places (suc n) = first_places n ++ (n ∷ [])

-- the cells after all candidates have come
abbrev pub cells_of : Point → Vectors → List Float → List Candidate → List Cell
cells_of p v planes candidates = cells_from (far_at candidates) (hash_at p v planes candidates) [] (first_places (length candidates))

-- ---- nodes with the keys that they are sorted by

abbrev pub ranked_place : List Candidate → ℕ → Keyed
ranked_place candidates i = record { key = key_of binary32 (far_at candidates i); id = node_at candidates i }

abbrev pub ranked_node : Vectors → List Float → ℕ → Keyed
ranked_node v p x = record { key = key_of binary32 (distance_of binary32 p (vector_of (vectors_of v) x)); id = x }

-- the nodes that hold cells, the nearest first
abbrev pub selected_pairs : Point → Vectors → List Float → List Candidate → List Keyed
selected_pairs p v planes candidates = sort_by key_in (map (ranked_place candidates) (nodes_in (cells_of p v planes candidates)))

-- the entries that a row has
abbrev pub old_pairs : Vectors → List Float → List ℕ → List Keyed
old_pairs v p row = map (ranked_node v p) (entries_in row)

-- the nodes of pairs, sorted by their keys, of equal neighbours one, at most D of them
abbrev pub merged_pairs : ℕ → List Keyed → List ℕ
merged_pairs D ps = take D (dedup (map id_in (sort_by key_in ps)))

-- ---- what the steps ask

-- the cells are held by candidates, and there is room for a pair for each
pub record PlaceRoom (candidates : List Candidate) (cells : List Taken) (pairs : List Keyed) : Type 0 where
  pub held : Below (length candidates) (map place_in cells)
  pub room : length cells ≤ length pairs

-- a row with its count, of at most 32 entries, and room for a pair for each
pub record RowRoom (row : List ℕ) (pairs : List Keyed) : Type 0 where
  pub counted : 1 ≤ length row
  pub short : length row ≤ 33
  pub room : length row - 1 ≤ length pairs

-- room to sort pairs, and a row
pub record MergeRoom (pairs spare : List Keyed) (row : List ℕ) : Type 0 where
  pub few : length pairs ≤ 64
  pub spare_room : length pairs ≤ length spare
  pub counted : 1 ≤ length row

-- room for a pair for each of n candidates, and to sort them
pub record SelectRoom (n : ℕ) (pairs spare : List Keyed) : Type 0 where
  pub few : n ≤ 64
  pub room : n ≤ length pairs
  pub spare_room : n ≤ length spare

-- r pairs are put at the front of a slice, no more than there were candidates
pub record Selected (ps : List Keyed) (n r : ℕ) (pairs pairs' : List Keyed) : Type 0 where
  pub many : r ≡ length ps
  pub few : r ≤ n
  pub are : pairs' ≡ put_front ps pairs

-- the sizes that a turn takes
pub record TurnRoom (candidates : List Candidate) (row : List ℕ) : Type 0 where
  pub few : length candidates ≤ 64
  pub counted : 1 ≤ length row
  pub short : length row ≤ 33

-- the row after a turn, by what the steps say
abbrev pub row_after : Point → Vectors → List Float → List Candidate → List ℕ → List ℕ
row_after p v planes candidates row =
    let D : ℕ = length row - 1 in
    row_block D (merged_pairs D (old_pairs v (vector_at p v) row ++ take D (selected_pairs p v planes candidates)))
