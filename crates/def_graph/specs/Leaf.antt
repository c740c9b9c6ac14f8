-- Leaf lists (scope, part 5; `build_leaf`, `hashprune_insert`). Each position of a leaf offers its node the nearest of the other positions. These go
-- into hash cells, one node to a cell; the nearest of the nodes that hold cells are merged with what the node's row has from earlier leaves. Leaves
-- are processed in order, positions in order, each seeing the rows as those before left them. Rows are a list of lists, node by node.
--
-- A node's distances are from it to the other: the Rust writes the earlier place's vector first and uses the number both ways, which is the
-- same (`between-sym` of Rattle.distance.proofs.vectors.Laws). Its stop at 2·max_degree filled cells never comes before the candidates end, of which
-- there are no more (`candidates_few`), and with at most 16 hash bits each hash has a cell of its own.
use Rattle.std.specs.Prelude.{Bool, false, leb, ltb, eqb, length, get_or, take, drop, Float}
use mathlib.Core.List.{List, [], ◌∷◌, ◌++◌, map}
use Prim.Native.Nat.{ℕ, zero, suc, ◌-◌, ◌*◌, min}
use Rattle.std.proofs.Math.ListN.{set}
use Rattle.std.specs.Float.{binary32}
use Rattle.std.specs.Float.Ieee.{lt}
use Rattle.basics.specs.Choice.{pick}
use Rattle.sorting.specs.Sorting.{sort_by, first_by}
use Rattle.distance.specs.Vectors.{vector_of, between, rank}
use Rattle.def_graph.specs.Simhash.{simhash_residual}

-- ---- hash cells

-- a hash, and the node that holds its cell
pub record Cell : Type 0 where
  pub hash : ℕ
  pub node : ℕ

abbrev pub nodes_in : List Cell → List ℕ
nodes_in cells = map (λ (cell : Cell). cell.node) cells

-- A node comes to its cell; `far` is its distance. Cells stand in rising order of hash. A cell that is taken is won only by a strictly
-- smaller distance.
unfoldable pub put_cell : (ℕ → Float) → Cell → List Cell → List Cell
unfolding pick
put_cell far new [] = new ∷ []
put_cell far new (old ∷ cells) =
    pick (ltb new.hash old.hash) (new ∷ old ∷ cells)
    (pick (eqb new.hash old.hash) (pick (lt (far new.node) (far old.node)) new old ∷ cells) (old ∷ put_cell far new cells))

-- the candidates come in their order
unfoldable pub cells_from : (ℕ → Float) → (ℕ → ℕ) → List Cell → List ℕ → List Cell
unfolding put_cell
cells_from far hash cells [] = cells
cells_from far hash cells (c ∷ candidates) = cells_from far hash (put_cell far (record { hash = hash c; node = c }) cells) candidates

-- ---- one node's row

-- `dedup_by_key`: of equal neighbours one stays; equal nodes that are no neighbours all stay
abbrev pub starts_with : ℕ → List ℕ → Bool
starts_with x [] = false
starts_with x (y ∷ ys) = eqb x y

unfoldable pub dedup : List ℕ → List ℕ
unfolding pick
dedup [] = []
dedup (x ∷ xs) = let rest : List ℕ = dedup xs in pick (starts_with x rest) rest (x ∷ rest)

-- what the row has comes first
unfoldable pub merged : ℕ → List (List Float) → ℕ → List ℕ → List ℕ → List ℕ
unfolding sort_by rank dedup
merged max_degree vs p row new = take max_degree (dedup (sort_by (rank vs p) (row ++ new)))

-- the hash of the residual of a candidate c, seen from p
unfoldable pub hash_of : ℕ → ℕ → List (List Float) → ℕ → ℕ → ℕ
unfolding simhash_residual
hash_of bits dimension vs p c = simhash_residual binary32 dimension (vector_of vs p) (vector_of vs c) bits

-- a place is offered up to twice as many nodes as its row can take
abbrev pub offered : ℕ → List ℕ → ℕ
offered max_degree leaf = 2 * min max_degree (length leaf - 1)

-- the other places of a leaf as place i sees them, the nearest first; of equally near ones the earlier place
unfoldable pub candidates_at : ℕ → List (List Float) → List ℕ → ℕ → List ℕ
unfolding sort_by rank
candidates_at max_degree vs leaf i = first_by (rank vs (get_or leaf i 0)) (offered max_degree leaf) (take i leaf ++ drop (suc i) leaf)

module _ (max_degree bits dimension : ℕ) (vs : List (List Float)) where
  -- the nearest of the nodes that hold cells after the candidates have come; of equally near ones that of the lower hash
  unfoldable pub selected : ℕ → List ℕ → List ℕ
  unfolding sort_by rank between hash_of cells_from
  selected p candidates = first_by (rank vs p) max_degree (nodes_in (cells_from (between vs p) (hash_of bits dimension vs p) [] candidates))

  unfoldable pub hashprune_insert : ℕ → List ℕ → List (List ℕ) → List (List ℕ)
  unfolding selected merged
  hashprune_insert p candidates rows = set rows p (merged max_degree vs p (get_or rows p []) (selected p candidates))

  -- ---- a leaf

  -- the rows after the turns of the places below i
  unfoldable pub places_to : List ℕ → List (List ℕ) → ℕ → List (List ℕ)
  unfolding hashprune_insert candidates_at
  places_to leaf rows zero = rows
  places_to leaf rows (suc i) = hashprune_insert (get_or leaf i 0) (candidates_at max_degree vs leaf i) (places_to leaf rows i)

  -- a leaf of one node or none changes nothing
  unfoldable pub build_leaf : List ℕ → List (List ℕ) → List (List ℕ)
  unfolding pick places_to
  build_leaf leaf rows = pick (leb (length leaf) 1) rows (places_to leaf rows (length leaf))

  unfoldable pub build_leaves : List (List ℕ) → List (List ℕ) → List (List ℕ)
  unfolding build_leaf
  build_leaves [] rows = rows
  build_leaves (leaf ∷ leaves) rows = build_leaves leaves (build_leaf leaf rows)
