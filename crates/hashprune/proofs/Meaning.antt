-- What the steps make of a turn is what the definitions of part 5 say, where the caller prepared what `Turn` says: an index stands for its candidate,
-- a pair for its node. Assumes nothing.
use mathlib.Core.Path.{◌≡◌, refl, sym, ap, ap₂, subst, ◌∙◌}
use mathlib.Core.Logic.{inl, inr}
use mathlib.Core.Bool.{Bool}
use mathlib.Core.List.{List, [], ◌∷◌, ◌++◌, map, map-append, map-map, map-id}
use mathlib.Core.List.Memᴰ.{eq_of_singleton as in_one}
use mathlib.Core.List.Memᴰ.{head as here}
use mathlib.Core.List.Memᴰ.{not-nil as in-nil}
use mathlib.Core.List.Memᴰ.{tail as there}
use Prim.Native.Nat.{ℕ, zero, suc, ◌-◌, ◌*◌, ◌/◌, ◌≤◌, ◌<◌, min}
use native.Mathlib.Nat.{mul-le-mul_right, div-mul-le_self}
use native.Mathlib.Omega.{arith}
use lib.Dec.{ltb, eqb}
use lib.ListN.{length, get_or, take, length-map, length-take, length-drop, get_or-map}
use lib.Seq.{take_all, take_at}
use lib.Ieee.{Float, binary32, nan, lt}
use Rattle.basics.specs.Choice.{pick}
use Rattle.basics.specs.Nodes.{Below}
use Rattle.basics.proofs.Pieces.{nth_piece}
use Rattle.basics.proofs.Members.{in_get_d}
use Rattle.distance.specs.Order.{key_of}
use Rattle.sorting.specs.Sorting.{sort_by}
use Rattle.sorting.specs.Inside.Pairs.{key_in, id_in}
use Rattle.sorting.proofs.Laws.{sort_map, take-map}
use Rattle.distance.specs.Vectors.{vectors_in, vector_of, between, rank}
use Rattle.distance.specs.declared.vectors.Vectors.{Vectors}
use Rattle.sorting.specs.declared.Keyed.{Keyed}
use Rattle.def_graph.specs.Simhash.{residual}
use Rattle.def_graph.specs.Leaf.{Cell, nodes_in, put_cell, cells_from, dedup, hash_of, selected, merged}
use Rattle.def_graph.proofs.leaf.Cells.{cells_in_lem}
use Rattle.simhash.specs.Inside.Blocks.{blocks_hash}
use Rattle.simhash.proofs.Residual.{length-residual}
use Rattle.simhash.proofs.Laws.{hash_is_simhash}
use Rattle.store.specs.View.{entries_in, row_block}
use Rattle.hashprune.specs.declared.Candidate.{Candidate}
use Rattle.hashprune.specs.declared.Point.{Point}
use Rattle.hashprune.specs.Inside.Steps.{no_candidate, node_at, far_at, hash_at, first_places, cells_of, ranked_place, ranked_node, selected_pairs, old_pairs, merged_pairs, row_after}
use Rattle.hashprune.specs.Inside.Hashprune.{Turn, node_of, far_of}
use Rattle.hashprune.proofs.Cells.{cells_below, places_below}

-- ---- lists

map_same {ℓ} : {B : Type ℓ} (f g : ℕ → B) (n : ℕ) (xs : List ℕ) → Below n xs → ((i : ℕ) → i < n → f i ≡ g i) → map f xs ≡ map g xs
map_same f g n [] b e = refl
map_same f g n (x ∷ xs) b e = ap₂ (λ y l. y ∷ l) (e x (b x (here refl))) (map_same f g n xs (λ y m. b y (there m)) e)

-- ---- cells seen through their places

module _ (node : ℕ → ℕ) where
  abbrev held_by : Cell → Cell
  held_by cell = record { hash = cell.hash; node = node cell.node }

  module _ (far : ℕ → Float) where
    put_map : (new : Cell) (cells : List Cell) → put_cell far (held_by new) (map held_by cells) ≡ map held_by (put_cell (λ i. far (node i)) new cells)
    unfolding put_cell pick
    put_map new [] = refl
    put_map new (old ∷ cells) =
        go (ltb new.hash old.hash) (eqb new.hash old.hash) (lt (far (node new.node)) (far (node old.node))) (put_map new cells)
      where
        go : (less same won : Bool)
            → put_cell far (held_by new) (map held_by cells) ≡ map held_by (put_cell (λ i. far (node i)) new cells)
            → pick less (held_by new ∷ held_by old ∷ map held_by cells)
            (pick same (pick won (held_by new) (held_by old) ∷ map held_by cells) (held_by old ∷ put_cell far (held_by new) (map held_by cells)))
            ≡ map held_by (pick less (new ∷ old ∷ cells) (pick same (pick won new old ∷ cells) (old ∷ put_cell (λ i. far (node i)) new cells)))
        go mathlib.Core.Bool.true same won e = refl
        go mathlib.Core.Bool.false mathlib.Core.Bool.true mathlib.Core.Bool.true e = refl
        go mathlib.Core.Bool.false mathlib.Core.Bool.true mathlib.Core.Bool.false e = refl
        go mathlib.Core.Bool.false mathlib.Core.Bool.false won e = ap (λ (l : List Cell). held_by old ∷ l) e

    cells_map : (hash : ℕ → ℕ) (cells : List Cell) (xs : List ℕ)
        → cells_from far hash (map held_by cells) (map node xs) ≡ map held_by (cells_from (λ i. far (node i)) (λ i. hash (node i)) cells xs)
    unfolding cells_from
    cells_map hash cells [] = refl
    cells_map hash cells (x ∷ xs) =
        ap (λ (l : List Cell). cells_from far hash l (map node xs)) (put_map (record { hash = hash (node x); node = x }) cells)
        ∙ cells_map hash (put_cell (λ i. far (node i)) (record { hash = hash (node x); node = x }) cells) xs

  nodes_map : (cells : List Cell) → nodes_in (map held_by cells) ≡ map node (nodes_in cells)
  nodes_map [] = refl
  nodes_map (c ∷ cells) = ap (λ (l : List ℕ). node c.node ∷ l) (nodes_map cells)

-- cells depend on the distances and hashes of what came alone
module _ (n : ℕ) (far far' : ℕ → Float) (same : (i : ℕ) → i < n → far i ≡ far' i) where
  put_same : (new : Cell) (cells : List Cell) → new.node < n → Below n (nodes_in cells) → put_cell far new cells ≡ put_cell far' new cells
  unfolding put_cell
  put_same new [] h b = refl
  put_same new (old ∷ cells) h b =
      let x : far new.node ≡ far' new.node = same new.node h in
      let y : far old.node ≡ far' old.node = same old.node (b old.node (here refl)) in
      let rec : put_cell far new cells ≡ put_cell far' new cells = put_same new cells h (λ z m. b z (there m)) in
      λ j. pick (ltb new.hash old.hash) (new ∷ old ∷ cells)
      (pick (eqb new.hash old.hash) (pick (lt (x j) (y j)) new old ∷ cells) (old ∷ rec j))

  put_below : (new : Cell) (cells : List Cell) → new.node < n → Below n (nodes_in cells) → Below n (nodes_in (put_cell far' new cells))
  unfolding cells_from
  put_below new cells h b x m =
      elim (cells_in_lem far' (λ (i : ℕ). new.hash) x cells (new.node ∷ []) m) [ inl k ↦ b x k | inr k ↦ let e = in_one k in omega arith ]

  cells_same : (hash hash' : ℕ → ℕ) → ((i : ℕ) → i < n → hash i ≡ hash' i) → (cells : List Cell) (xs : List ℕ) → Below n (nodes_in cells) → Below n xs
      → cells_from far hash cells xs ≡ cells_from far' hash' cells xs
  unfolding cells_from
  cells_same hash hash' e cells [] b s = refl
  cells_same hash hash' e cells (x ∷ xs) b s =
      let h : x < n = s x (here refl) in
      let new : Cell = record { hash = hash' x; node = x } in
      ap (λ (l : List Cell). cells_from far hash l xs)
      (ap (λ (k : ℕ). put_cell far (record { hash = k; node = x }) cells) (e x h) ∙ put_same new cells h b)
      ∙ cells_same hash hash' e (put_cell far' new cells) xs (put_below new cells h b) (λ y m. s y (there m))

-- a list by its places
places_all : (l : List Candidate) (n : ℕ) → n ≤ length l → map (node_at l) (first_places n) ≡ map node_of (take n l)
unfolding first_places
places_all l zero h = refl
places_all l (suc n) h =
    map-append (node_at l) (first_places n) (n ∷ [])
    ∙ ap (λ (r : List ℕ). r ++ (node_at l n ∷ [])) (places_all l n (omega arith))
    ∙ sym (ap (map node_of) (lib.Seq.take-suc l n no_candidate (omega arith)) ∙ map-append node_of (take n l) (get_or l n no_candidate ∷ []))

-- ---- pairs that stand for nodes

module _ (f : ℕ → ℕ) where
  abbrev ranked : ℕ → Keyed
  ranked x = record { key = f x; id = x }

  sort_ranked : (xs : List ℕ) → sort_by key_in (map ranked xs) ≡ map ranked (sort_by f xs)
  sort_ranked xs = sort_map key_in ranked xs

  merged_ranked : (D : ℕ) (xs : List ℕ) → merged_pairs D (map ranked xs) ≡ take D (dedup (sort_by f xs))
  merged_ranked D xs =
      ap (λ (l : List ℕ). take D (dedup l)) (ap (map id_in) (sort_ranked xs) ∙ map-map id_in ranked (sort_by f xs) ∙ map-id (sort_by f xs))

-- ---- the turn

-- a node that is there has a vector of full dimension
full : (vectors : List Float) (d i : ℕ) → i < length vectors / d → length (vector_of (vectors_in d vectors) i) ≡ d
full vectors d i h =
    let more : suc i ≤ length vectors / d = h in
    let fits : suc i * d ≤ length vectors / d * d = mul-le-mul_right d more in
    let whole = div-mul-le_self (length vectors) d in
    ap length (nth_piece d (length vectors / d) vectors i h) ∙ simp (length-take, length-drop) (omega arith)

module _ (v : Vectors) (point : Point) (planes : List Float) (candidates : List Candidate) (row old : List ℕ)
    (t : Turn v.components.now v.dimension point.bits planes point.node.0 (map node_of candidates) (map far_of candidates) row old) where
  abbrev vectors : List Float
  vectors = v.components.now

  abbrev dimension : ℕ
  dimension = v.dimension

  abbrev bits : ℕ
  bits = point.bits

  abbrev p : ℕ
  p = point.node.0

  abbrev vs : List (List Float)
  vs = vectors_in dimension vectors

  abbrev nodes : List ℕ
  nodes = map node_of candidates

  abbrev n : ℕ
  n = length candidates

  many : length nodes ≡ n
  many = length-map candidates node_of

  node_same : (i : ℕ) → get_or nodes i 0 ≡ node_at candidates i
  node_same i = get_or-map node_of candidates i no_candidate

  far_same : (i : ℕ) → i < n → far_at candidates i ≡ between vs p (node_at candidates i)
  far_same i h =
      sym (get_or-map far_of candidates i no_candidate)
      ∙ ap (λ (l : List Float). get_or l i nan) t.far_is
      ∙ default (map (between vs p) nodes) i (omega (arith, length-map nodes (between vs p), many))
      ∙ get_or-map (between vs p) nodes i 0
      ∙ ap (between vs p) (node_same i)
    where
      default : (l : List Float) (i : ℕ) → i < length l → get_or l i nan ≡ get_or l i (between vs p 0)
      default [] i h = absurd (omega arith)
      default (x ∷ l) zero h = refl
      default (x ∷ l) (suc i) h = default l i (omega arith)

  hash_same : (i : ℕ) → i < n → hash_at point v planes candidates i ≡ hash_of bits dimension vs p (node_at candidates i)
  unfolding hash_of
  hash_same i h =
      let pv : List Float = vector_of vs p in
      let cv : List Float = vector_of vs (node_at candidates i) in
      let pl : length pv ≡ dimension = full vectors dimension p t.p_there in
      let cl : length cv ≡ dimension = full vectors dimension (node_at candidates i) (subst (λ (x : ℕ). x < length vectors / dimension) (node_same i) (t.candidates_there (get_or nodes i 0) (in_get_d nodes i 0 (omega (arith, many))))) in
      let long : length (residual binary32 cv pv) ≡ dimension = omega (arith, length-residual binary32 cv pv) in
      let ps = t.planes_are in
      ap (λ (r : List Float). blocks_hash r planes (min bits 16)) (take_all 64 (residual binary32 cv pv) (omega (arith, t.dimension_most)))
      ∙ ap (λ (l : List Float). blocks_hash (residual binary32 cv pv) l (min bits 16)) ps.are
      ∙ hash_is_simhash ps.numbers dimension bits (length planes) ps.rest pv cv ps.enough ps.room t.bits_most long

  entries_are : entries_in row ≡ old
  entries_are = ap entries_in t.row_is ∙ take_at old _ (length old) refl

  -- the pairs of the row's entries, and of the nodes that hold cells
  old_are : old_pairs v (vector_of vs p) row ≡ map (ranked (rank vs p)) old
  unfolding rank between
  old_are = ap (map (ranked_node v (vector_of vs p))) entries_are

  place_ranked : (i : ℕ) → i < n → ranked_place candidates i ≡ ranked (rank vs p) (node_at candidates i)
  unfolding rank
  place_ranked i h = ap (λ (x : Float). record { key = key_of binary32 x; id = node_at candidates i }) (far_same i h)

  cells_are : map (ranked_place candidates) (nodes_in (cells_of point v planes candidates))
      ≡ map (ranked (rank vs p)) (nodes_in (cells_from (between vs p) (hash_of bits dimension vs p) [] nodes))
  cells_are =
      let places : List Cell = cells_of point v planes candidates in
      let by_node : places ≡ cells_from (λ i. between vs p (node_at candidates i)) (λ i. hash_of bits dimension vs p (node_at candidates i)) [] (first_places n)
      = cells_same n (far_at candidates) (λ i. between vs p (node_at candidates i)) far_same (hash_at point v planes candidates)
      (λ i. hash_of bits dimension vs p (node_at candidates i)) hash_same [] (first_places n) (λ x m. absurd (in-nil m)) (λ x m. places_below n x m) in
      let all : map (node_at candidates) (first_places n) ≡ nodes = places_all candidates n (omega arith) ∙ ap (map node_of) (lib.Seq.take-length candidates) in
      map_same (ranked_place candidates) (λ i. ranked (rank vs p) (node_at candidates i)) n (nodes_in places)
      (cells_below (far_at candidates) (hash_at point v planes candidates) n) place_ranked
      ∙ sym (map-map (ranked (rank vs p)) (node_at candidates) (nodes_in places))
      ∙ ap (map (ranked (rank vs p)))
      (ap (λ (l : List Cell). map (node_at candidates) (nodes_in l)) by_node
      ∙ sym (nodes_map (node_at candidates) (cells_from (λ i. between vs p (node_at candidates i)) (λ i. hash_of bits dimension vs p (node_at candidates i)) [] (first_places n)))
      ∙ ap nodes_in (sym (cells_map (node_at candidates) (between vs p) (hash_of bits dimension vs p) [] (first_places n)))
      ∙ ap (λ (l : List ℕ). nodes_in (cells_from (between vs p) (hash_of bits dimension vs p) [] l)) all)

  selected_are : take (length row - 1) (selected_pairs point v planes candidates)
      ≡ map (ranked (rank vs p)) (selected (length row - 1) bits dimension vs p nodes)
  unfolding selected
  selected_are =
      let held : List ℕ = nodes_in (cells_from (between vs p) (hash_of bits dimension vs p) [] nodes) in
      ap (λ (l : List Keyed). take (length row - 1) (sort_by key_in l)) cells_are
      ∙ ap (take (length row - 1)) (sort_ranked (rank vs p) held)
      ∙ take-map (ranked (rank vs p)) (length row - 1) (sort_by (rank vs p) held)

  pub turn_is : row_after point v planes candidates row
      ≡ row_block (length row - 1) (merged (length row - 1) vs p old (selected (length row - 1) bits dimension vs p nodes))
  unfolding merged
  turn_is =
      let new : List ℕ = selected (length row - 1) bits dimension vs p nodes in
      ap (row_block (length row - 1))
      (ap (merged_pairs (length row - 1)) (ap₂ (λ (a b : List Keyed). a ++ b) old_are selected_are ∙ sym (map-append (ranked (rank vs p)) old new))
      ∙ merged_ranked (rank vs p) (length row - 1) (old ++ new))
