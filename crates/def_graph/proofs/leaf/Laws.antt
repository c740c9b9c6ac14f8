-- What leaf lists keep of the rows: n rows, at most max_degree entries each, all of them nodes of the leaves. Assumes nothing.
use mathlib.Core.Path.{◌≡◌, refl}
use mathlib.Core.Logic.{◌⊎◌, inl, inr}
use mathlib.Core.List.{List, [], ◌∷◌, ◌++◌}
use mathlib.Core.List.Memᴰ.{append_cases as in-cases}
use mathlib.Core.List.Memᴰ.{cases_cons as in-cons}
use mathlib.Core.List.Memᴰ.{head as here}
use mathlib.Core.List.Memᴰ.{not-nil as in-nil}
use mathlib.Core.List.Memᴰ.{tail as there}
use mathlib.Core.List.{Memᴰ as In}
use Prim.Native.Nat.{ℕ, zero, suc, ◌+◌, ◌*◌, ◌^◌, ◌≤◌, ◌<◌}
use native.Mathlib.Nat.{pow-suc}
use native.Mathlib.Omega.{arith}
use lib.Dec.{leb}
use lib.ListN.{length, get_or, take, drop, length-take}
use lib.Ieee.{Float, Format}
use Rattle.basics.specs.Choice.{pick_ind}
use Rattle.basics.specs.Nodes.{Below}
use Rattle.basics.specs.Inside.Rows.{Rows}
use Rattle.basics.proofs.Members.{in_take, in_drop}
use Rattle.basics.proofs.Rows.{set_rows}
use Rattle.sorting.specs.Sorting.{sort_by}
use Rattle.sorting.proofs.Laws.{in_sort}
use Rattle.distance.specs.Vectors.{between, rank}
use Rattle.def_graph.specs.Simhash.{bit_set, simhash_residual}
use Rattle.def_graph.specs.Leaf.{starts_with, dedup, hash_of, selected, merged, hashprune_insert, offered, candidates_at, places_to, build_leaf, build_leaves}
use Rattle.def_graph.proofs.leaf.Cells.{cells_in_lem}

-- a hash has its bits and no more
pub hash_below : (f : Format) (dimension : ℕ) (p c : List Float) (bits : ℕ) → simhash_residual f dimension p c bits < 2 ^ bits
unfolding simhash_residual
hash_below f dimension p c zero = omega arith
hash_below f dimension p c (suc bits) =
    let rec = hash_below f dimension p c bits in
    let double = pow-suc 2 bits in
    pick_ind (λ (weight : ℕ). simhash_residual f dimension p c bits + weight < 2 ^ suc bits) (bit_set f dimension p c bits) (λ _. omega arith) (λ _. omega arith)

pub dedup_in : {x : ℕ} (l : List ℕ) → In x (dedup l) → In x l
unfolding dedup
dedup_in [] = λ m. m
dedup_in {x} (y ∷ l) =
    let rec : In x (dedup l) → In x l = dedup_in l in
    pick_ind (λ (r : List ℕ). In x r → In x (y ∷ l)) (starts_with y (dedup l)) (λ _ m. there (rec m))
    (λ _ m. elim (in-cons {b = y} {l = dedup l} m) [ inl e ↦ here e | inr i ↦ there (rec i) ])

pub merged_in : {x : ℕ} (max_degree : ℕ) (vs : List (List Float)) (p : ℕ) (row new : List ℕ) → In x (merged max_degree vs p row new) → In x row ⊎ In x new
unfolding merged
merged_in max_degree vs p row new m = in-cases row (in_sort (rank vs p) _ (dedup_in _ (in_take max_degree _ m)))

pub merged_short : (max_degree : ℕ) (vs : List (List Float)) (p : ℕ) (row new : List ℕ) → length (merged max_degree vs p row new) ≤ max_degree
unfolding merged
merged_short max_degree vs p row new = omega (arith, length-take max_degree (dedup (sort_by (rank vs p) (row ++ new))))

pub candidates_in : {x : ℕ} (max_degree : ℕ) (vs : List (List Float)) (leaf : List ℕ) (i : ℕ) → In x (candidates_at max_degree vs leaf i) → In x leaf
unfolding candidates_at
candidates_in max_degree vs leaf i m =
    elim (in-cases (take i leaf) (in_sort (rank vs (get_or leaf i 0)) _ (in_take (offered max_degree leaf) _ m)))
    [ inl k ↦ in_take i leaf k | inr k ↦ in_drop (suc i) leaf k ]

-- at most 2·max_degree of them, so no more cells
pub candidates_few : (max_degree : ℕ) (vs : List (List Float)) (leaf : List ℕ) (i : ℕ) → length (candidates_at max_degree vs leaf i) ≤ 2 * max_degree
unfolding candidates_at
candidates_few max_degree vs leaf i =
    omega (arith, length-take (offered max_degree leaf) (sort_by (rank vs (get_or leaf i 0)) (take i leaf ++ drop (suc i) leaf)))

module _ (max_degree bits dimension : ℕ) (vs : List (List Float)) where
  pub selected_in : {x : ℕ} (p : ℕ) (candidates : List ℕ) → In x (selected max_degree bits dimension vs p candidates) → In x candidates
  unfolding selected
  selected_in {x} p candidates m =
      elim (cells_in_lem (between vs p) (hash_of bits dimension vs p) x [] candidates (in_sort (rank vs p) _ (in_take max_degree _ m)))
      [ inl i ↦ absurd (in-nil i) | inr i ↦ i ]

  -- ---- the rows

  module _ (n : ℕ) where
    pub insert_rows : (p : ℕ) (candidates : List ℕ) (rows : List (List ℕ))
        → Below n candidates → Rows n max_degree rows → Rows n max_degree (hashprune_insert max_degree bits dimension vs p candidates rows)
    unfolding hashprune_insert
    insert_rows p candidates rows below h =
        let new : List ℕ = selected max_degree bits dimension vs p candidates in
        set_rows n max_degree rows p _ h (merged_short max_degree vs p (get_or rows p []) new)
        (λ x m. elim (merged_in max_degree vs p (get_or rows p []) new m) [ inl i ↦ h.inside p x i | inr i ↦ below x (selected_in p candidates i) ])

    places_rows : (leaf : List ℕ) (rows : List (List ℕ)) (i : ℕ)
        → Below n leaf → Rows n max_degree rows → Rows n max_degree (places_to max_degree bits dimension vs leaf rows i)
    unfolding places_to
    places_rows leaf rows zero below h = h
    places_rows leaf rows (suc i) below h =
        insert_rows (get_or leaf i 0) (candidates_at max_degree vs leaf i) _ (λ x m. below x (candidates_in max_degree vs leaf i m))
        (places_rows leaf rows i below h)

    pub leaf_rows_lem : (leaf : List ℕ) (rows : List (List ℕ))
        → Below n leaf → Rows n max_degree rows → Rows n max_degree (build_leaf max_degree bits dimension vs leaf rows)
    unfolding build_leaf
    leaf_rows_lem leaf rows below h =
        pick_ind (Rows n max_degree) (leb (length leaf) 1) (λ _. h) (λ _. places_rows leaf rows (length leaf) below h)

    pub leaves_rows : (leaves rows : List (List ℕ)) → ((leaf : List ℕ) → In leaf leaves → Below n leaf)
        → Rows n max_degree rows → Rows n max_degree (build_leaves max_degree bits dimension vs leaves rows)
    unfolding build_leaves
    leaves_rows [] rows below h = h
    leaves_rows (leaf ∷ leaves) rows below h =
        leaves_rows leaves _ (λ l m. below l (there m)) (leaf_rows_lem leaf rows (below leaf (here refl)) h)

  -- leaves one after the other: those of the first buckets, then those of the rest
  pub build_append : (a b rows : List (List ℕ))
      → build_leaves max_degree bits dimension vs (a ++ b) rows
      ≡ build_leaves max_degree bits dimension vs b (build_leaves max_degree bits dimension vs a rows)
  unfolding build_leaves
  build_append [] b rows = refl
  build_append (leaf ∷ a) b rows = build_append a b (build_leaf max_degree bits dimension vs leaf rows)
