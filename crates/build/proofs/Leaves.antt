-- The leaves that carving leaves in words are those that the leaf lists are built from; and the steps of a build's rows, one after the other,
-- make the rows of the definition. Assumes nothing.
use mathlib.Core.Path.{◌≡◌, refl, sym, ap, subst, ◌∙◌}
use mathlib.Core.Logic.{inl, inr}
use mathlib.Core.List.{List, [], ◌∷◌, flatten, append-nil}
use mathlib.Core.List.Memᴰ.{append_cases as in-cases}
use mathlib.Core.List.Memᴰ.{head as here}
use mathlib.Core.List.Memᴰ.{not-nil as in-nil}
use mathlib.Core.List.Memᴰ.{tail as there}
use mathlib.Core.List.{Memᴰ as In}
use Prim.Native.Nat.{ℕ, ◌*◌, ◌≤◌, ◌<◌}
use native.Mathlib.Decide.{dec_le}
use native.Mathlib.Omega.{arith}
use lib.Dec.{leb}
use lib.ListN.{length, get_or, take, drop, replicate, length-append, length-replicate}
use lib.Ieee.{Float}
use borrow.Author.Tests.{le-leb, lt-leb}
use Rattle.basics.specs.Choice.{pick_ind, pick_true, pick_false}
use Rattle.basics.specs.Nodes.{Below}
use Rattle.basics.specs.Inside.Rows.{Rows}
use Rattle.params.specs.declared.PipnnParams.{PipnnParams}
use Rattle.distance.specs.Vectors.{vectors_of}
use Rattle.distance.specs.declared.vectors.Vectors.{Vectors}
use Rattle.def_graph.specs.Partition.{leaves_of}
use Rattle.def_graph.proofs.partition.Laws.{entries-length, entries_once, entries_twice, leaves_below}
use Rattle.def_graph.specs.Leaf.{build_leaves}
use Rattle.def_graph.specs.Refine.{add_reverse_edges}
use Rattle.carving.specs.Inside.Carving.{non_empty, Laid, Partitioned}
use Rattle.carving.proofs.Leaves.{flatten-full, length-full}
use Rattle.carving.proofs.Build.{build_full}
use Rattle.build_leaf.specs.declared.LeafParams.{LeafParams}
use Rattle.build_leaf.specs.Inside.Built.{Sizes, LeavesIn, Built}
use Rattle.finish.specs.Inside.Reversed.{Reversed}
use Rattle.def_graph.specs.Rows.{Settings, leaf_rows, reversed_rows, rows_of}
use Rattle.def_graph.proofs.graph_rows.Laws.{leaf_bounds, prune_changes_nothing}
use Rattle.lists.specs.Inside.Words.{Blocks}
use Rattle.lists.proofs.Blocks.{cleared_blocks}
use Rattle.def_calls.specs.Graph.{settings_of}
use Rattle.build.specs.Inside.Fits.{leaf_entries, leaf_of, LeavesPut, RowsFit}
use Rattle.build.proofs.Repairing.{vectors_many}

pub entries_most : (n maxLeaf : ℕ) → leaf_entries n maxLeaf ≤ 2 * n
entries_most n maxLeaf = pick_ind (λ (k : ℕ). k ≤ 2 * n) (leb n maxLeaf) (λ _. omega arith) (λ _. omega arith)

-- ---- all leaves' nodes, one after the other

flatten_below : (n : ℕ) (ls : List (List ℕ)) → ((l : List ℕ) → In l ls → Below n l) → Below n (flatten ls)
unfolding flatten
flatten_below n [] h x m = absurd (in-nil m)
flatten_below n (l ∷ ls) h x m = elim (in-cases l m) [ inl i ↦ h l (here refl) x i | inr i ↦ flatten_below n ls (λ k j. h k (there j)) x i ]

leaf_within : (ls : List (List ℕ)) (l : List ℕ) → In l ls → length l ≤ length (flatten ls)
unfolding flatten
leaf_within [] l m = absurd (in-nil m)
leaf_within (k ∷ ls) l (here e) = let s = length-append k (flatten ls) in omega (arith, ap (length {A = ℕ}) e)
leaf_within (k ∷ ls) l (there m) = omega (arith, leaf_within ls l m, length-append k (flatten ls))

module _ (maxLeaf minLeaf : ℕ) (fraction : Float) (vs : List (List Float)) (some : 1 ≤ maxLeaf) where
  abbrev leaves : List (List ℕ)
  leaves = leaves_of maxLeaf minLeaf fraction vs

  leaves_total : length (flatten leaves) ≡ leaf_entries (length vs) maxLeaf
  leaves_total = elim (dec_le (length vs) maxLeaf) [
    | yes h ↦ sym (entries-length leaves) ∙ entries_once maxLeaf minLeaf fraction vs h ∙ sym (pick_true _ _ (le-leb _ _ h))
    | no h ↦
        let more : maxLeaf < length vs = omega arith in
        sym (entries-length leaves) ∙ entries_twice maxLeaf minLeaf fraction vs some more ∙ sym (pick_false _ _ (lt-leb _ _ more))
  ]

  pub full_total : length (flatten (non_empty leaves)) ≡ leaf_entries (length vs) maxLeaf
  full_total = ap length (flatten-full leaves) ∙ leaves_total

  pub full_below : Below (length vs) (flatten (non_empty leaves))
  full_below = subst (Below (length vs)) (sym (flatten-full leaves)) (flatten_below (length vs) leaves (leaves_below maxLeaf minLeaf fraction vs))

  pub full_count : length (non_empty leaves) ≤ 2 * length vs
  full_count = omega (arith, length-full leaves, leaves_total, entries_most (length vs) maxLeaf)

-- ---- the leaves as the leaf lists' code takes them

leaves_in : (n maxLeaf count room : ℕ) (leaves : List (List ℕ)) (carved nodes sizes : List ℕ) → length (flatten leaves) ≡ leaf_entries n maxLeaf
    → Laid leaves count (2 * n) carved → Below n (flatten leaves) → 16 * n ≤ room → nodes ≡ take (leaf_entries n maxLeaf) carved
    → sizes ≡ take count (drop (2 * n) carved) → LeavesIn n leaves nodes sizes room
leaves_in n maxLeaf count room leaves carved nodes sizes total laid below fits nodes_are sizes_are =
    let all : nodes ≡ flatten leaves = nodes_are ∙ ap (λ (k : ℕ). take k carved) (sym total) ∙ laid.nodes in
    record {
      rest = [];
      nodes_are = all ∙ sym (append-nil (flatten leaves));
      sizes_are = sizes_are ∙ ap (λ (k : ℕ). take k (drop (2 * n) carved)) laid.counted ∙ laid.sizes;
      nodes_below = subst (Below n) (sym all) below;
      leaf_most = λ leaf m. let within = leaf_within leaves leaf m in omega (arith, within, total, entries_most n maxLeaf);
      room_is = fits;
    }

pub built_from : (n maxLeaf : ℕ) (leaf : LeafParams) (count room : ℕ) (vectors : Vectors) (carved nodes sizes rows rows' : List ℕ) → nodes ≡ take (leaf_entries n maxLeaf) carved
    → sizes ≡ take count (drop (2 * n) carved) → Built leaf vectors nodes sizes room rows rows' → LeavesPut n maxLeaf leaf vectors carved count room rows rows'
built_from n maxLeaf leaf count room vectors carved nodes sizes rows rows' nodes_are sizes_are built =
    λ leaves rs fit many total laid below fits blocks.
    built rs leaves (rw many fit) (rw many (leaves_in n maxLeaf count room leaves carved nodes sizes total laid below fits nodes_are sizes_are)) blocks

-- ---- the steps of the rows

module _ (n : ℕ) (v : Vectors) (p : PipnnParams) (rows₀ : List ℕ) (words words' : List ℕ) (count room : ℕ)
    (fit : RowsFit n v.dimension p rows₀ v.components.now (length words) room)
    (carved : Partitioned p.max_leaf_size p.min_leaf_size p.leader_fraction (vectors_of v) n words words' count) where
  abbrev vs : List (List Float)
  vs = vectors_of v

  abbrev d : ℕ
  d = v.dimension

  abbrev D : ℕ
  D = p.max_degree

  abbrev s : Settings
  s = settings_of d p

  abbrev full : List (List ℕ)
  full = non_empty (leaves_of p.max_leaf_size p.min_leaf_size p.leader_fraction vs)

  many : length vs ≡ n
  many = vectors_many n d v.components.now fit.dimension_some fit.vectors_are

  laid : Laid full count (2 * n) words'
  laid = carved.made many (record { most = fit.most; some = fit.leaf_some; room = fit.words_room })

  pub carved_count : count ≤ 2 * n
  carved_count =
      let few = full_count p.max_leaf_size p.min_leaf_size p.leader_fraction vs fit.leaf_some in
      omega (arith, laid.counted, few, many)

  leaf_lists : (rows₁ rows₂ : List ℕ) → rows₁ ≡ replicate (length rows₀) 0
      → LeavesPut n p.max_leaf_size (leaf_of p) v words' count room rows₁ rows₂ → Blocks D (leaf_rows s vs) rows₂
  unfolding leaf_rows
  leaf_lists rows₁ rows₂ cleared put =
      let sizes : Sizes n (leaf_of p) v = record {
        nodes_most = fit.most;
        degree_most = fit.degree_most;
        bits_most = fit.bits_most;
        dimension_some = fit.dimension_some;
        dimension_most = fit.dimension_most;
        vectors_are = fit.vectors_are;
      } in
      let total = full_total p.max_leaf_size p.min_leaf_size p.leader_fraction vs fit.leaf_some ∙ ap (λ (k : ℕ). leaf_entries k p.max_leaf_size) many in
      let below = subst (λ (k : ℕ). Below k (flatten full)) many (full_below p.max_leaf_size p.min_leaf_size p.leader_fraction vs fit.leaf_some) in
      let blank : Blocks D (replicate n []) rows₁ =
      subst (Blocks D (replicate n [])) (sym (cleared ∙ ap (λ (k : ℕ). replicate k 0) fit.rows_are)) (cleared_blocks D n) in
      let built = put full (replicate n []) sizes (length-replicate n []) total laid below fit.floats_room blank in
      subst (λ (rs : List (List ℕ)). Blocks D rs rows₂)
      (build_full D p.num_hash_bits d vs (leaves_of p.max_leaf_size p.min_leaf_size p.leader_fraction vs) (replicate n [])
      ∙ ap (λ (k : ℕ). build_leaves D p.num_hash_bits d vs (leaves_of p.max_leaf_size p.min_leaf_size p.leader_fraction vs) (replicate k [])) (sym many))
      built

  pub rows_made : (rows₁ rows₂ rows₃ : List ℕ) → rows₁ ≡ replicate (length rows₀) 0
      → LeavesPut n p.max_leaf_size (leaf_of p) v words' count room rows₁ rows₂ → Reversed D rows₂ rows₃ → Blocks D (rows_of s vs) rows₃
  unfolding reversed_rows
  rows_made rows₁ rows₂ rows₃ cleared put reversed =
      let bounds : Rows (length vs) D (leaf_rows s vs) = leaf_bounds s vs in
      let below : (u : ℕ) → Below (length (leaf_rows s vs)) (get_or (leaf_rows s vs) u []) = λ u. rw bounds.many (bounds.inside u) in
      let back : Blocks D (add_reverse_edges D (leaf_rows s vs)) rows₃ =
      reversed (leaf_rows s vs) (leaf_lists rows₁ rows₂ cleared put) (omega (arith, bounds.many, many, fit.most)) below in
      subst (λ (rs : List (List ℕ)). Blocks D rs rows₃) (sym (prune_changes_nothing s vs)) back
