-- The entry node and the bridges, written: what the word store then is. Assumes nothing.
use mathlib.Core.Path.{◌≡◌, sym, ap, ap₂, subst, ◌∙◌}
use mathlib.Core.List.{List, [], map, flatten}
use Prim.Native.Nat.{ℕ, ◌*◌, ◌/◌, ◌≤◌, ◌<◌, min}
use native.Mathlib.Nat.{mul-div_cancel}
use native.Mathlib.Omega.{arith}
use lib.ListN.{length, get_or, take, drop, set, length-map}
use lib.Seq.{take_at}
use lib.Ieee.{Float}
use Rattle.basics.specs.Graph.{Bridge}
use Rattle.basics.specs.Lists.{pieces}
use Rattle.basics.specs.Nodes.{Below}
use Rattle.basics.proofs.Pieces.{length_flatten, length_pieces}
use Rattle.distance.specs.Vectors.{vectors_in}
use Rattle.def_graph.specs.Centroid.{rows_in}
use Rattle.def_graph.specs.Medoid.{compute_medoid}
use Rattle.def_graph.proofs.medoid.Laws.{medoid_below}
use Rattle.def_walk.specs.Repair.{ensure_connectivity}
use Rattle.def_walk.proofs.graph_utils.Laws.{repair_few}
use Rattle.store.specs.Layout.{built_state, state_at, entry_at, bridge_count_at, bridges_at, bridge_size}
use Rattle.store.specs.View.{bridge_block}
use Rattle.store.proofs.Reading.{pairs_sized}
use Rattle.lists.specs.Inside.Words.{row_lists, Blocks}
use Rattle.lists.proofs.Blocks.{rows_read_back}
use Rattle.graph_utils.specs.Inside.Connectivity.{Repairable, with_bridges, Repairs}
use Rattle.def_calls.specs.Build.{laid}
use Rattle.build.specs.Inside.Fits.{with_repair}

-- ---- the vectors of n nodes

module _ (n d : ℕ) (xs : List Float) (some : 1 ≤ d) (size : length xs ≡ n * d) where
  count_of : length xs / d ≡ n
  count_of = ap (λ (k : ℕ). k / d) size ∙ mul-div_cancel n some

  pub vectors_many : length (vectors_in d xs) ≡ n
  vectors_many = length_pieces d (length xs / d) xs ∙ count_of

  pub vectors_all : rows_in d n xs ≡ vectors_in d xs
  vectors_all = let all : min n (length xs / d) ≡ length xs / d = omega (arith, count_of) in ap (λ (k : ℕ). pieces d k xs) all

-- as the code finds it: the slice that holds the centroid is as long as the dimension
pub entry_is : (n d d' : ℕ) (xs : List Float) (entry : ℕ) → 1 ≤ d → length xs ≡ n * d → d' ≡ d → entry ≡ compute_medoid d' (rows_in d' n xs)
    → entry ≡ compute_medoid d (vectors_in d xs)
entry_is n d d' xs entry some size same e = e ∙ ap (λ (k : ℕ). compute_medoid k (rows_in k n xs)) same ∙ ap (compute_medoid d) (vectors_all n d xs some size)

-- ---- the bridges

bridge_words_lem : (bs : List Bridge) → length (flatten (map bridge_block bs)) ≡ 2 * length bs
bridge_words_lem bs =
    let size : length (flatten (map bridge_block bs)) ≡ length (map bridge_block bs) * bridge_size = length_flatten bridge_size (map bridge_block bs) (pairs_sized bs) in
    omega (arith, size, length-map bs bridge_block)

module _ (n C D d : ℕ) (w : List ℕ) (xs : List Float) (part bridges bridges' words : List ℕ) (entry built count : ℕ) (w1 w2 : List ℕ)
    (some : 1 ≤ n) (most : n ≤ 1024) (components : 1 ≤ d) (size : length xs ≡ n * d) (bridge_room : 2 * n ≤ length bridges) (word_room : 4 * n ≤ length words)
    (entry_is : entry ≡ compute_medoid d (vectors_in d xs)) (repairs : Repairs (row_lists D part) entry (vectors_in d xs) bridges words built bridges')
    (counted : count ≡ min built n) (header : w1 ≡ set (set (set w state_at built_state) entry_at entry) bridge_count_at count)
    (written : w2 ≡ laid (bridges_at C D) (take (2 * count) bridges') w1) where
  abbrev vs : List (List Float)
  vs = vectors_in d xs

  entry_below : entry < n
  entry_below =
      let many = vectors_many n d xs components size in
      let below : compute_medoid d vs < length vs = medoid_below d vs (omega (arith, many)) in
      omega (arith, below, many, entry_is)

  pub repaired : (rows : List (List ℕ)) → length rows ≡ n → ((u : ℕ) → Below n (get_or rows u [])) → Blocks D rows part → w2 ≡ with_repair C D d vs rows w
  repaired rows many below blocks =
      let back : row_lists D part ≡ rows = rows_read_back D rows part blocks in
      let inside : (u : ℕ) → Below (length rows) (get_or rows u []) = λ u. subst (λ (k : ℕ). Below k (get_or rows u [])) (sym many) (below u) in
      let able : Repairable rows entry bridges words = record {
        many = omega arith;
        entry_below = omega (arith, entry_below);
        inside = inside;
        bridge_room = omega arith;
        word_room = omega arith;
      } in
      let bs : List Bridge = ensure_connectivity rows entry vs in
      let r : (built ≡ length bs) × (bridges' ≡ with_bridges bs bridges) = (rw back at repairs) able in
      let few : length bs < length rows = repair_few rows entry vs (omega (arith, entry_below)) (λ u. inside u) in
      let all : count ≡ length bs = omega (arith, counted, r.0, few) in
      let front : take (2 * count) bridges' ≡ flatten (map bridge_block bs) =
      ap₂ (λ (k : ℕ) (l : List ℕ). take (2 * k) l) all r.1 ∙ take_at (flatten (map bridge_block bs)) (drop (2 * length bs) bridges) (2 * length bs) (bridge_words_lem bs) in
      written
      ∙ ap₂ (laid (bridges_at C D)) front (header ∙ ap (λ (k : ℕ). set (set (set w state_at built_state) entry_at entry) bridge_count_at k) all)
      ∙ ap (λ (e : ℕ). laid (bridges_at C D) (flatten (map bridge_block (ensure_connectivity rows e vs))) (set (set (set w state_at built_state) entry_at e) bridge_count_at (length (ensure_connectivity rows e vs)))) entry_is
