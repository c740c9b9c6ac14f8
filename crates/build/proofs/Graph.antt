-- The rows, then the entry node and the bridges, make the word store of the definition. Assumes nothing.
use mathlib.Core.Path.{◌≡◌, sym, ap, subst, ◌∙◌}
use mathlib.Core.List.{List, [], map, flatten}
use Prim.Native.Nat.{ℕ, ◌+◌, ◌*◌, ◌≤◌}
use native.Mathlib.Omega.{arith}
use lib.Dec.{ltb}
use lib.ListN.{length, get_or, take, drop, set, length-set, length-drop}
use lib.Seq.{take_at, length-take-le}
use lib.Ieee.{Float}
use borrow.Author.Tests.{ltb-false}
use borrow.Rule.Slice.PartMut.{put_mid}
use Rattle.basics.specs.Nodes.{Below}
use Rattle.basics.proofs.Tests.{both_false}
use Rattle.params.specs.declared.PipnnParams.{PipnnParams}
use Rattle.distance.specs.Vectors.{vectors_in}
use Rattle.def_graph.specs.Medoid.{compute_medoid}
use Rattle.def_graph.specs.Rows.{Settings, rows_of, entry_of}
use Rattle.def_graph.proofs.graph_rows.Laws.{rows_length, rows_below}
use Rattle.def_walk.specs.Repair.{ensure_connectivity}
use Rattle.store.specs.Layout.{word, built_state, state_at, dimension_at, nodes_at, degree_at, entry_at, bridge_count_at, capacity_at, rows_at, row_size, bridges_at}
use Rattle.store.specs.View.{view, row_block, bridge_block, params_of}
use Rattle.store.proofs.Reading.{vectors_read}
use Rattle.lists.specs.Inside.Words.{Blocks}
use Rattle.lists.proofs.Blocks.{blocks_length}
use Rattle.lists.proofs.Parts.{row_part, vector_part, vectors_part}
use Rattle.def_calls.specs.Graph.{settings_of, graph_of, graph_for}
use Rattle.def_calls.specs.Build.{laid, built_header, built_words}
use Rattle.def_calls.proofs.Laid.{laid_there}
use Rattle.def_calls.proofs.Taken.{BuildTaken}
use Rattle.build.specs.Inside.Fits.{RowsFit, RepairFits, RepairPut, with_repair}
use Rattle.build.proofs.Laid.{put_laid, set-laid}

module _ (ws fs : ℕ) (w : List ℕ) (f : List Float) (taken : BuildTaken ws fs w f) where
  abbrev n : ℕ
  n = word w nodes_at

  abbrev C : ℕ
  C = word w capacity_at

  abbrev D : ℕ
  D = word w degree_at

  abbrev d : ℕ
  d = word w dimension_at

  abbrev s : Settings
  s = settings_of d (params_of w)

  abbrev vs : List (List Float)
  vs = (view w f).vectors

  abbrev rows : List (List ℕ)
  rows = rows_of s vs

  -- words 0, 9 and 10 can be set before the rows are laid
  header_first : (part : List ℕ) (entry bridges : ℕ)
      → set (set (set (laid (rows_at C) part w) state_at built_state) entry_at entry) bridge_count_at bridges
      ≡ laid (rows_at C) part (set (set (set w state_at built_state) entry_at entry) bridge_count_at bridges)
  header_first part entry bridges =
      let room : rows_at C ≤ length w = taken.stores.room.docs in
      let one = set-laid (rows_at C) state_at built_state part w (omega arith) room in
      let two = set-laid (rows_at C) entry_at entry part (set w state_at built_state) (omega arith) (omega (arith, length-set w state_at built_state)) in
      let three =
      set-laid (rows_at C) bridge_count_at bridges part (set (set w state_at built_state) entry_at entry) (omega arith)
      (omega (arith, length-set w state_at built_state, length-set (set w state_at built_state) entry_at entry)) in
      ap (λ (l : List ℕ). set (set l entry_at entry) bridge_count_at bridges) one ∙ ap (λ (l : List ℕ). set l bridge_count_at bridges) two ∙ three

  repaired_is : (w₁ w₂ : List ℕ) → w₁ ≡ laid (rows_at C) (flatten (map (row_block D) rows)) w → w₂ ≡ with_repair C D d vs rows w₁ → w₂ ≡ built_words (graph_for (view w f)) w
  unfolding built_words built_header graph_of entry_of view
  repaired_is w₁ w₂ laid-is repaired =
      repaired
      ∙ ap (with_repair C D d vs rows) laid-is
      ∙ ap (laid (bridges_at C D) (flatten (map bridge_block (ensure_connectivity rows (compute_medoid d vs) vs))))
      (header_first (flatten (map (row_block D) rows)) (compute_medoid d vs) (length (ensure_connectivity rows (compute_medoid d vs) vs)))

  module _ (p : PipnnParams) (p_is : p ≡ params_of w) (part w₁ w₂ : List ℕ)
      (blocks : Blocks p.max_degree (rows_of (settings_of d p) (vectors_in d (vector_part w f taken.stores.room))) part) (put : w₁ ≡ laid (rows_at C) part w)
      (repair : RepairPut n C D d (vectors_in d (vector_part w f taken.stores.room)) w₁ w₂) where
    vectors_are : vectors_in d (vector_part w f taken.stores.room) ≡ vs
    vectors_are = vectors_part w f taken.stores.room taken.stores.header.dimension.least

    many : length rows ≡ n
    many = rows_length s vs ∙ vectors_read w f

    below : (u : ℕ) → Below n (get_or rows u [])
    below u v m = omega (arith, rows_below s vs u v m, vectors_read w f)

    these : Blocks D rows part
    unfolding params_of
    these = rw (p_is, vectors_are) at blocks

    found : Blocks D rows (take (n * row_size D) (drop (rows_at C) w₁))
    found =
        let size : length part ≡ n * row_size D = blocks_length D rows part these ∙ ap (λ (k : ℕ). k * row_size D) many in
        let within : rows_at C + length part ≤ length w = omega (arith, size, taken.stores.room.rows) in
        let there : take (n * row_size D) (drop (rows_at C) w₁) ≡ part =
        ap (λ (l : List ℕ). take (n * row_size D) (drop (rows_at C) l)) put
        ∙ ap (take (n * row_size D)) (laid_there (rows_at C) part w within)
        ∙ take_at part (drop (rows_at C + length part) w) (n * row_size D) size in
        subst (Blocks D rows) (sym there) these

    pub graph_built : w₂ ≡ built_words (graph_for (view w f)) w
    graph_built =
        repaired_is w₁ w₂ (put ∙ ap (λ (l : List ℕ). laid (rows_at C) l w) these.words_are)
        ((rw vectors_are at repair) rows many below found)

-- ---- what the steps ask, at the numbers that were read

module _ (ws fs : ℕ) (w : List ℕ) (f : List Float) (taken : BuildTaken ws fs w f) where
  scratch : (64 * word w capacity_at ≤ ws) × (16 * word w capacity_at + 256 ≤ fs)
  scratch =
      let t = both_false (ltb ws (64 * word w capacity_at)) (ltb fs (16 * word w capacity_at + 256)) taken.stores.scratch in
      (ltb-false _ _ t.0, ltb-false _ _ t.1)

  few : word w nodes_at ≤ 1024
  few = omega (arith, taken.stores.header.nodes, taken.stores.header.capacity.most)

  pub rows_fit : RowsFit (word w nodes_at) (word w dimension_at) (params_of w) (row_part w f taken.stores.room) (vector_part w f taken.stores.room) ws fs
  unfolding params_of
  rows_fit = record {
    most = few;
    dimension_some = taken.stores.header.dimension.least;
    dimension_most = taken.stores.header.dimension.most;
    degree_most = taken.stores.header.params.degree_most;
    bits_most = taken.stores.header.params.hash_bits_most;
    leaf_some = taken.stores.header.params.leaf_least;
    rows_are = length-take-le _ _ (omega (arith, taken.stores.room.rows, length-drop (rows_at (word w capacity_at)) w));
    vectors_are = length-take-le _ _ taken.stores.room.vectors;
    words_room = omega (arith, scratch, taken.stores.header.nodes);
    floats_room = omega (arith, scratch, taken.stores.header.nodes);
  }

  pub repair_fits : (w₁ : List ℕ) (bridges ws₁ fs₁ : ℕ) → length w₁ ≡ length w → 2048 ≤ bridges → ws₁ ≡ ws → fs₁ ≡ fs
      → RepairFits (word w nodes_at) (word w capacity_at) (word w degree_at) (word w dimension_at) w₁ (vector_part w f taken.stores.room) bridges ws₁ fs₁
  unfolding params_of
  repair_fits w₁ bridges ws₁ fs₁ same room words floats = record {
    some = taken.some;
    most = few;
    dimension_some = taken.stores.header.dimension.least;
    capacity = taken.stores.header.nodes;
    capacity_most = taken.stores.header.capacity.most;
    degree_most = taken.stores.header.degree;
    store = omega (arith, same, taken.stores.words);
    vectors_are = length-take-le _ _ taken.stores.room.vectors;
    words_room = omega (arith, words, scratch, taken.stores.header.nodes);
    bridges_room = omega (arith, room, few);
    floats_room = omega (arith, floats, scratch, taken.stores.header.dimension.most, taken.stores.header.nodes);
  }

-- ---- the same, where numbers and parts are known to be those

pub rows_fit_at : {n n' d d' : ℕ} {p p' : PipnnParams} {rows rows' : List ℕ} {vectors vectors' : List Float} {ws fs : ℕ} → n' ≡ n → d' ≡ d → p' ≡ p
    → rows' ≡ rows → vectors' ≡ vectors → RowsFit n d p rows vectors ws fs → RowsFit n' d' p' rows' vectors' ws fs
rows_fit_at a b c e g x = rw (a, b, c, e, g) x

pub repair_fits_at : {n n' C C' D D' d d' : ℕ} {w : List ℕ} {vectors vectors' : List Float} {bridges ws fs : ℕ} → n' ≡ n → C' ≡ C → D' ≡ D → d' ≡ d
    → vectors' ≡ vectors → RepairFits n C D d w vectors bridges ws fs → RepairFits n' C' D' d' w vectors' bridges ws fs
repair_fits_at a b c e g x = rw (a, b, c, e, g) x

repair_put_at : {n n' C C' D D' d d' : ℕ} {vectors vectors' : List Float} (w₁ w₂ : List ℕ) → n' ≡ n → C' ≡ C → D' ≡ D → d' ≡ d → vectors' ≡ vectors
    → RepairPut n' C' D' d' (vectors_in d' vectors') w₁ w₂ → RepairPut n C D d (vectors_in d vectors) w₁ w₂
repair_put_at w₁ w₂ a b c e g x = rw (← a, ← b, ← c, ← e, ← g) x

pub graph_built_at : {ws fs : ℕ} {w : List ℕ} {f : List Float} (taken : BuildTaken ws fs w f) {n' C' D' d' : ℕ} {p : PipnnParams} {vectors : List Float}
    {from k : ℕ} {part w₂ : List ℕ} → n' ≡ word w nodes_at → C' ≡ word w capacity_at → D' ≡ word w degree_at → d' ≡ word w dimension_at → p ≡ params_of w
    → vectors ≡ vector_part w f taken.stores.room → from ≡ rows_at (word w capacity_at) → k ≡ length part
    → Blocks p.max_degree (rows_of (settings_of d' p) (vectors_in d' vectors)) part
    → RepairPut n' C' D' d' (vectors_in d' vectors) (put_mid from k w part) w₂ → w₂ ≡ built_words (graph_for (view w f)) w
graph_built_at {ws} {fs} {w} {f} taken {p = p} {vectors = vectors} {from = from} {k = k} {part = part} {w₂ = w₂} n_is C-is D-is d_is p_is vectors_are from_is size blocks repair =
    graph_built ws fs w f taken p p_is part (put_mid from k w part) w₂ (rw (d_is, vectors_are) at blocks)
    (put_laid from k w part size ∙ ap (λ (at : ℕ). laid at part w) from_is) (repair_put_at _ w₂ n_is C-is D-is d_is vectors_are repair)
