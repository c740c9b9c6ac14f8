-- What an accepted build leaves: the view is the graph and all else as it was, the store's length and the header's words but three stay, and the
-- rows' words are the graph's rows. The rows and the bridges are laid behind the header and the doc ids, the bridges behind all rows, so that neither
-- disturbs what is read elsewhere. Assumes nothing.
use mathlib.Core.Path.{◌≡◌, sym, ap, ◌∙◌}
use mathlib.Core.List.{List, ◌++◌, map, flatten}
use Prim.Native.Nat.{ℕ, ◌+◌, ◌*◌, ◌^◌, ◌≤◌, ◌<◌}
use native.Mathlib.Omega.{arith}
use lib.Dec.{eqb}
use lib.ListN.{length, take, drop, set, length-set, length-map}
use lib.Seq.{drop-set-lt, get_or-set_same, get_or-set_other}
use lib.Ieee.{Float, binary32, binary64, of_bits}
use Rattle.basics.specs.Lists.{pieces}
use Rattle.basics.specs.Graph.{Bridge}
use Rattle.basics.proofs.Pieces.{length_flatten, pieces_back}
use Rattle.store.specs.Layout.{word, built_state, header_size, state_at, dimension_at, nodes_at, max_leaf_size_at, min_leaf_size_at, degree_at, hash_bits_at, final_prune_at, ef_search_at, entry_at, bridge_count_at, capacity_at, fraction_high_at, fraction_low_at, alpha_at, docs_at, rows_at, row_size, bridges_at, bridge_size, words_size}
use Rattle.store.specs.View.{params_of, row_words, bridge_words, row_block, bridge_block, entries_in, bridge_in, view}
use Rattle.store.proofs.Sizes.{product_le}
use Rattle.store.proofs.Reading.{Short, vectors_read, blocks_sized, rows_back, pairs_sized, bridges_back}
use Rattle.def_graph.specs.Rows.{Settings}
use Rattle.def_calls.specs.Graph.{Graph, settings_of, graph_for}
use Rattle.def_calls.specs.Build.{laid, built_header, built_words}
use Rattle.def_calls.proofs.Taken.{BuildTaken}
use Rattle.def_calls.proofs.Graph.{graph_many, graph_short, graph_few, view_with}
use Rattle.def_calls.proofs.Laid.{same_word, same_part, same_pieces, laid_length, laid_before, laid_there}

-- ---- lengths of what is laid

rows_length : (D : ℕ) (rows : List (List ℕ)) → Short D rows → length (flatten (map (row_block D) rows)) ≡ length rows * row_size D
rows_length D rows h =
    length_flatten (row_size D) (map (row_block D) rows) (blocks_sized D rows h) ∙ ap (λ (k : ℕ). k * row_size D) (length-map rows (row_block D))

bridges_length : (bridges : List Bridge) → length (flatten (map bridge_block bridges)) ≡ length bridges * bridge_size
bridges_length bridges =
    length_flatten bridge_size (map bridge_block bridges) (pairs_sized bridges) ∙ ap (λ (k : ℕ). k * bridge_size) (length-map bridges bridge_block)

-- ---- a graph of n rows that fit, with at most C bridges, on a store that is as long as its shape asks

pub record Fits (g : Graph) (w : List ℕ) : Type 0 where
  pub long : words_size (word w capacity_at) (word w degree_at) ≤ length w
  pub nodes : word w nodes_at ≤ word w capacity_at
  pub many : length g.rows ≡ word w nodes_at
  pub short : Short (word w degree_at) g.rows
  pub few : length g.bridges ≤ word w capacity_at

module _ (g : Graph) (w : List ℕ) (fits : Fits g w) where
  abbrev n : ℕ
  n = word w nodes_at

  abbrev C : ℕ
  C = word w capacity_at

  abbrev D : ℕ
  D = word w degree_at

  -- ---- the three steps

  abbrev headed : List ℕ
  headed = set (set (set w state_at built_state) entry_at g.entry) bridge_count_at (length g.bridges)

  abbrev row_part : List ℕ
  row_part = flatten (map (row_block D) g.rows)

  abbrev with_rows : List ℕ
  with_rows = laid (rows_at C) row_part headed

  abbrev bridge_part : List ℕ
  bridge_part = flatten (map bridge_block g.bridges)

  abbrev whole : List ℕ
  whole = laid (bridges_at C D) bridge_part with_rows

  headed_length : length headed ≡ length w
  headed_length =
      length-set (set (set w state_at built_state) entry_at g.entry) bridge_count_at (length g.bridges)
      ∙ length-set (set w state_at built_state) entry_at g.entry
      ∙ length-set w state_at built_state

  rows_most : n * row_size D ≤ C * row_size D
  rows_most = product_le n (row_size D) C (row_size D) fits.nodes (omega arith)

  rows_within : rows_at C + length row_part ≤ length headed
  rows_within =
      let size : length row_part ≡ n * row_size D = rows_length D g.rows fits.short ∙ ap (λ (k : ℕ). k * row_size D) fits.many in
      omega (arith, headed_length, rows_most)

  bridges_within : bridges_at C D + length bridge_part ≤ length with_rows
  bridges_within = omega (arith, bridges_length g.bridges, laid_length (rows_at C) row_part headed rows_within, headed_length)

  rows_agree : take (rows_at C) with_rows ≡ take (rows_at C) headed
  rows_agree = laid_before (rows_at C) row_part headed rows_within

  bridges_agree : take (bridges_at C D) whole ≡ take (bridges_at C D) with_rows
  bridges_agree = laid_before (bridges_at C D) bridge_part with_rows bridges_within

  -- ---- the header

  as_headed : (k : ℕ) → k < header_size → word whole k ≡ word headed k
  as_headed k h = same_word whole with_rows (bridges_at C D) bridges_agree k (omega arith) ∙ same_word with_rows headed (rows_at C) rows_agree k (omega arith)

  kept : (k : ℕ) → k < header_size → (k ≡ state_at → ⊥) → (k ≡ entry_at → ⊥) → (k ≡ bridge_count_at → ⊥) → word whole k ≡ word w k
  kept k h a b c =
      as_headed k h
      ∙ get_or-set_other (set (set w state_at built_state) entry_at g.entry) bridge_count_at k (length g.bridges) 0 c
      ∙ get_or-set_other (set w state_at built_state) entry_at k g.entry 0 b
      ∙ get_or-set_other w state_at k built_state 0 a

  state_set : word whole state_at ≡ built_state
  state_set =
      as_headed state_at (omega arith)
      ∙ get_or-set_other (set (set w state_at built_state) entry_at g.entry) bridge_count_at state_at (length g.bridges) 0 (λ e. omega arith)
      ∙ get_or-set_other (set w state_at built_state) entry_at state_at g.entry 0 (λ e. omega arith)
      ∙ get_or-set_same w state_at built_state 0 (omega arith)

  entry_set : word whole entry_at ≡ g.entry
  entry_set =
      as_headed entry_at (omega arith)
      ∙ get_or-set_other (set (set w state_at built_state) entry_at g.entry) bridge_count_at entry_at (length g.bridges) 0 (λ e. omega arith)
      ∙ get_or-set_same (set w state_at built_state) entry_at g.entry 0 (omega (arith, length-set w state_at built_state))

  count_set : word whole bridge_count_at ≡ length g.bridges
  count_set =
      as_headed bridge_count_at (omega arith)
      ∙ get_or-set_same (set (set w state_at built_state) entry_at g.entry) bridge_count_at (length g.bridges) 0
      (omega (arith, length-set (set w state_at built_state) entry_at g.entry, length-set w state_at built_state))

  dimension_kept : word whole dimension_at ≡ word w dimension_at
  dimension_kept = kept dimension_at (omega arith) (λ e. omega arith) (λ e. omega arith) (λ e. omega arith)

  nodes_kept : word whole nodes_at ≡ n
  nodes_kept = kept nodes_at (omega arith) (λ e. omega arith) (λ e. omega arith) (λ e. omega arith)

  degree_kept : word whole degree_at ≡ D
  degree_kept = kept degree_at (omega arith) (λ e. omega arith) (λ e. omega arith) (λ e. omega arith)

  capacity_kept : word whole capacity_at ≡ C
  capacity_kept = kept capacity_at (omega arith) (λ e. omega arith) (λ e. omega arith) (λ e. omega arith)

  params-kept : params_of whole ≡ params_of w
  unfolding params_of
  params-kept =
      let same : (k : ℕ) → k < header_size → (k ≡ state_at → ⊥) → (k ≡ entry_at → ⊥) → (k ≡ bridge_count_at → ⊥) → word whole k ≡ word w k = kept in
      λ i. record {
        max_leaf_size = same max_leaf_size_at (omega arith) (λ e. omega arith) (λ e. omega arith) (λ e. omega arith) i;
        min_leaf_size = same min_leaf_size_at (omega arith) (λ e. omega arith) (λ e. omega arith) (λ e. omega arith) i;
        leader_fraction = of_bits binary64
            (same fraction_high_at (omega arith) (λ e. omega arith) (λ e. omega arith) (λ e. omega arith) i * 2 ^ 32
            + same fraction_low_at (omega arith) (λ e. omega arith) (λ e. omega arith) (λ e. omega arith) i);
        max_degree = degree_kept i;
        num_hash_bits = same hash_bits_at (omega arith) (λ e. omega arith) (λ e. omega arith) (λ e. omega arith) i;
        final_prune = eqb (same final_prune_at (omega arith) (λ e. omega arith) (λ e. omega arith) (λ e. omega arith) i) 1;
        alpha = of_bits binary32 (same alpha_at (omega arith) (λ e. omega arith) (λ e. omega arith) (λ e. omega arith) i);
        ef_search = same ef_search_at (omega arith) (λ e. omega arith) (λ e. omega arith) (λ e. omega arith) i;
      }

  -- ---- the doc ids, the rows, the bridges

  docs_kept : take n (drop docs_at whole) ≡ take n (drop docs_at w)
  docs_kept =
      same_part whole with_rows (bridges_at C D) bridges_agree docs_at n (omega arith)
      ∙ same_part with_rows headed (rows_at C) rows_agree docs_at n (omega arith)
      ∙ ap (take n)
      (drop-set-lt docs_at (set (set w state_at built_state) entry_at g.entry) bridge_count_at (length g.bridges) (omega arith)
      ∙ drop-set-lt docs_at (set w state_at built_state) entry_at g.entry (omega arith)
      ∙ drop-set-lt docs_at w state_at built_state (omega arith))

  abbrev past_rows : List ℕ
  past_rows = drop (rows_at C + length row_part) headed

  rows_laid : pieces (row_size D) n (drop (rows_at C) whole) ≡ pieces (row_size D) (length g.rows) (row_part ++ past_rows)
  rows_laid =
      same_pieces whole with_rows (bridges_at C D) bridges_agree (row_size D) n (rows_at C) (omega (arith, rows_most))
      ∙ ap (pieces (row_size D) n) (laid_there (rows_at C) row_part headed rows_within)
      ∙ ap (λ (k : ℕ). pieces (row_size D) k (row_part ++ past_rows)) (sym fits.many)

  rows_there : map entries_in (pieces (row_size D) n (drop (rows_at C) whole)) ≡ g.rows
  rows_there = ap (map entries_in) rows_laid ∙ rows_back D g.rows past_rows fits.short

  blocks_there : pieces (row_size D) n (drop (rows_at C) whole) ≡ map (row_block D) g.rows
  blocks_there =
      rows_laid
      ∙ ap (λ (k : ℕ). pieces (row_size D) k (row_part ++ past_rows)) (sym (length-map g.rows (row_block D)))
      ∙ pieces_back (row_size D) (map (row_block D) g.rows) past_rows (blocks_sized D g.rows fits.short)

  bridges_there : map bridge_in (pieces bridge_size (length g.bridges) (drop (bridges_at C D) whole)) ≡ g.bridges
  bridges_there =
      ap (λ (l : List ℕ). map bridge_in (pieces bridge_size (length g.bridges) l)) (laid_there (bridges_at C D) bridge_part with_rows bridges_within)
      ∙ bridges_back g.bridges (drop (bridges_at C D + length bridge_part) with_rows)

  -- ---- together

  pub built_word : (k : ℕ) → k < header_size → (k ≡ state_at → ⊥) → (k ≡ entry_at → ⊥) → (k ≡ bridge_count_at → ⊥) → word (built_words g w) k ≡ word w k
  unfolding built_words built_header
  built_word = kept

  pub built_length : length (built_words g w) ≡ length w
  unfolding built_words built_header
  built_length =
      laid_length (bridges_at C D) bridge_part with_rows bridges_within ∙ laid_length (rows_at C) row_part headed rows_within ∙ headed_length

  pub built_rows : row_words (built_words g w) ≡ map (row_block D) g.rows
  unfolding built_words built_header row_words
  built_rows = (λ i. pieces (row_size (degree_kept i)) (nodes_kept i) (drop (rows_at (capacity_kept i)) whole)) ∙ blocks_there

  built_view : (f : List Float) → view (built_words g w) f ≡ view_with g (view w f)
  unfolding view built_words built_header row_words bridge_words
  built_view f = λ i. record {
    params = params-kept i;
    dimension = dimension_kept i;
    capacity = capacity_kept i;
    state = state_set i;
    n = nodes_kept i;
    entry = entry_set i;
    docs = ((λ j. take (nodes_kept j) (drop docs_at whole)) ∙ docs_kept) i;
    rows = ((λ j. map entries_in (pieces (row_size (degree_kept j)) (nodes_kept j) (drop (rows_at (capacity_kept j)) whole))) ∙ rows_there) i;
    bridges = ((λ j. map bridge_in (pieces bridge_size (count_set j) (drop (bridges_at (capacity_kept j) (degree_kept j)) whole))) ∙ bridges_there) i;
    vectors = pieces (dimension_kept i) (nodes_kept i) f;
  }

-- ---- what a build that is accepted makes of an open store

pub build_fits : (ws fs : ℕ) (w : List ℕ) (f : List Float) → BuildTaken ws fs w f → Fits (graph_for (view w f)) w
unfolding view params_of
build_fits ws fs w f t =
    let s : Settings = settings_of (word w dimension_at) (params_of w) in
    let vs : List (List Float) = pieces (word w dimension_at) (word w nodes_at) f in
    let n : length vs ≡ word w nodes_at = vectors_read w f in
    record {
      long = t.stores.words;
      nodes = t.stores.header.nodes;
      many = graph_many s vs ∙ n;
      short = graph_short s vs;
      few = omega (arith, graph_few s vs (omega (arith, t.some)), t.stores.header.nodes);
    }

pub build_view : (ws fs : ℕ) (w : List ℕ) (f : List Float) → BuildTaken ws fs w f
    → view (built_words (graph_for (view w f)) w) f ≡ view_with (graph_for (view w f)) (view w f)
build_view ws fs w f t = built_view (graph_for (view w f)) w (build_fits ws fs w f t) f
