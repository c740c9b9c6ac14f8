-- What a walk over the parts of a checked store leaves: on a well-formed store the walk's graph is the view's, and both outputs are written as far as
-- nodes were found. Then the reply of a search, from the doc ids of those nodes. Assumes nothing.
use mathlib.Core.Path.{◌≡◌, sym, ap, ap₂, subst, ◌∙◌}
use mathlib.Core.Logic.{⊎_elim}
use mathlib.Core.Bool.{true, ◌&&◌}
use mathlib.Core.List.{List, [], ◌++◌, map, append_assoc, Memᴰ as In}
use Prim.Native.Nat.{ℕ, ◌-◌, ◌*◌, ◌≤◌, ◌<◌, min}
use native.Mathlib.Omega.{arith}
use lib.Dec.{ltb, lt→ltb}
use lib.ListN.{length, get_or, take, drop, length-append, length-map, take-append-drop}
use lib.Seq.{length-take-le, take_at, drop-append-le}
use lib.Ieee.{Float}
use borrow.Author.Tests.{ltb-false, leb-true, le-leb}
use Rattle.basics.specs.Graph.{list_of}
use Rattle.basics.specs.Nodes.{Below}
use Rattle.basics.proofs.Keeping.{keep_every}
use Rattle.basics.proofs.Members.{in_take, map_in, map_map}
use Rattle.basics.proofs.Tests.{both_true, both_false}
use Rattle.sorting.specs.Sorting.{sort_by}
use Rattle.sorting.proofs.Laws.{in_sort}
use Rattle.store.specs.Opening.{scratch}
use Rattle.store.specs.Layout.{word, dimension_at, nodes_at, degree_at, entry_at, bridge_count_at, capacity_at, row_size, bridge_size, scratch_words, scratch_floats}
use Rattle.store.specs.View.{view, list_in}
use Rattle.store.proofs.Header.{Built}
use Rattle.store.proofs.Opened.{Opened, opened}
use Rattle.store.proofs.Reading.{doc_read}
use Rattle.distance.specs.Vectors.{vectors_in}
use Rattle.lists.proofs.Parts.{row_part, rows_part, bridge_part, bridges_part, vector_part, vectors_part}
use Rattle.def_walk.specs.declared.Stops.{Stops}
use Rattle.def_walk.specs.KeepClosest.{key_at}
use Rattle.def_walk.specs.Beam.{far_from, places_for, beam_search, answer_of}
use Rattle.def_walk.proofs.beam.Laws.{alive_few, scored_nodes, scored_few, answer_few}
use Rattle.sorting.specs.declared.Keyed.{Keyed}
use Rattle.beam_state.specs.Inside.State.{live_by, pair_of}
use Rattle.beam_search.specs.declared.Sizes.{Sizes}
use Rattle.beam_search.specs.declared.Walked.{Walked}
use Rattle.beam_search.specs.Inside.Search.{within, list_in_words, SearchFits, Searched}
use Rattle.def_calls.specs.Search.{far_in, network_in, scored_in, found_in, reply_of}
use Rattle.finding.specs.Inside.Docs.{doc_at, doc_of}
use Rattle.finding.specs.declared.Parts.{Parts}
use Rattle.finding.specs.Inside.Finding.{Checked, PartsIn, lies_in, nodes_by, nodes_found, nodes_with, docs_with}
use Rattle.finding.proofs.Answer.{answer_room}
use Rattle.finding.proofs.Inside.{lists_inside, bridge_words_lem, bridge_nodes}

-- ---- what a walk leaves, by what is read of its slices

-- a walk over rows and bridges in words, all nodes live
abbrev pub Ran : Sizes → (query components : List Float) (dimension : ℕ) (rows bridges : List ℕ) (answer answer' : List Keyed) (distances distances' : List Float) (ws fs : ℕ) → Walked → Type 0
Ran sizes query components dimension rows bridges answer answer' distances distances' ws fs r =
    let far : ℕ → Float = far_from query (vectors_in dimension components) in
    let list : ℕ → List ℕ = list_in_words sizes.shape.n sizes.shape.degree rows bridges in
    let scored : List ℕ = beam_search sizes.stops (record { n = sizes.shape.n; list = list; live = live_by []; entry = sizes.entry.0 }) far sizes.places in
    SearchFits sizes.shape.n sizes.entry.0 bridges answer distances ws fs
    → Searched far (answer_of far (length answer) scored) scored answer answer' distances distances' r

-- ---- lists

-- the first m places of l were passed in, and xs was written to their front
front_written : {A : Type 0} (m : ℕ) (xs l : List A) → length xs ≤ m → m ≤ length l
    → (xs ++ drop (length xs) (take m l)) ++ drop m l ≡ xs ++ drop (length xs) l
front_written {A} m xs l h fits =
    append_assoc xs (drop (length xs) (take m l)) (drop m l)
    ∙ ap (λ (r : List A). xs ++ r)
    (sym (drop-append-le (length xs) (take m l) (drop m l) (omega (arith, length-take-le m l fits))) ∙ ap (drop (length xs)) (take-append-drop m l))

-- ---- the parts lie in the stores

pub record PartsLie (p : Parts) (words floats nodes distances : ℕ) : Type 0 where
  pub rows_start : p.rows_from ≤ p.rows_to
  pub rows_end : p.rows_to ≤ words
  pub bridges_start : p.bridges_from ≤ p.bridges_to
  pub bridges_end : p.bridges_to ≤ words
  pub vectors_end : p.vectors_end ≤ floats
  pub nodes_room : p.answer ≤ nodes
  pub distances_room : p.answer ≤ distances

pub parts_lie : (p : Parts) (words floats nodes distances : ℕ) → lies_in p words floats nodes distances ≡ true → PartsLie p words floats nodes distances
parts_lie p words floats nodes distances e =
    let t6 = both_true _ _ e in
    let t5 = both_true _ _ t6.0 in
    let t4 = both_true _ _ t5.0 in
    let t3 = both_true _ _ t4.0 in
    let t2 = both_true _ _ t3.0 in
    let t1 = both_true _ _ t2.0 in
    record {
      rows_start = leb-true _ _ t1.0;
      rows_end = leb-true _ _ t1.1;
      bridges_start = leb-true _ _ t2.1;
      bridges_end = leb-true _ _ t3.1;
      vectors_end = leb-true _ _ t4.1;
      nodes_room = leb-true _ _ t5.1;
      distances_room = leb-true _ _ t6.1;
    }

lie_parts : (p : Parts) (words floats nodes distances : ℕ) → PartsLie p words floats nodes distances → lies_in p words floats nodes distances ≡ true
lie_parts p words floats nodes distances t i =
    le-leb _ _ t.rows_start i
    && le-leb _ _ t.rows_end i
    && le-leb _ _ t.bridges_start i
    && le-leb _ _ t.bridges_end i
    && le-leb _ _ t.vectors_end i
    && le-leb _ _ t.nodes_room i
    && le-leb _ _ t.distances_room i

module _ (ws fs : ℕ) (w : List ℕ) (f query : List Float) (k : ℕ) (out distances : ℕ) (checked : Checked ws fs w f query k out distances) where
  abbrev n : ℕ
  n = word w nodes_at

  pub stores : Opened (scratch ws fs) w f
  stores = opened (scratch ws fs) w f checked.opens

  pub few : n ≤ 1024
  few = omega (arith, stores.header.nodes, stores.header.capacity.most)

  pub query_short : length query ≤ 64
  query_short = omega (arith, checked.components, stores.header.dimension.most)

  -- an output of another length, with room for the answer
  pub checked_into : (room : ℕ) → min k n ≤ room → Checked ws fs w f query k room distances
  checked_into room h = record {
    opens = checked.opens;
    built = checked.built;
    components = checked.components;
    out_room = h;
    distances_room = checked.distances_room;
  }

  built : Built w
  built = ⊎_elim (λ o. absurd (omega (arith, o.state, checked.built))) (λ b. b) stores.header.state

  pub lies : (p : Parts) → PartsIn w k p → lies_in p (length w) (length f) out distances ≡ true
  lies p at =
      lie_parts p (length w) (length f) out distances
      record {
        rows_start = omega (arith, at.rows_from, at.rows_to);
        rows_end = omega (arith, at.rows_to, stores.room.rows);
        bridges_start = omega (arith, at.bridges_from, at.bridges_to);
        bridges_end = omega (arith, at.bridges_to, stores.room.bridges);
        vectors_end = omega (arith, at.vectors_end, stores.room.vectors);
        nodes_room = omega (arith, at.answer, checked.out_room);
        distances_room = omega (arith, at.answer, checked.distances_room);
      }

  -- ---- the nodes that a walk finds, at some distances

  module _ (stops : Stops) (far : ℕ → Float) (places : ℕ) where
    abbrev scored : List ℕ
    scored = beam_search stops (network_in (view w f)) far places

    abbrev found : List ℕ
    found = answer_of far k scored

    inside : (u v : ℕ) → In v (list_in (view w f) u) → v < n
    inside = lists_inside w f stores.rest

    scored_most : length scored ≤ n
    unfolding view
    scored_most = omega (arith, scored_few stops (network_in (view w f)) built.entry inside far places, alive_few (network_in (view w f)))

    found_few : length found ≤ min k n
    unfolding view
    found_few = omega (arith, answer_few stops (network_in (view w f)) built.entry inside far places k, alive_few (network_in (view w f)))

    found_nodes : Below n found
    unfolding answer_of view
    found_nodes x m =
        scored_nodes stops (network_in (view w f)) built.entry inside far places x (in_sort (key_at far) scored (in_take k (sort_by (key_at far) scored) m))

    docs_same : (i : ℕ) → In i found → doc_at w i ≡ get_or (view w f).docs i 0
    docs_same i m = sym (doc_read w f i (found_nodes i m))

  -- ---- the walk over the parts is the walk over the view

  abbrev far_off : ℕ → Float
  far_off = far_from query (view w f).vectors

  lists_same : list_in_words n (word w degree_at) (row_part w f stores.room) (bridge_part w f stores.room) ≡ list_in (view w f)
  lists_same i u =
      (ap₂ (λ rows bridges. within n (list_of rows bridges u)) (rows_part w f stores.room) (bridges_part w f stores.room)
      ∙ keep_every (λ v. ltb v n) (list_in (view w f) u) (λ v m. lt→ltb v n (lists_inside w f stores.rest u v m)))
      i

  far_same : far_from query (vectors_in (word w dimension_at) (vector_part w f stores.room)) ≡ far_off
  far_same = ap (far_from query) (vectors_part w f stores.room stores.header.dimension.least)

  -- what scratch has room for
  rooms : (64 * n ≤ ws) × (16 * n ≤ fs)
  rooms =
      let t = both_false _ _ stores.scratch in
      let words = ltb-false ws (scratch_words (word w capacity_at)) t.0 in
      let floats = ltb-false fs (scratch_floats (word w capacity_at)) t.1 in
      (omega (arith, words, stores.header.nodes), omega (arith, floats, stores.header.nodes))

  module _ (stops : Stops) (places : ℕ) where
    -- the numbers that the walk is given
    abbrev sizes : Sizes
    sizes = record {
      shape = record { n = n; degree = word w degree_at };
      entry = record { 0 = word w entry_at };
      places = places;
      stops = stops;
    }

    module _ (nodes nodes' : List Keyed) (far-off far-off' : List Float) (r : Walked) (nodes-many : length nodes ≡ min k n) (distances-many : length far-off ≡ min k n) where
      fits : SearchFits n (word w entry_at) (bridge_part w f stores.room) nodes far-off ws fs
      fits = record {
        entry_below = built.entry;
        few = few;
        bridges_few = omega (arith, bridge_words_lem w f stores.rest stores.room, built.bridges);
        ends_below = bridge_nodes w f stores.rest stores.room;
        distances_room = omega (arith, nodes-many, distances-many);
        words_room = rooms.0;
        floats_room = rooms.1;
      }

      -- found along such lists, at such distances, with room for `room` nodes in the answer
      abbrev Left : (ℕ → List ℕ) → (ℕ → Float) → ℕ → Type 0
      Left list at room =
          let scored : List ℕ = beam_search stops (record { n = n; list = list; live = live_by []; entry = word w entry_at }) at places in
          Searched at (answer_of at room scored) scored nodes nodes' far-off far-off' r

      searched : Ran sizes query (vector_part w f stores.room) (word w dimension_at) (row_part w f stores.room) (bridge_part w f stores.room) nodes nodes' far-off far-off' ws fs r
          → Searched far_off (found stops far_off places) (scored stops far_off places) nodes nodes' far-off far-off' r
      unfolding view
      searched walk =
          let far : ℕ → Float = far_from query (vectors_in (word w dimension_at) (vector_part w f stores.room)) in
          let listed : Left (list_in (view w f)) far (length nodes) = subst (λ (l : ℕ → List ℕ). Left l far (length nodes)) lists_same (walk fits) in
          let measured : Left (list_in (view w f)) far_off (length nodes) = subst (λ (g : ℕ → Float). Left (list_in (view w f)) g (length nodes)) far_same listed in
          let limited : Left (list_in (view w f)) far_off (min k n) = subst (λ (m : ℕ). Left (list_in (view w f)) far_off m) nodes-many measured in
          subst (λ (l : List ℕ). Searched far_off l (scored stops far_off places) nodes nodes' far-off far-off' r)
          (sym (answer_room far_off k n (scored stops far_off places) (scored_most stops far_off places))) limited

    -- ---- as the code has them: the parts by their ends, the fronts of the outputs

    module _ (p : Parts) (at : PartsIn w k p) (nodes nodes' : List Keyed) (far-off far-off' : List Float) (r : Walked)
        (nodes-long : length nodes ≡ out) (distances-long : length far-off ≡ distances)
        (ran : Ran (record { shape = p.shape; entry = p.entry; places = places; stops = stops })
        query (take p.vectors_end f) p.dimension (take (p.rows_to - p.rows_from) (drop p.rows_from w)) (take (p.bridges_to - p.bridges_from) (drop p.bridges_from w))
        (take p.answer nodes) nodes' (take p.answer far-off) far-off' ws fs r) where
      abbrev near : List ℕ
      near = found stops far_off places

      rows_are : take (p.rows_to - p.rows_from) (drop p.rows_from w) ≡ row_part w f stores.room
      rows_are =
          let size : p.rows_to - p.rows_from ≡ n * row_size (word w degree_at) = omega (arith, at.rows_from, at.rows_to) in
          ap₂ (λ (c : ℕ) (i : ℕ). take c (drop i w)) size at.rows_from

      bridges_are : take (p.bridges_to - p.bridges_from) (drop p.bridges_from w) ≡ bridge_part w f stores.room
      bridges_are =
          let size : p.bridges_to - p.bridges_from ≡ word w bridge_count_at * bridge_size = omega (arith, at.bridges_from, at.bridges_to) in
          ap₂ (λ (c : ℕ) (i : ℕ). take c (drop i w)) size at.bridges_from

      -- the front of an output holds the images of the nodes found
      whole : {A : Type 0} (g : ℕ → A) (l l' : List A) → l' ≡ map g near ++ drop (length near) (take (min k n) l) → min k n ≤ length l
          → l' ++ drop p.answer l ≡ map g near ++ drop (length near) l
      whole {A} g l l' e fits =
          let many : length (map g near) ≡ length near = length-map near g in
          ap₂ (λ (x : List A) (c : ℕ). x ++ drop c l) (e ∙ ap (λ (c : ℕ). map g near ++ drop c (take (min k n) l)) (sym many)) at.answer
          ∙ front_written (min k n) (map g near) l (omega (arith, many, found_few stops far_off places)) fits
          ∙ ap (λ (c : ℕ). map g near ++ drop c l) many

      nodes_fit : min k n ≤ length nodes
      nodes_fit = omega (arith, checked.out_room, nodes-long)

      distances_fit : min k n ≤ length far-off
      distances_fit = omega (arith, checked.distances_room, distances-long)

      walked : Searched far_off near (scored stops far_off places) (take (min k n) nodes) nodes' (take (min k n) far-off) far-off' r
      walked =
          searched (take (min k n) nodes) nodes' (take (min k n) far-off) far-off' r (length-take-le (min k n) nodes nodes_fit) (length-take-le (min k n) far-off distances_fit)
          (subst (λ (X : Type 0). X)
          (λ i. Ran (record { shape = record { n = at.n i; degree = at.degree i }; entry = record { 0 = at.entry i }; places = places; stops = stops })
          query (take (at.vectors_end i) f) (at.dimension i) (rows_are i) (bridges_are i)
          (take (at.answer i) nodes) nodes' (take (at.answer i) far-off) far-off' ws fs r) ran)

      nodes_whole : nodes' ++ drop p.answer nodes ≡ map (pair_of far_off) near ++ drop (length near) nodes
      nodes_whole = whole (pair_of far_off) nodes nodes' walked.answer_is nodes_fit

      distances_whole : far-off' ++ drop p.answer far-off ≡ map far_off near ++ drop (length near) far-off
      distances_whole = whole far_off far-off far-off' walked.distances_are distances_fit

      pub nodes_are : nodes_with r (nodes' ++ drop p.answer nodes) (far-off' ++ drop p.answer far-off) ≡ nodes_by stops far_off (view w f) k places nodes far-off
      unfolding nodes_by view
      nodes_are i = record { count = walked.count_is i; scored = walked.scored_is i; nodes = nodes_whole i; distances = distances_whole i }

  -- ---- the doc ids of the nodes found

  module _ (stops : Stops) (ef : ℕ) (r : Walked) (nodes nodes' : List Keyed) (docs docs' : List ℕ) (far-off far-off' : List Float)
      (e : nodes_with r nodes' far-off' ≡ nodes_found stops (view w f) query k (places_for ef k) nodes far-off)
      (many : ℕ) (many-are : many ≡ r.count) (docs-long : length docs ≡ out)
      (put : many ≤ length nodes' → many ≤ length docs → docs' ≡ map (doc_of w) (take many nodes') ++ drop many docs) where
    abbrev far : ℕ → Float
    far = far_in (view w f) query

    abbrev answer : List ℕ
    answer = found stops far (places_for ef k)

    abbrev keyed : List Keyed
    keyed = map (pair_of far) answer

    count_is : r.count ≡ length answer
    unfolding nodes_found nodes_by view
    count_is i = (e i).count

    keyed_many : length keyed ≡ many
    keyed_many = length-map answer (pair_of far) ∙ sym (many-are ∙ count_is)

    nodes_left : nodes' ≡ keyed ++ drop (length answer) nodes
    unfolding nodes_found nodes_by view
    nodes_left i = (e i).nodes

    docs_are : docs' ≡ map (λ i. get_or (view w f).docs i 0) answer ++ drop (length answer) docs
    docs_are =
        let many-found : many ≡ length answer = many-are ∙ count_is in
        put (omega (arith, ap length nodes_left, length-append keyed (drop (length answer) nodes), keyed_many))
        (omega (arith, found_few stops far (places_for ef k), checked.out_room))
        ∙ ap₂ (λ (l : List Keyed) (c : ℕ). map (doc_of w) l ++ drop c docs)
        (ap (take many) nodes_left ∙ take_at keyed (drop (length answer) nodes) many keyed_many) many-found
        ∙ ap (λ (l : List ℕ). l ++ drop (length answer) docs)
        (map_map (pair_of far) (doc_of w) answer ∙ map_in (doc_at w) (λ i. get_or (view w f).docs i 0) answer (docs_same stops far (places_for ef k)))

    pub docs_reply : docs_with r docs' far-off' ≡ reply_of stops (view w f) query k ef docs far-off
    unfolding reply_of found_in scored_in nodes_found nodes_by view
    docs_reply i = record { number = 0; count = count_is i; scored = (e i).scored; docs = docs_are i; distances = (e i).distances }
