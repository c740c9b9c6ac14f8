-- Each call keeps what `Kept` says: `new` makes it out of anything, an accepted add adds a row that counts 0 and a finite vector, an accepted build
-- lays rows that fit, and a refused call leaves both stores as they were. Assumes nothing.
use mathlib.Core.Path.{◌≡◌, refl, sym, ap, ap₂, ◌∙◌, subst}
use mathlib.Core.Bool.{Bool, true, ◌&&◌}
use mathlib.Core.List.{List, [], ◌∷◌}
use Prim.Native.Nat.{ℕ, suc, ◌+◌, ◌*◌, ◌≤◌, ◌<◌}
use native.Mathlib.Nat.{add-zero}
use native.Mathlib.Numerals.{add-one}
use native.Mathlib.Omega.{arith}
use lib.Dec.{eqb, eqb→eq}
use lib.ListN.{get_or, take, drop, set, length-append}
use lib.Seq.{drop-drop, get_or-take, get_or-drop}
use lib.Ieee.{Float, binary32}
use lib.Ieee.Scale.{finite}
use borrow.Author.Tests.{le-leb}
use mir.Facts.{yes_eqb}
use Rattle.basics.specs.Choice.{pick, pick_ind, pick_yes}
use Rattle.basics.specs.Lists.{every, pieces}
use Rattle.basics.specs.Refusals.{first_refusal}
use Rattle.basics.proofs.Pieces.{pieces_more}
use Rattle.params.specs.declared.PipnnParams.{PipnnParams}
use Rattle.params.specs.Limits.{most_dimension, most_capacity}
use Rattle.norm.specs.Norm.{scaled_of}
use Rattle.store.specs.Layout.{word, built_state, state_at, nodes_at, degree_at, final_prune_at, capacity_at, zero_at, docs_at, rows_at, row_size, row_at}
use Rattle.store.specs.View.{params_of, empty_header, row_words, view}
use Rattle.store.specs.WellFormed.{count_ok}
use Rattle.pipnn.specs.New.{new_checks, new_words, new_floats, new_spec}
use Rattle.pipnn.specs.Add.{add_checks, added_words, added_floats, add_spec}
use Rattle.pipnn.proofs.NewLaws.{NewTaken, new_taken}
use Rattle.pipnn.proofs.AddLaws.{AddTaken, add_taken}
use Rattle.pipnn.proofs.Views.{kept, counted, rows_kept}
use Rattle.pipnn.proofs.Open.{OpenStore, new_open, add_open}
use Rattle.def_calls.specs.Graph.{Graph, graph_for}
use Rattle.def_calls.specs.Build.{build_checks, built_words, build_spec}
use Rattle.def_calls.specs.Search.{search_with_ef_spec, search_spec}
use Rattle.def_calls.proofs.Taken.{BuildTaken, build_taken}
use Rattle.def_calls.proofs.Views.{Fits, built_word, built_length, built_rows, build_fits}
use Rattle.theorems.specs.Calls.{Typed, Call, new, add, build, search_with_ef, search, outcome, Added, Index, Past, nothing, opened, built, with_node, accepted, then, vectors_of, docs_of}
use Rattle.theorems.proofs.promise.Made.{Shown, Made, shown_degree, open_shown, open_state_lem, built_state_lem, changes, same_past, vectors_with}
use Rattle.theorems.proofs.acceptance.Finite.{scaled-finite}
use Rattle.theorems.proofs.acceptance.Parts.{every-both, blocks_ok}
use Rattle.theorems.proofs.acceptance.Sound.{Sound, Kept}

-- ---- `new`

flag : (b : Bool) → pick {X = ℕ} b 1 0 ≤ 1
flag b = pick_ind (λ (k : ℕ). k ≤ 1) b (λ _. omega arith) (λ _. omega arith)

new_kept : (d : ℕ) (p : PipnnParams) (t : Typed p) (c : ℕ) (past : Past) (w : List ℕ) (f : List Float) → first_refusal (new_checks d p c w f) ≡ 0
    → Kept (accepted (new d p t c) past) (new_words d p c w f) (new_floats d p c w f)
unfolding accepted vectors_of every new_words empty_header row_words pieces
new_kept d p t c past w f e =
    let taken : NewTaken d p c w f = new_taken d p c w f e in
    let o : OpenStore d p c [] [] (new_words d p c w f) (new_floats d p c w f) =
    new_open d p c w f taken (record { fraction = t.fraction; alpha = t.alpha }) in
    record {
      dimension = ap₂ ◌&&◌ (le-leb 1 d taken.dimension.least) (le-leb d most_dimension taken.dimension.most);
      limits = taken.limits;
      capacity = ap₂ ◌&&◌ (le-leb 1 c taken.capacity.least) (le-leb c most_capacity taken.capacity.most);
      nodes = omega arith;
      vectors = refl;
      final = flag p.final_prune;
      zero_word = refl;
      counts = refl;
      words = o.words;
      floats = o.floats;
    }

-- ---- add

module _ (x : Index) (w : List ℕ) (f : List Float) (doc : ℕ) (v : List Float) (t : AddTaken w f v) (o : Made (opened x) w f) (s : Sound x w f) where
  abbrev n : ℕ
  n = word w nodes_at

  abbrev C : ℕ
  C = word w capacity_at

  abbrev D : ℕ
  D = word w degree_at

  abbrev w' : List ℕ
  w' = set (set w (docs_at + n) doc) nodes_at (n + 1)

  shown : Shown x (view w f)
  shown = open_shown x w f o

  C-is : C ≡ x.capacity
  unfolding view
  C-is = shown.capacity

  -- the row that the node finds counts 0
  abbrev row : List ℕ
  row = take (row_size D) (drop (n * row_size D) (drop (rows_at C) w))

  row_blank : get_or row 0 0 ≡ 0
  row_blank =
      let places : row_at C D n ≡ row_at x.capacity x.params.max_degree n = λ i. row_at (C-is i) (shown_degree x w f shown i) n in
      get_or-take (row_size D) (drop (n * row_size D) (drop (rows_at C) w)) 0 0 (omega arith)
      ∙ ap (λ (l : List ℕ). get_or l 0 0) (drop-drop (n * row_size D) (rows_at C) w)
      ∙ get_or-drop (row_at C D n) w 0 0 ∙ ap (λ (k : ℕ). word w k) (add-zero (row_at C D n) ∙ places)
      ∙ o.blank n (subst (λ (k : ℕ). n < k) C-is t.free)

  counts_more : every (count_ok x.params.max_degree) (row_words (added_words w doc)) ≡ true
  unfolding added_words row_words every
  counts_more =
      let most : ℕ = x.params.max_degree in
      let C-same : word w' capacity_at ≡ C = kept w f doc v t capacity_at (omega arith) (λ e. omega arith) in
      let D-same : word w' degree_at ≡ D = kept w f doc v t degree_at (omega arith) (λ e. omega arith) in
      let more : word w' nodes_at ≡ suc n = counted w f doc v t ∙ add-one n in
      let last : every (count_ok most) (row ∷ []) ≡ true = ap (λ (b : Bool). b && true) (le-leb (get_or row 0 0) most (omega (arith, row_blank))) in
      (λ i. every (count_ok most) (pieces (row_size (D-same i)) (more i) (drop (rows_at (C-same i)) w')))
      ∙ ap (λ (l : List ℕ). every (count_ok most) (pieces (row_size D) (suc n) l)) (rows_kept w f doc v t (rows_at C) (omega arith))
      ∙ ap (every (count_ok most)) (pieces_more (row_size D) n (drop (rows_at C) w))
      ∙ every-both (count_ok most) (row_words w) (row ∷ []) s.counts last

  vectors_more : every (every finite) (vectors_of (with_node doc (scaled_of binary32 v) x)) ≡ true
  unfolding every
  vectors_more =
      let last : every (every finite) (scaled_of binary32 v ∷ []) ≡ true = ap (λ (b : Bool). b && true) (scaled-finite v t.numbers) in
      ap (every (every finite)) (vectors_with x doc (scaled_of binary32 v))
      ∙ every-both (every finite) (vectors_of x) (scaled_of binary32 v ∷ []) s.vectors last

  add_sound : Sound (with_node doc (scaled_of binary32 v) x) (added_words w doc) (added_floats w f v)
  unfolding view added_words
  add_sound =
      let a : Added = record { doc = doc; vector = scaled_of binary32 v } in
      let after = add_open x.dimension x.params x.capacity (docs_of x) (vectors_of x) w f doc v t o in
      let final : word w' final_prune_at ≡ word w final_prune_at = kept w f doc v t final_prune_at (omega arith) (λ e. omega arith) in
      record {
        dimension = s.dimension;
        limits = s.limits;
        capacity = s.capacity;
        nodes = omega (arith, length-append x.nodes (a ∷ []), t.free, shown.nodes, shown.capacity);
        vectors = vectors_more;
        final = omega (arith, final, s.final);
        zero_word = kept w f doc v t zero_at (omega arith) (λ e. omega arith) ∙ s.zero_word;
        counts = counts_more;
        words = after.words;
        floats = after.floats;
      }

-- on a built store no add is accepted
add_kept : (doc : ℕ) (v : List Float) (past : Past) (w : List ℕ) (f : List Float) → Made past w f → Kept past w f → first_refusal (add_checks w f v) ≡ 0
    → Kept (accepted (add doc v) past) (added_words w doc) (added_floats w f v)
unfolding accepted
add_kept doc v nothing w f m s e = tt
add_kept doc v (opened x) w f m s e = add_sound x w f doc v (add_taken w f v e) m s
add_kept doc v (built x) w f m s e = absurd ((add_taken w f v e).state (built_state_lem x w f m))

-- ---- build

-- an open store, built
build_sound : (ws fs : ℕ) (x : Index) (w : List ℕ) (f : List Float) → Made (opened x) w f → Sound x w f → BuildTaken ws fs w f
    → Sound x (built_words (graph_for (view w f)) w) f
unfolding view params_of
build_sound ws fs x w f o s t =
    let h : Shown x (view w f) = open_shown x w f o in
    let g : Graph = graph_for (view w f) in
    let fits : Fits g w = build_fits ws fs w f t in
    let final : word (built_words g w) final_prune_at ≡ word w final_prune_at =
    built_word g w fits final_prune_at (omega arith) (λ e. omega arith) (λ e. omega arith) (λ e. omega arith) in
    record {
      dimension = s.dimension;
      limits = s.limits;
      capacity = s.capacity;
      nodes = s.nodes;
      vectors = s.vectors;
      final = omega (arith, final, s.final);
      zero_word = built_word g w fits zero_at (omega arith) (λ e. omega arith) (λ e. omega arith) (λ e. omega arith) ∙ s.zero_word;
      counts = ap (λ (D : ℕ). every (count_ok D) (row_words (built_words g w))) (sym (shown_degree x w f h))
          ∙ ap (every (count_ok (word w degree_at))) (built_rows g w fits) ∙ blocks_ok (word w degree_at) g.rows fits.short;
      words = omega (arith, built_length g w fits, s.words);
      floats = s.floats;
    }

build_kept : (ws fs : ℕ) (past : Past) (w : List ℕ) (f : List Float) → Made past w f → Kept past w f → first_refusal (build_checks ws fs w f) ≡ 0
    → Kept (accepted (build ws fs) past) (pick (eqb (word w state_at) built_state) w (built_words (graph_for (view w f)) w)) f
unfolding accepted
build_kept ws fs nothing w f m s e = tt
build_kept ws fs (opened x) w f m s e =
    pick_ind (λ (words : List ℕ). Sound x words f) (eqb (word w state_at) built_state)
    (λ t. absurd (let a = open_state_lem x w f m in let b = eqb→eq (word w state_at) built_state t in omega arith))
    (λ _. build_sound ws fs x w f m s (build_taken ws fs w f e))
build_kept ws fs (built x) w f m s e =
    subst (λ (words : List ℕ). Sound x words f)
    (sym (pick_yes (eqb (word w state_at) built_state) w (built_words (graph_for (view w f)) w) (yes_eqb (built_state_lem x w f m)))) s

-- ---- any call

pub call_kept : (c : Call) (past : Past) (w : List ℕ) (f : List Float) → Made past w f → Kept past w f
    → Kept (then c (outcome c w f).0 past) (outcome c w f).1 (outcome c w f).2
unfolding outcome new_spec add_spec build_spec accepted
call_kept (new d p t c) past w f m s = changes Kept (new d p t c) past (first_refusal (new_checks d p c w f)) w f _ _ s (new_kept d p t c past w f)
call_kept (add doc v) past w f m s = changes Kept (add doc v) past (first_refusal (add_checks w f v)) w f _ _ s (add_kept doc v past w f m s)
call_kept (build ws fs) past w f m s = changes Kept (build ws fs) past (first_refusal (build_checks ws fs w f)) w f _ f s (build_kept ws fs past w f m s)
call_kept (search_with_ef ws fs q k ef docs distances) past w f m s =
    subst (λ (h : Past). Kept h w f) (sym (same_past (search_with_ef ws fs q k ef docs distances) (search_with_ef_spec ws fs w f q k ef docs distances).number past refl)) s
call_kept (search ws fs q k docs distances) past w f m s =
    subst (λ (h : Past). Kept h w f) (sym (same_past (search ws fs q k docs distances) (search_spec ws fs w f q k docs distances).number past refl)) s
