-- The theorem: stores that agree up to their sizes lead to equal numbers, answers and stores up to these sizes, for every call. A header that is not
-- well formed is refused by its 16 words; one that is leads to equal checks and equal views, and what is written agrees where the stores did. Assumes
-- nothing.
use mathlib.Core.Path.{◌≡◌, refl, sym, ap, ap₂, ◌∙◌, subst}
use mathlib.Core.Bool.{Bool, true, false, not, ◌&&◌}
use mathlib.Core.List.{List, [], ◌∷◌, ◌++◌, map, flatten, append_assoc}
use Prim.Native.Nat.{ℕ, ◌+◌, ◌-◌, ◌≤◌}
use native.Mathlib.Omega.{arith}
use borrow.Author.Tests.{le-ltb, ne_eqb}
use lib.Dec.{eqb, ltb}
use lib.ListN.{length, take, drop, set, replicate, length-append, length-replicate}
use lib.Seq.{take_at}
use lib.Ieee.{Float, binary32}
use lib.Ieee.Scale.{finite}
use Rattle.basics.specs.Choice.{pick, pick_false}
use Rattle.basics.specs.Refusals.{check, first_refusal, Values}
use Rattle.error.specs.Numbers.{limit_not_finite}
use Rattle.norm.specs.Norm.{scaled_of}
use Rattle.norm.proofs.Laws.{length-scaled}
use Rattle.params.specs.declared.PipnnParams.{PipnnParams}
use Rattle.params.specs.Limits.{dimension_within}
use Rattle.std.specs.Prelude.{None}
use Rattle.store.specs.Opening.{scratch}
use Rattle.store.specs.Layout.{word, header_size, built_state, state_at, dimension_at, nodes_at, degree_at, ef_search_at, entry_at, bridge_count_at, capacity_at, docs_at, rows_at, bridges_at, words_size, floats_size}
use Rattle.store.specs.View.{View, view, row_block, bridge_block, empty_header}
use Rattle.store.specs.WellFormed.{header_ok}
use Rattle.pipnn.specs.Answer.{Answer, unless_refused}
use Rattle.pipnn.proofs.Answer.{number_is, changed}
use Rattle.basics.specs.Sum.{+zero}
use Rattle.pipnn.specs.New.{new_checks, new_words, new_floats, new_spec}
use Rattle.pipnn.specs.Add.{own_checks, add_checks, added_words, added_floats, add_spec}
use Rattle.def_calls.specs.Graph.{Graph, graph_for}
use Rattle.def_walk.specs.Beam.{usual}
use Rattle.def_calls.specs.Build.{own_build_checks, build_checks, built_header, built_words, build_spec}
use Rattle.def_calls.specs.Search.{asking_checks, own_search_checks, search_checks, far_in, found_in, refused, reply_of, search_with_ef_spec, search_spec}
use Rattle.recognise.specs.Recognised.{refused_as}
use Rattle.recognise.specs.Recognise.{recognise_checks, nearest_of, doc_in, recognise_spec}
use Rattle.drintelbok.specs.New.{new_from}
use Rattle.theorems.specs.Footprint.{Alike, AlikeIn, Agree, AgreeScratch, SameAnswer, SameNew, OnStores, Footprint}
use Rattle.theorems.proofs.footprint.Stores.{Words, words, view_same, numbers_same, not_opened}
use Rattle.theorems.proofs.footprint.Written.{over, alike_set, alike_words, alike_floats}

-- ---- a call on stores

module _ (w w' : List ℕ) (f f' : List Float) (a : Agree w w' f f') where
  h : Words w w'
  h = words w w' a.header

  -- what is left, by the two cases of `unless_refused`
  answers : (r r' : ℕ) (x x' : List ℕ) (g g' : List Float) → r ≡ r' → (header_ok w ≡ true → AlikeIn w x x' g g')
      → SameAnswer w (unless_refused r w f x g) (unless_refused r' w' f' x' g')
  unfolding unless_refused pick
  answers r r' x x' g g' e s = subst (λ (k : ℕ). SameAnswer w (unless_refused r w f x g) (unless_refused k w' f' x' g')) e (chosen (eqb r 0))
    where
      chosen : (b : Bool) → SameAnswer w (pick {X = Answer} b (0, x, g) (r, w, f)) (pick {X = Answer} b (0, x', g') (r, w', f'))
      chosen true = record { number = refl; stores = s }
      chosen false = record { number = refl; stores = a.rest }

  -- ---- add

  own_same : (v : List Float) → own_checks w v ≡ own_checks w' v
  unfolding own_checks h
  own_same v = cc (h.w0, h.w1, h.w2, h.w11)

  added_same : (doc : ℕ) (v : List Float) → header_ok w ≡ true → AlikeIn w (added_words w doc) (added_words w' doc) (added_floats w f v) (added_floats w' f' v)
  unfolding added_words added_floats h
  added_same doc v ok =
      let n = word w nodes_at in
      let at = floats_size n (word w dimension_at) in
      let x = scaled_of binary32 v in
      let there : set (set w' (docs_at + n) doc) nodes_at (n + 1) ≡ added_words w' doc = cc h.w2 in
      let scaled-here : over at x f ≡ added_floats w f v = ap (λ (k : ℕ). take at f ++ (x ++ drop (at + k) f)) (length-scaled binary32 v) in
      let scaled-there : over at x f' ≡ added_floats w' f' v = ap (λ (k : ℕ). take at f' ++ (x ++ drop (at + k) f')) (length-scaled binary32 v) ∙ cc (h.w1, h.w2) in
      subst (λ (l : List ℕ). AlikeIn w (added_words w doc) l (added_floats w f v) (added_floats w' f' v)) there
      (subst (λ (l : List Float). AlikeIn w (added_words w doc) (set (set w' (docs_at + n) doc) nodes_at (n + 1)) (added_floats w f v) l) scaled-there
      (subst (λ (l : List Float). AlikeIn w (added_words w doc) (set (set w' (docs_at + n) doc) nodes_at (n + 1)) l (over at x f')) scaled-here
      (alike_floats (alike_set (alike_set (a.rest ok) (docs_at + n) doc) nodes_at (n + 1)) at x)))

  on_add : (doc : ℕ) (v : List Float) → SameAnswer w (add_spec w f doc v) (add_spec w' f' doc v)
  unfolding add_spec add_checks
  on_add doc v =
      answers (first_refusal (add_checks w f v)) (first_refusal (add_checks w' f' v)) (added_words w doc) (added_words w' doc) (added_floats w f v) (added_floats w' f' v)
      (numbers_same None None a refl (own_same v))
      (added_same doc v)

  -- ---- build

  -- the words of a built store, its places by the header's numbers
  words_of : (C D : ℕ) → Graph → List ℕ → List ℕ
  unfolding built_header
  words_of C D g u = over (bridges_at C D) (flatten (map bridge_block g.bridges)) (over (rows_at C) (flatten (map (row_block D) g.rows)) (built_header g u))

  words_alike : (C D : ℕ) (g : Graph) → header_ok w ≡ true → AlikeIn w (words_of C D g w) (words_of C D g w') f f'
  unfolding words_of built_header
  words_alike C D g ok =
      alike_words (alike_words (alike_set (alike_set (alike_set (a.rest ok) state_at built_state) entry_at g.entry) bridge_count_at (length g.bridges)) (rows_at C) (flatten (map (row_block D) g.rows)))
      (bridges_at C D) (flatten (map bridge_block g.bridges))

  built_same : header_ok w ≡ true → AlikeIn w (built_words (graph_for (view w f)) w) (built_words (graph_for (view w' f')) w') f f'
  unfolding built_words words_of h
  built_same ok =
      let C = word w capacity_at in
      let D = word w degree_at in
      let there : words_of C D (graph_for (view w f)) w' ≡ built_words (graph_for (view w' f')) w' =
      ap (λ (v : View). words_of C D (graph_for v) w') (view_same h ok (a.rest ok)) ∙ ap₂ (λ (c d : ℕ). words_of c d (graph_for (view w' f')) w') h.w11 h.w5 in
      subst (λ (l : List ℕ). AlikeIn w (built_words (graph_for (view w f)) w) l f f') there (words_alike C D (graph_for (view w f)) ok)

  -- on a store that is built already nothing is written
  left_same : header_ok w ≡ true
      → AlikeIn w (pick (eqb (word w state_at) built_state) w (built_words (graph_for (view w f)) w)) (pick (eqb (word w' state_at) built_state) w' (built_words (graph_for (view w' f')) w')) f f'
  unfolding pick h
  left_same ok =
      subst (λ (s : ℕ). AlikeIn w (pick (eqb (word w state_at) built_state) w (built_words (graph_for (view w f)) w)) (pick (eqb s built_state) w' (built_words (graph_for (view w' f')) w')) f f') h.w0
      (either (eqb (word w state_at) built_state))
    where
      either : (b : Bool) → AlikeIn w (pick b w (built_words (graph_for (view w f)) w)) (pick b w' (built_words (graph_for (view w' f')) w')) f f'
      either true = a.rest ok
      either false = built_same ok

  on_build : (ws fs ws' fs' : ℕ) → AgreeScratch w ws fs ws' fs' → SameAnswer w (build_spec ws fs w f) (build_spec ws' fs' w' f')
  unfolding build_spec build_checks own_build_checks h
  on_build ws fs ws' fs' s =
      let same : own_build_checks w ≡ own_build_checks w' = cc h.w2 in
      answers (first_refusal (build_checks ws fs w f)) (first_refusal (build_checks ws' fs' w' f'))
      (pick (eqb (word w state_at) built_state) w (built_words (graph_for (view w f)) w)) (pick (eqb (word w' state_at) built_state) w' (built_words (graph_for (view w' f')) w')) f f'
      (numbers_same (scratch ws fs) (scratch ws' fs') a s same)
      left_same

  -- ---- what searches

  -- an answer by the view where the number is 0, another where it is not
  searched : {X : Type 0} (r r' : ℕ) (reply : View → X) (turned : ℕ → X) → r ≡ r' → (header_ok w ≡ false → r ≡ 0 → ⊥)
      → pick (eqb r 0) (reply (view w f)) (turned r) ≡ pick (eqb r' 0) (reply (view w' f')) (turned r')
  unfolding h
  searched r r' reply turned e never = either (header_ok w) refl
    where
      either : (ok : Bool) → header_ok w ≡ ok → pick (eqb r 0) (reply (view w f)) (turned r) ≡ pick (eqb r' 0) (reply (view w' f')) (turned r')
      either true ok = ap₂ (λ (k : ℕ) (v : View). pick (eqb k 0) (reply v) (turned k)) e (view_same h ok (a.rest ok))
      either false ok =
          pick_false (reply (view w f)) (turned r) (ne_eqb r 0 (never ok))
          ∙ ap turned e
          ∙ sym (pick_false (reply (view w' f')) (turned r') (ne_eqb r' 0 (λ z. never ok (e ∙ z))))

  module _ (ws fs ws' fs' : ℕ) (s : AgreeScratch w ws fs ws' fs') (query : List Float) where
    asked_same : (k ef : ℕ) (docs : List ℕ) (distances : List Float) → own_search_checks w query k ef docs distances ≡ own_search_checks w' query k ef docs distances
    unfolding own_search_checks h
    asked_same k ef docs distances = cc (h.w0, h.w1, h.w2)

    on_search_with_ef : (k ef : ℕ) (docs : List ℕ) (distances : List Float)
        → search_with_ef_spec ws fs w f query k ef docs distances ≡ search_with_ef_spec ws' fs' w' f' query k ef docs distances
    unfolding search_with_ef_spec search_checks
    on_search_with_ef k ef docs distances =
        searched (first_refusal (search_checks w query k ef docs distances ws fs f)) (first_refusal (search_checks w' query k ef docs distances ws' fs' f'))
        (λ (v : View). reply_of usual v query k ef docs distances) (λ (r : ℕ). refused r docs distances)
        (numbers_same (scratch ws fs) (scratch ws' fs') a s (asked_same k ef docs distances))
        (not_opened (scratch ws fs) (scratch ws' fs') a s (asked_same k ef docs distances))

    on_search : (k : ℕ) (docs : List ℕ) (distances : List Float) → search_spec ws fs w f query k docs distances ≡ search_spec ws' fs' w' f' query k docs distances
    unfolding search_spec h
    on_search k docs distances =
        on_search_with_ef k (word w ef_search_at) docs distances ∙ ap (λ (ef : ℕ). search_with_ef_spec ws' fs' w' f' query k ef docs distances) h.w8

    on_recognise : (ef : ℕ) (limit : Float) → recognise_spec ws fs w f query ef limit ≡ recognise_spec ws' fs' w' f' query ef limit
    unfolding recognise_spec recognise_checks h
    on_recognise ef limit =
        let same : (asking_checks w query 1 ef ++ (check (not (finite limit)) limit_not_finite ∷ [])) ≡ (asking_checks w' query 1 ef ++ (check (not (finite limit)) limit_not_finite ∷ [])) = cc (h.w0, h.w1) in
        searched {X = Values} (first_refusal (recognise_checks ws fs w f query ef limit)) (first_refusal (recognise_checks ws' fs' w' f' query ef limit))
        (λ (v : View). nearest_of (doc_in v) (far_in v query) limit (found_in usual v query 1 ef)) (λ (r : ℕ). refused_as r)
        (numbers_same (scratch ws fs) (scratch ws' fs') a s same)
        (not_opened (scratch ws fs) (scratch ws' fs') a s same)

  pub on_stores : OnStores w w' f f'
  on_stores = record {
    add = on_add;
    build = on_build;
    search_with_ef = λ ws fs ws' fs' s query k ef docs distances. on_search_with_ef ws fs ws' fs' s query k ef docs distances;
    search = λ ws fs ws' fs' s query k docs distances. on_search ws fs ws' fs' s query k docs distances;
    recognise = λ ws fs ws' fs' s query ef limit. on_recognise ws fs ws' fs' s query ef limit;
  }

-- ---- `new`, on stores of any content

-- a list whose front is written anew
fronted : {A : Type 0} (n : ℕ) (p u : List A) → length p ≡ n → (n ≤ length (p ++ drop n u)) × (take n (p ++ drop n u) ≡ p)
fronted n p u e = (omega (arith, length-append p (drop n u)), take_at p (drop n u) n e)

module _ (w w' : List ℕ) (f f' : List Float) (dimension : ℕ) (p : PipnnParams) (capacity : ℕ) where
  abbrev Wₙ : ℕ
  Wₙ = words_size capacity p.max_degree

  abbrev Fₙ : ℕ
  Fₙ = floats_size capacity dimension

  -- what is written up to the size, then the rest
  front : List ℕ
  front = empty_header dimension p capacity ++ replicate (Wₙ - header_size) 0

  front_length : length front ≡ Wₙ
  unfolding front empty_header
  front_length = omega (arith, length-append (empty_header dimension p capacity) (replicate (Wₙ - header_size) 0), length-replicate {A = ℕ} (Wₙ - header_size) 0)

  words_are : (u : List ℕ) (g : List Float) → new_words dimension p capacity u g ≡ front ++ drop Wₙ u
  unfolding new_words front
  words_are u g = sym (append_assoc (empty_header dimension p capacity) (replicate (Wₙ - header_size) 0) (drop Wₙ u))

  module _ (words_reach : (Wₙ ≤ length w) × (Wₙ ≤ length w')) (floats_reach : (Fₙ ≤ length f) × (Fₙ ≤ length f')) where
    written : Alike Wₙ Fₙ (new_words dimension p capacity w f) (new_words dimension p capacity w' f') (new_floats dimension p capacity w f) (new_floats dimension p capacity w' f')
    unfolding new_floats
    written = record {
      words_reach = ((word_front w f).0, (word_front w' f').0);
      floats_reach = ((float_front f).0, (float_front f').0);
      words = (word_front w f).1 ∙ sym (word_front w' f').1;
      floats = (float_front f).1 ∙ sym (float_front f').1;
    }
      where
        word_front : (u : List ℕ) (g : List Float) → (Wₙ ≤ length (new_words dimension p capacity u g)) × (take Wₙ (new_words dimension p capacity u g) ≡ front)
        word_front u g = rw (words_are u g) (fronted Wₙ front u front_length)

        float_front : (g : List Float) → (Fₙ ≤ length (replicate Fₙ +zero ++ drop Fₙ g)) × (take Fₙ (replicate Fₙ +zero ++ drop Fₙ g) ≡ replicate Fₙ +zero)
        float_front g = fronted Fₙ (replicate Fₙ +zero) g (length-replicate Fₙ +zero)

    checks_same : new_checks dimension p capacity w f ≡ new_checks dimension p capacity w' f'
    unfolding new_checks
    checks_same = cc (le-ltb _ _ words_reach.0, le-ltb _ _ words_reach.1, le-ltb _ _ floats_reach.0, le-ltb _ _ floats_reach.1)

    on_new : SameNew Wₙ Fₙ (new_spec dimension p capacity w f) (new_spec dimension p capacity w' f')
    unfolding new_spec unless_refused
    on_new =
        let r = first_refusal (new_checks dimension p capacity w f) in
        let r' = first_refusal (new_checks dimension p capacity w' f') in
        let x = new_words dimension p capacity w f in
        let x' = new_words dimension p capacity w' f' in
        let g = new_floats dimension p capacity w f in
        let g' = new_floats dimension p capacity w' f' in
        record {
          number = number_is r w f x g ∙ ap first_refusal checks_same ∙ sym (number_is r' w' f' x' g');
          stores = λ z.
              let zero : r ≡ 0 = sym (number_is r w f x g) ∙ z in
              let zero' : r' ≡ 0 = ap first_refusal (sym checks_same) ∙ zero in
              subst (λ (b : Answer). Alike Wₙ Fₙ b.1 (new_spec dimension p capacity w' f').1 b.2 (new_spec dimension p capacity w' f').2)
              (changed r w f x g zero)
              (subst (λ (b : Answer). Alike Wₙ Fₙ x b.1 g b.2) (changed r' w' f' x' g' zero') written);
        }

    -- behind C: 2 for a final_prune that is neither 0 nor 1, and the stores are as they were
    on_new_from : (final_prune : ℕ) → SameNew Wₙ Fₙ (new_from dimension final_prune p capacity w f) (new_from dimension final_prune p capacity w' f')
    unfolding new_from pick
    on_new_from final_prune = either (dimension_within dimension && ltb 1 final_prune)
      where
        either : (b : Bool) → SameNew Wₙ Fₙ (pick {X = Answer} b (2, w, f) (new_spec dimension p capacity w f)) (pick {X = Answer} b (2, w', f') (new_spec dimension p capacity w' f'))
        either true = record { number = refl; stores = λ z. absurd (omega arith) }
        either false = on_new

-- ---- every call

pub footprint : Footprint
footprint = record {
  on_new = λ w w' f f' dimension p capacity wl fl. record { new = on_new w w' f f' dimension p capacity wl fl; new_from_c = on_new_from w w' f f' dimension p capacity wl fl };
  on_stores = on_stores;
}
