-- The view after an accepted `new` and after an accepted add; and an open store that these calls made. Assumes nothing.
use mathlib.Core.Path.{◌≡◌, refl, sym, ap, ap₂, ◌∙◌}
use mathlib.Core.Bool.{Bool, true, false}
use mathlib.Core.List.{List, [], ◌∷◌, ◌++◌, map, map-append}
use Prim.Native.Nat.{ℕ, ◌+◌, ◌-◌, ◌*◌, ◌/◌, ◌%◌, ◌^◌, ◌≤◌, ◌<◌}
use native.Mathlib.Nat.{div-add-mod'}
use native.Mathlib.Numerals.{add-one}
use native.Mathlib.Omega.{arith}
use lib.Dec.{T, eqb}
use lib.ListN.{length, take, drop, set, replicate, length-set, take-append-drop, length-drop}
use lib.Seq.{drop-set-lt, drop-set-add, take-suc-set, get_or-set_same, get_or-set_other, take_at, drop_at, length-take-le}
use lib.Ieee.{Float, binary32, binary64, fits, of_bits, to_bits}
use lib.Ieee.Bits.{of_bits-to_bits}
use Rattle.basics.specs.Choice.{pick}
use Rattle.basics.specs.Lists.{pieces}
use Rattle.basics.proofs.Pieces.{pieces_more, pieces_front}
use Rattle.params.specs.declared.PipnnParams.{PipnnParams}
use Rattle.store.specs.Layout.{word, open_state, header_size, state_at, dimension_at, nodes_at, max_leaf_size_at, min_leaf_size_at, degree_at, hash_bits_at, final_prune_at, ef_search_at, entry_at, bridge_count_at, capacity_at, fraction_high_at, fraction_low_at, alpha_at, docs_at, rows_at, row_size, bridges_at, bridge_size, words_size}
use Rattle.store.specs.View.{params_of, empty_header, row_words, bridge_words, entries_in, bridge_in, View, view}
use Rattle.norm.specs.Norm.{scaled_of}
use Rattle.norm.proofs.Laws.{length-scaled}
use Rattle.pipnn.specs.New.{new_words, new_floats}
use Rattle.pipnn.specs.Add.{added_words, added_floats}
use Rattle.pipnn.proofs.AddLaws.{AddTaken}

-- ---- after `new`

-- an open store's view: these nodes, no entries, no bridges
abbrev pub open_view : ℕ → PipnnParams → ℕ → List ℕ → List (List Float) → View
open_view dimension p capacity docs vectors = record {
  params = p;
  dimension = dimension;
  capacity = capacity;
  state = open_state;
  n = length docs;
  entry = 0;
  docs = docs;
  rows = replicate (length docs) [];
  bridges = [];
  vectors = vectors;
}

-- the two floats are values of their types
pub record Floats (p : PipnnParams) : Type 0 where
  pub fraction : T (fits binary64 p.leader_fraction)
  pub alpha : T (fits binary32 p.alpha)

flag_back : (b : Bool) → eqb (pick {X = ℕ} b 1 0) 1 ≡ b
unfolding pick
flag_back true = refl
flag_back false = refl

params-back : (d : ℕ) (p : PipnnParams) (c : ℕ) (rest : List ℕ) → Floats p → params_of (empty_header d p c ++ rest) ≡ p
unfolding params_of empty_header
params-back d p c rest h =
    let bits : ℕ = to_bits binary64 p.leader_fraction in
    let fraction : of_bits binary64 (bits / 2 ^ 32 * 2 ^ 32 + bits % 2 ^ 32) ≡ p.leader_fraction =
    ap (of_bits binary64) (div-add-mod' bits (2 ^ 32)) ∙ of_bits-to_bits binary64 p.leader_fraction h.fraction in
    let alpha : of_bits binary32 (to_bits binary32 p.alpha) ≡ p.alpha = of_bits-to_bits binary32 p.alpha h.alpha in
    λ i. record {
      max_leaf_size = p.max_leaf_size;
      min_leaf_size = p.min_leaf_size;
      leader_fraction = fraction i;
      max_degree = p.max_degree;
      num_hash_bits = p.num_hash_bits;
      final_prune = flag_back p.final_prune i;
      alpha = alpha i;
      ef_search = p.ef_search;
    }

-- an open store with no nodes and these parameters
pub new_view : (d : ℕ) (p : PipnnParams) (c : ℕ) (w : List ℕ) (f : List Float) → Floats p → view (new_words d p c w f) (new_floats d p c w f) ≡ open_view d p c [] []
unfolding view new_words empty_header row_words bridge_words pieces
new_view d p c w f h =
    let rest : List ℕ = replicate (words_size c p.max_degree - header_size) 0 ++ drop (words_size c p.max_degree) w in
    λ i. record {
      params = params-back d p c rest h i;
      dimension = d;
      capacity = c;
      state = open_state;
      n = 0;
      entry = 0;
      docs = [];
      rows = [];
      bridges = [];
      vectors = [];
    }

-- ---- after an accepted add

-- one doc id, one vector and one row more
abbrev pub grown : View → ℕ → List Float → List ℕ → View
grown v doc x row = record {
  params = v.params;
  dimension = v.dimension;
  capacity = v.capacity;
  state = v.state;
  n = v.n + 1;
  entry = v.entry;
  docs = v.docs ++ (doc ∷ []);
  rows = v.rows ++ (row ∷ []);
  bridges = v.bridges;
  vectors = v.vectors ++ (x ∷ []);
}

module _ (w : List ℕ) (f : List Float) (doc : ℕ) (v : List Float) (t : AddTaken w f v) where
  abbrev n : ℕ
  n = word w nodes_at

  abbrev C : ℕ
  C = word w capacity_at

  abbrev D : ℕ
  D = word w degree_at

  abbrev w' : List ℕ
  w' = set (set w (docs_at + n) doc) nodes_at (n + 1)

  -- every header word but n stays, and so does all from the rows on
  pub kept : (k : ℕ) → k < header_size → (k ≡ nodes_at → ⊥) → word w' k ≡ word w k
  kept k h other =
      let before : k ≡ docs_at + n → ⊥ = λ e. omega arith in
      get_or-set_other (set w (docs_at + n) doc) nodes_at k (n + 1) 0 other ∙ get_or-set_other w (docs_at + n) k doc 0 before

  pub counted : word w' nodes_at ≡ n + 1
  counted = get_or-set_same (set w (docs_at + n) doc) nodes_at (n + 1) 0 (rw (length-set w (docs_at + n) doc) (omega (arith, t.doc)))

  pub rows_kept : (k : ℕ) → rows_at C ≤ k → drop k w' ≡ drop k w
  rows_kept k h =
      drop-set-lt k (set w (docs_at + n) doc) nodes_at (n + 1) (omega arith) ∙ drop-set-lt k w (docs_at + n) doc (omega (arith, t.free))

  docs_more : take (n + 1) (drop docs_at w') ≡ take n (drop docs_at w) ++ (doc ∷ [])
  docs_more =
      let inside : n < length (drop docs_at w) = simp length-drop (omega (arith, t.doc)) in
      ap (take (n + 1)) (drop-set-lt docs_at (set w (docs_at + n) doc) nodes_at (n + 1) (omega arith) ∙ drop-set-add docs_at w n doc)
      ∙ ap (λ (k : ℕ). take k (set (drop docs_at w) n doc)) (add-one n) ∙ take-suc-set (drop docs_at w) n doc inside

  -- the row that node n finds: the call writes none
  abbrev pub row_found : List ℕ
  row_found = entries_in (take (row_size D) (drop (n * row_size D) (drop (rows_at C) w)))

  rows_more : map entries_in (pieces (row_size D) (n + 1) (drop (rows_at C) w)) ≡ map entries_in (pieces (row_size D) n (drop (rows_at C) w)) ++ (row_found ∷ [])
  rows_more =
      ap (λ (k : ℕ). map entries_in (pieces (row_size D) k (drop (rows_at C) w))) (add-one n)
      ∙ ap (map entries_in) (pieces_more (row_size D) n (drop (rows_at C) w))
      ∙ map-append entries_in (pieces (row_size D) n (drop (rows_at C) w)) (take (row_size D) (drop (n * row_size D) (drop (rows_at C) w)) ∷ [])

  abbrev d : ℕ
  d = word w dimension_at

  abbrev f' : List Float
  f' = take (n * d) f ++ (scaled_of binary32 v ++ drop (n * d + length v) f)

  vectors_more : pieces d (n + 1) f' ≡ pieces d n f ++ (scaled_of binary32 v ∷ [])
  vectors_more =
      let rest : List Float = scaled_of binary32 v ++ drop (n * d + length v) f in
      let front : length (take (n * d) f) ≡ n * d = length-take-le (n * d) f (omega (arith, t.vector)) in
      let whole : n * d ≤ length (take (n * d) f) = omega arith in
      let first : pieces d n f' ≡ pieces d n f =
      pieces_front d n (take (n * d) f) rest whole
      ∙ sym (pieces_front d n (take (n * d) f) (drop (n * d) f) whole)
      ∙ ap (pieces d n) (take-append-drop (n * d) f) in
      let last : take d (drop (n * d) f') ≡ scaled_of binary32 v =
      ap (take d) (drop_at (take (n * d) f) rest (n * d) front)
      ∙ take_at (scaled_of binary32 v) (drop (n * d + length v) f) d (length-scaled binary32 v ∙ t.components) in
      ap (λ (k : ℕ). pieces d k f') (add-one n) ∙ pieces_more d n f'
      ∙ ap₂ (λ (l : List (List Float)) (x : List Float). l ++ (x ∷ [])) first last

  params-kept : params_of w' ≡ params_of w
  unfolding params_of
  params-kept =
      let same : (k : ℕ) → k < header_size → (k ≡ nodes_at → ⊥) → word w' k ≡ word w k = kept in
      λ i. record {
        max_leaf_size = same max_leaf_size_at (omega arith) (λ e. omega arith) i;
        min_leaf_size = same min_leaf_size_at (omega arith) (λ e. omega arith) i;
        leader_fraction = of_bits binary64 (same fraction_high_at (omega arith) (λ e. omega arith) i * 2 ^ 32 + same fraction_low_at (omega arith) (λ e. omega arith) i);
        max_degree = same degree_at (omega arith) (λ e. omega arith) i;
        num_hash_bits = same hash_bits_at (omega arith) (λ e. omega arith) i;
        final_prune = eqb (same final_prune_at (omega arith) (λ e. omega arith) i) 1;
        alpha = of_bits binary32 (same alpha_at (omega arith) (λ e. omega arith) i);
        ef_search = same ef_search_at (omega arith) (λ e. omega arith) i;
      }

  pub add_view : view (added_words w doc) (added_floats w f v) ≡ grown (view w f) doc (scaled_of binary32 v) row_found
  unfolding view added_words added_floats row_words bridge_words
  add_view =
      let C-same : word w' capacity_at ≡ C = kept capacity_at (omega arith) (λ e. omega arith) in
      let D-same : word w' degree_at ≡ D = kept degree_at (omega arith) (λ e. omega arith) in
      let d-same : word w' dimension_at ≡ d = kept dimension_at (omega arith) (λ e. omega arith) in
      let rows_same : drop (rows_at C) w' ≡ drop (rows_at C) w = rows_kept (rows_at C) (omega arith) in
      let bridges_same : drop (bridges_at C D) w' ≡ drop (bridges_at C D) w = rows_kept (bridges_at C D) (omega arith) in
      let count_same : word w' bridge_count_at ≡ word w bridge_count_at = kept bridge_count_at (omega arith) (λ e. omega arith) in
      let docs : take (word w' nodes_at) (drop docs_at w') ≡ take n (drop docs_at w) ++ (doc ∷ []) =
      ap (λ (k : ℕ). take k (drop docs_at w')) counted ∙ docs_more in
      let rows : map entries_in (pieces (row_size (word w' degree_at)) (word w' nodes_at) (drop (rows_at (word w' capacity_at)) w'))
      ≡ map entries_in (pieces (row_size D) n (drop (rows_at C) w)) ++ (row_found ∷ []) =
      (λ i. map entries_in (pieces (row_size (D-same i)) (counted i) (drop (rows_at (C-same i)) w')))
      ∙ ap (λ (l : List ℕ). map entries_in (pieces (row_size D) (n + 1) l)) rows_same ∙ rows_more in
      let bridges : map bridge_in (pieces bridge_size (word w' bridge_count_at) (drop (bridges_at (word w' capacity_at) (word w' degree_at)) w'))
      ≡ map bridge_in (pieces bridge_size (word w bridge_count_at) (drop (bridges_at C D) w)) =
      (λ i. map bridge_in (pieces bridge_size (count_same i) (drop (bridges_at (C-same i) (D-same i)) w')))
      ∙ ap (λ (l : List ℕ). map bridge_in (pieces bridge_size (word w bridge_count_at) l)) bridges_same in
      let vectors : pieces (word w' dimension_at) (word w' nodes_at) f' ≡ pieces d n f ++ (scaled_of binary32 v ∷ []) =
      (λ i. pieces (d-same i) (counted i) f') ∙ vectors_more in
      λ i. record {
        params = params-kept i;
        dimension = d-same i;
        capacity = C-same i;
        state = kept state_at (omega arith) (λ e. omega arith) i;
        n = counted i;
        entry = kept entry_at (omega arith) (λ e. omega arith) i;
        docs = docs i;
        rows = rows i;
        bridges = bridges i;
        vectors = vectors i;
      }
