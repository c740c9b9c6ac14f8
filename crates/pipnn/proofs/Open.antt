-- An open store that these calls made, known by its view and by rows whose counts are all 0: `new` makes one with no nodes, and an accepted
-- add makes one with a node more. A refusal leaves it (`left_alone` of Answer). Assumes nothing.
use mathlib.Core.Path.{◌≡◌, sym, ap, ◌∙◌, subst}
use mathlib.Core.List.{List, [], ◌∷◌, ◌++◌}
use Prim.Native.Nat.{ℕ, zero, ◌+◌, ◌-◌, ◌*◌, ◌≤◌, ◌<◌}
use native.Mathlib.Nat.{add-zero}
use native.Mathlib.Omega.{arith}
use lib.ListN.{length, get_or, take, drop, set, replicate, length-append, length-set, length-drop, length-replicate, get_or-replicate, replicate-append-replicate, get_or-append}
use lib.Seq.{drop-drop, get_or-take, get_or-drop, get_or-append-add, length-take-le}
use lib.Ieee.{Float, binary32}
use Rattle.params.specs.declared.PipnnParams.{PipnnParams}
use Rattle.store.specs.Layout.{word, header_size, dimension_at, nodes_at, degree_at, capacity_at, docs_at, rows_at, row_size, row_at, words_size, floats_size}
use Rattle.store.specs.View.{empty_header, View, view}
use Rattle.store.proofs.Sizes.{product_le}
use Rattle.norm.specs.Norm.{scaled_of}
use Rattle.norm.proofs.Laws.{length-scaled}
use Rattle.pipnn.specs.New.{new_words, new_floats}
use Rattle.pipnn.specs.Add.{added_words, added_floats}
use Rattle.pipnn.proofs.NewLaws.{sixteen_words, NewTaken}
use Rattle.pipnn.proofs.AddLaws.{AddTaken}
use Rattle.pipnn.proofs.Views.{open_view, Floats, new_view, grown, rows_kept, row_found, add_view}

pub record OpenStore (d : ℕ) (p : PipnnParams) (c : ℕ) (docs : List ℕ) (vectors : List (List Float)) (w : List ℕ) (f : List Float) : Type 0 where
  pub is : view w f ≡ open_view d p c docs vectors
  pub blank : (i : ℕ) → i < c → word w (row_at c p.max_degree i) ≡ 0
  pub words : words_size c p.max_degree ≤ length w
  pub floats : floats_size c d ≤ length f

module _ (d : ℕ) (p : PipnnParams) (c : ℕ) (w : List ℕ) (f : List Float) (t : NewTaken d p c w f) where
  abbrev size : ℕ
  size = words_size c p.max_degree

  new_blank : (i : ℕ) → i < c → word (new_words d p c w f) (row_at c p.max_degree i) ≡ 0
  unfolding new_words
  new_blank i h =
      let k : ℕ = c + i * row_size p.max_degree in
      let zeros : List ℕ = replicate (size - header_size) 0 in
      let at : row_at c p.max_degree i ≡ length (empty_header d p c) + k = omega (arith, sixteen_words d p c) in
      let row : ℕ = row_size p.max_degree in
      let most : (i + 1) * row ≤ c * row = product_le (i + 1) row c row (omega arith) (omega arith) in
      let inside : k < size - header_size = omega arith in
      let within : k < length zeros = omega (arith, length-replicate (size - header_size) (zero)) in
      ap (λ (j : ℕ). get_or (empty_header d p c ++ (zeros ++ drop size w)) j 0) at
      ∙ get_or-append-add (empty_header d p c) (zeros ++ drop size w) k 0
      ∙ get_or-append zeros (drop size w) 0 k within
      ∙ get_or-replicate (size - header_size) k 0 0 inside

  pub new_open : Floats p → OpenStore d p c [] [] (new_words d p c w f) (new_floats d p c w f)
  unfolding new_words new_floats
  new_open h = record {
    is = new_view d p c w f h;
    blank = new_blank;
    words = simp (length-append, length-replicate, length-drop) (omega (arith, t.words, sixteen_words d p c));
    floats = simp (length-append, length-replicate, length-drop) (omega (arith, t.floats));
  }

module _ (d : ℕ) (p : PipnnParams) (c : ℕ) (docs : List ℕ) (vectors : List (List Float)) (w : List ℕ) (f : List Float) (doc : ℕ) (v : List Float)
    (t : AddTaken w f v) (o : OpenStore d p c docs vectors w f) where
  capacity_is : word w capacity_at ≡ c
  unfolding view
  capacity_is = ap (λ (x : View). x.capacity) o.is

  degree_is : word w degree_at ≡ p.max_degree
  unfolding view
  degree_is = ap (λ (x : View). x.params.max_degree) o.is

  dimension_is : word w dimension_at ≡ d
  unfolding view
  dimension_is = ap (λ (x : View). x.dimension) o.is

  row_empty : row_found w f doc v t ≡ []
  row_empty =
      let C = word w capacity_at in
      let D = word w degree_at in
      let n = word w nodes_at in
      let row : List ℕ = take (row_size D) (drop (n * row_size D) (drop (rows_at C) w)) in
      let places : row_at C D n ≡ row_at c p.max_degree n = λ i. row_at (capacity_is i) (degree_is i) n in
      let count : get_or row 0 0 ≡ 0 =
      get_or-take (row_size D) (drop (n * row_size D) (drop (rows_at C) w)) 0 0 (omega arith)
      ∙ ap (λ (l : List ℕ). get_or l 0 0) (drop-drop (n * row_size D) (rows_at C) w)
      ∙ get_or-drop (row_at C D n) w 0 0 ∙ ap (λ (k : ℕ). word w k) (add-zero (row_at C D n) ∙ places)
      ∙ o.blank n (subst (λ (k : ℕ). n < k) capacity_is t.free) in
      ap (λ (k : ℕ). take k (drop 1 row)) count

  grown_open : grown (open_view d p c docs vectors) doc (scaled_of binary32 v) [] ≡ open_view d p c (docs ++ (doc ∷ [])) (vectors ++ (scaled_of binary32 v ∷ []))
  grown_open =
      let more : length docs + 1 ≡ length (docs ++ (doc ∷ [])) = sym (length-append docs (doc ∷ [])) in
      let rows : replicate (length docs) [] ++ ([] ∷ []) ≡ replicate (length (docs ++ (doc ∷ []))) [] =
      replicate-append-replicate (length docs) 1 [] ∙ ap (λ (k : ℕ). replicate {A = List ℕ} k []) more in
      λ i. record {
        params = p;
        dimension = d;
        capacity = c;
        state = 0;
        n = more i;
        entry = 0;
        docs = docs ++ (doc ∷ []);
        rows = rows i;
        bridges = [];
        vectors = vectors ++ (scaled_of binary32 v ∷ []);
      }

  add_blank : (i : ℕ) → i < c → word (added_words w doc) (row_at c p.max_degree i) ≡ 0
  unfolding added_words
  add_blank i h =
      let k : ℕ = row_at c p.max_degree i in
      let past : rows_at (word w capacity_at) ≤ k = omega (arith, capacity_is) in
      let here : (l : List ℕ) → word l k ≡ get_or (drop k l) 0 0 = λ l. ap (λ (j : ℕ). word l j) (sym (add-zero k)) ∙ sym (get_or-drop k l 0 0) in
      here (added_words w doc) ∙ ap (λ (l : List ℕ). get_or l 0 0) (rows_kept w f doc v t k past) ∙ sym (here w) ∙ o.blank i h

  pub add_open : OpenStore d p c (docs ++ (doc ∷ [])) (vectors ++ (scaled_of binary32 v ∷ [])) (added_words w doc) (added_floats w f v)
  unfolding added_words added_floats
  add_open =
      let n = word w nodes_at in
      let at : ℕ = n * word w dimension_at in record {
        is = add_view w f doc v t ∙ (λ i. grown (o.is i) doc (scaled_of binary32 v) (row_empty i)) ∙ grown_open;
        blank = add_blank;
        words = omega (arith, o.words, length-set (set w (docs_at + n) doc) nodes_at (n + 1), length-set w (docs_at + n) doc);
        floats = simp (length-append, length-drop, length-scaled) (omega (arith, o.floats, t.vector, length-take-le at f (omega (arith, t.vector))));
      }
