-- What well-formedness says of the view: rows of at most D nodes, bridges between different nodes, finite vectors. Assumes nothing.
use mathlib.Core.Path.{◌≡◌, sym, ap, ◌∙◌, subst}
use mathlib.Core.Bool.{true, ◌&&◌}
use mathlib.Core.List.Memᴰ.{head as here}
use mathlib.Core.List.Memᴰ.{tail as there}
use mathlib.Core.List.{List, [], ◌∷◌}
use Prim.Native.Nat.{ℕ, ◌+◌, ◌*◌, ◌≤◌, ◌<◌}
use native.Mathlib.Omega.{arith}
use lib.Dec.{ltb}
use lib.ListN.{length, get_or, take, drop, length-take, get_or-map}
use lib.Seq.{drop-drop, get_or-take, get_or-drop}
use lib.Ieee.{Float}
use lib.Ieee.Scale.{finite}
use borrow.Author.Tests.{leb-true, ltb-true, eqb-false, not-true}
use Rattle.basics.specs.Lists.{every}
use Rattle.basics.specs.Nodes.{Below}
use Rattle.basics.specs.Graph.{Bridge}
use Rattle.basics.proofs.Tests.{both_true}
use Rattle.basics.proofs.Pieces.{length_pieces, nth_piece, every_at}
use Rattle.store.specs.Layout.{word, dimension_at, nodes_at, degree_at, bridge_count_at, capacity_at, rows_at, row_size, row_at, bridges_at, bridge_size}
use Rattle.store.specs.View.{row_words, bridge_words, entries_in, bridge_in, view}
use Rattle.store.specs.WellFormed.{is_node, row_ok, bridge_ok, rest_ok}

all_below : (n : ℕ) (l : List ℕ) → every (is_node n) l ≡ true → Below n l
unfolding every
all_below n [] e x m = elim m [ ]
all_below n (y ∷ l) e x (here q) = let t = both_true _ _ e in subst (λ (z : ℕ). z < n) (sym q) (ltb-true y n t.0)
all_below n (y ∷ l) e x (there m) = all_below n l (both_true (ltb y n) (every (is_node n) l) e).1 x m

module _ (w : List ℕ) (f : List Float) (ok : rest_ok w f ≡ true) where
  abbrev n : ℕ
  n = word w nodes_at

  abbrev C : ℕ
  C = word w capacity_at

  abbrev D : ℕ
  D = word w degree_at

  parts : ((every (row_ok D n) (row_words w) && every (bridge_ok n) (bridge_words w)) ≡ true) × (every finite (take (n * word w dimension_at) f) ≡ true)
  unfolding rest_ok
  parts = both_true _ _ ok

  row_tests : (i : ℕ) → i < n → row_ok D n (get_or (row_words w) i []) ≡ true
  unfolding row_words
  row_tests i h =
      every_at (row_ok D n) (row_words w) [] i (both_true _ _ parts.0).0 (omega (arith, length_pieces (row_size D) n (drop (rows_at C) w)))

  -- node i's row: its count is at most D, so are its entries, and each is a node
  pub record RowGood (i : ℕ) : Type 0 where
    pub count : word w (row_at C D i) ≤ D
    pub few : length (get_or (view w f).rows i []) ≤ D
    pub nodes : Below n (get_or (view w f).rows i [])

  row_first : (i : ℕ) → i < n → get_or (get_or (row_words w) i []) 0 0 ≡ word w (row_at C D i)
  unfolding row_words
  row_first i h =
      let at : drop (i * row_size D) (drop (rows_at C) w) ≡ drop (row_at C D i) w = drop-drop (i * row_size D) (rows_at C) w in
      let same : row_at C D i + 0 ≡ row_at C D i = omega arith in
      ap (λ (l : List ℕ). get_or l 0 0) (nth_piece (row_size D) n (drop (rows_at C) w) i h ∙ ap (take (row_size D)) at)
      ∙ get_or-take (row_size D) (drop (row_at C D i) w) 0 0 (omega arith) ∙ get_or-drop (row_at C D i) w 0 0 ∙ ap (λ (k : ℕ). word w k) same

  row_entries : (i : ℕ) → get_or (view w f).rows i [] ≡ entries_in (get_or (row_words w) i [])
  unfolding view
  row_entries i = get_or-map entries_in (row_words w) i []

  pub row_good : (i : ℕ) → i < n → RowGood i
  unfolding row_ok
  row_good i h =
      let t = both_true _ _ (row_tests i h) in
      let row : List ℕ = get_or (row_words w) i [] in
      let count : get_or row 0 0 ≤ D = leb-true _ _ t.0 in record {
        count = subst (λ (k : ℕ). k ≤ D) (row_first i h) count;
        few = subst (λ (l : List ℕ). length l ≤ D) (sym (row_entries i)) (omega (arith, length-take (get_or row 0 0) (drop 1 row)));
        nodes = subst (Below n) (sym (row_entries i)) (all_below n (entries_in row) t.1);
      }

  -- bridge j: two different nodes
  pub record BridgeGood (b : Bridge) : Type 0 where
    pub near_node : b.near < n
    pub far_node : b.far < n
    pub different : b.near ≡ b.far → ⊥

  pub bridge_good : (j : ℕ) → j < word w bridge_count_at → BridgeGood (get_or (view w f).bridges j (bridge_in []))
  unfolding view bridge_words
  bridge_good j h =
      let pair : List ℕ = get_or (bridge_words w) j [] in
      let all : every (bridge_ok n) (bridge_words w) ≡ true = (both_true (every (row_ok D n) (row_words w)) (every (bridge_ok n) (bridge_words w)) parts.0).1 in
      let inside : j < length (bridge_words w) = omega (arith, length_pieces bridge_size (word w bridge_count_at) (drop (bridges_at C D) w)) in
      let t = both_true _ _ (every_at (bridge_ok n) (bridge_words w) [] j all inside) in
      let ends = both_true _ _ t.0 in
      subst BridgeGood (sym (get_or-map bridge_in (bridge_words w) j []))
      (record { near_node = ltb-true _ _ ends.0; far_node = ltb-true _ _ ends.1; different = eqb-false _ _ (not-true _ t.1) })
