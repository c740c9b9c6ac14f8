-- How many rows, bridges and vectors the view has, and a node's doc id; and that rows and bridges laid out are read back.
-- Assumes nothing.
use mathlib.Core.Path.{◌≡◌, refl, sym, ap, ap₂, ◌∙◌}
use mathlib.Core.List.{List, [], ◌∷◌, ◌++◌, map, flatten}
use Prim.Native.Nat.{ℕ, zero, ◌+◌, ◌-◌, ◌≤◌, ◌<◌}
use native.Mathlib.Omega.{arith}
use lib.ListN.{length, get_or, drop, replicate, length-append, length-replicate, length-map}
use lib.Seq.{take_at, get_or-take, get_or-drop}
use lib.Ieee.{Float}
use Rattle.basics.specs.Lists.{pieces}
use Rattle.basics.specs.Graph.{Bridge}
use Rattle.basics.proofs.Pieces.{length_pieces, Sized, pieces_back}
use Rattle.store.specs.Layout.{word, dimension_at, nodes_at, degree_at, bridge_count_at, capacity_at, docs_at, rows_at, row_size, bridges_at, bridge_size}
use Rattle.store.specs.View.{row_words, bridge_words, entries_in, bridge_in, row_block, bridge_block, view}

-- ---- reading

module _ (w : List ℕ) (f : List Float) where
  abbrev n : ℕ
  n = word w nodes_at

  abbrev C : ℕ
  C = word w capacity_at

  abbrev D : ℕ
  D = word w degree_at

  pub rows_read : length (view w f).rows ≡ n
  unfolding view row_words
  rows_read = length-map (row_words w) entries_in ∙ length_pieces (row_size D) n (drop (rows_at C) w)

  pub bridges_read : length (view w f).bridges ≡ word w bridge_count_at
  unfolding view bridge_words
  bridges_read = length-map (bridge_words w) bridge_in ∙ length_pieces bridge_size (word w bridge_count_at) (drop (bridges_at C D) w)

  pub vectors_read : length (view w f).vectors ≡ n
  unfolding view
  vectors_read = length_pieces (word w dimension_at) n f

  pub doc_read : (i : ℕ) → i < n → get_or (view w f).docs i 0 ≡ word w (docs_at + i)
  unfolding view
  doc_read i h = get_or-take n (drop docs_at w) i 0 h ∙ get_or-drop docs_at w i 0

-- ---- reading back what was laid out

-- each row has at most D entries
abbrev pub Short : ℕ → List (List ℕ) → Type 0
Short D [] = Unit
Short D (r ∷ rs) = (length r ≤ D) × Short D rs

module _ (D : ℕ) where
  block_length : (r : List ℕ) → length r ≤ D → length (row_block D r) ≡ row_size D
  block_length r h = omega (arith, length-append r (replicate (D - length r) 0), length-replicate (D - length r) (zero))

  pub blocks_sized : (rs : List (List ℕ)) → Short D rs → Sized (row_size D) (map (row_block D) rs)
  blocks_sized [] h = tt
  blocks_sized (r ∷ rs) h = (block_length r h.0, blocks_sized rs h.1)

  entries-back : (rs : List (List ℕ)) → map entries_in (map (row_block D) rs) ≡ rs
  entries-back [] = refl
  entries-back (r ∷ rs) = ap₂ (λ (x : List ℕ) (l : List (List ℕ)). x ∷ l) (take_at r (replicate (D - length r) 0) (length r) refl) (entries-back rs)

  pub rows_back : (rs : List (List ℕ)) (rest : List ℕ) → Short D rs
      → map entries_in (pieces (row_size D) (length rs) (flatten (map (row_block D) rs) ++ rest)) ≡ rs
  rows_back rs rest h =
      ap (λ (k : ℕ). map entries_in (pieces (row_size D) k (flatten (map (row_block D) rs) ++ rest))) (sym (length-map rs (row_block D)))
      ∙ ap (map entries_in) (pieces_back (row_size D) (map (row_block D) rs) rest (blocks_sized rs h))
      ∙ entries-back rs

pub pairs_sized : (bs : List Bridge) → Sized bridge_size (map bridge_block bs)
pairs_sized [] = tt
pairs_sized (b ∷ bs) = (refl, pairs_sized bs)

bridges_in_lem : (bs : List Bridge) → map bridge_in (map bridge_block bs) ≡ bs
bridges_in_lem [] = refl
bridges_in_lem (b ∷ bs) = ap (λ (l : List Bridge). b ∷ l) (bridges_in_lem bs)

pub bridges_back : (bs : List Bridge) (rest : List ℕ) → map bridge_in (pieces bridge_size (length bs) (flatten (map bridge_block bs) ++ rest)) ≡ bs
bridges_back bs rest =
    ap (λ (k : ℕ). map bridge_in (pieces bridge_size k (flatten (map bridge_block bs) ++ rest))) (sym (length-map bs bridge_block))
    ∙ ap (map bridge_in) (pieces_back bridge_size (map bridge_block bs) rest (pairs_sized bs))
    ∙ bridges_in_lem bs
