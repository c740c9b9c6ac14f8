-- The parts of the stores that a call passes to the graph's functions, read as the view reads them. Assumes nothing.
use mathlib.Core.Path.{◌≡◌, ap}
use mathlib.Core.List.{List, map}
use Prim.Native.Nat.{ℕ, ◌*◌, ◌/◌, ◌<◌}
use native.Mathlib.Omega.{arith}
use lib.ListN.{length, take, drop, length-drop}
use lib.Ieee.{Float}
use Rattle.basics.specs.Lists.{pieces}
use Rattle.store.specs.Layout.{word, dimension_at, nodes_at, degree_at, bridge_count_at, capacity_at, rows_at, row_size, bridges_at, bridge_size}
use Rattle.store.specs.View.{view, row_words, bridge_words, entries_in, bridge_in}
use Rattle.store.proofs.Sizes.{Room}
use Rattle.lists.specs.Inside.Words.{row_lists, bridge_list}
use Rattle.lists.proofs.Flat.{front_pieces}

module _ (w : List ℕ) (f : List Float) (r : Room w f) where
  abbrev pub row_part : List ℕ
  row_part = take (word w nodes_at * row_size (word w degree_at)) (drop (rows_at (word w capacity_at)) w)

  pub rows_part : row_lists (word w degree_at) row_part ≡ (view w f).rows
  unfolding view row_words
  rows_part =
      ap (map entries_in)
      (front_pieces (row_size (word w degree_at)) (word w nodes_at) (drop (rows_at (word w capacity_at)) w) (omega arith)
      (omega (arith, r.rows, length-drop (rows_at (word w capacity_at)) w)))

  abbrev pub bridge_part : List ℕ
  bridge_part = take (word w bridge_count_at * bridge_size) (drop (bridges_at (word w capacity_at) (word w degree_at)) w)

  pub bridges_part : bridge_list bridge_part ≡ (view w f).bridges
  unfolding view bridge_words
  bridges_part =
      ap (map bridge_in)
      (front_pieces bridge_size (word w bridge_count_at) (drop (bridges_at (word w capacity_at) (word w degree_at)) w) (omega arith)
      (omega (arith, r.bridges, length-drop (bridges_at (word w capacity_at) (word w degree_at)) w)))

  abbrev pub vector_part : List Float
  vector_part = take (word w nodes_at * word w dimension_at) f

  -- the vectors that stand whole in the part
  pub vectors_part : 0 < word w dimension_at → pieces (word w dimension_at) (length vector_part / word w dimension_at) vector_part ≡ (view w f).vectors
  unfolding view
  vectors_part some = front_pieces (word w dimension_at) (word w nodes_at) f some r.vectors
