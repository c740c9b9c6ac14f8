-- Reverse edges and the final prune (scope, part 6; `add_reverse_edges`, `final_prune`). Rows are a list of lists, node by node.
use Rattle.std.specs.Prelude.{Bool, false, not, ◌&&◌, ◌||◌, leb, ltb, length, get_or, Float}
use mathlib.Core.List.{List, [], ◌∷◌, ◌++◌}
use Prim.Native.Nat.{ℕ, zero, suc}
use Rattle.std.proofs.Math.ListN.{set}
use Rattle.std.specs.Float.{binary32}
use Rattle.std.specs.Float.Ieee.{mul, lt}
use Rattle.basics.specs.Choice.{pick}
use Rattle.basics.specs.Nodes.{has}
use Rattle.sorting.specs.Sorting.{sort_by}
use Rattle.distance.specs.Vectors.{between, rank}

-- ---- reverse edges

-- a row takes node i if it lacks it and has fewer than max_degree entries
unfoldable pub takes : ℕ → ℕ → List ℕ → Bool
unfolding has
takes max_degree i row = not (has i row) && ltb (length row) max_degree

-- node i goes to the end of its neighbour nb's row, if that takes it
unfoldable pub add_back : ℕ → ℕ → ℕ → List (List ℕ) → List (List ℕ)
unfolding pick takes
add_back max_degree i nb rows =
    let row : List ℕ = get_or rows nb [] in
    pick (takes max_degree i row) (set rows nb (row ++ (i ∷ []))) rows

unfoldable pub add_backs : ℕ → ℕ → List ℕ → List (List ℕ) → List (List ℕ)
unfolding add_back
add_backs max_degree i [] rows = rows
add_backs max_degree i (nb ∷ nbs) rows = add_backs max_degree i nbs (add_back max_degree i nb rows)

-- the rows after the turns of the nodes below i; each has its row as it stands at its turn
unfoldable pub reverse_to : ℕ → List (List ℕ) → ℕ → List (List ℕ)
unfolding add_backs
reverse_to max_degree rows zero = rows
reverse_to max_degree rows (suc i) =
    let before : List (List ℕ) = reverse_to max_degree rows i in
    add_backs max_degree i (get_or before i []) before

unfoldable pub add_reverse_edges : ℕ → List (List ℕ) → List (List ℕ)
unfolding reverse_to
add_reverse_edges max_degree rows = reverse_to max_degree rows (length rows)

-- ---- the final prune

-- a node chosen before is, times alpha, nearer to the candidate c than node i is
unfoldable pub crowded : Float → List (List Float) → ℕ → List ℕ → ℕ → Bool
unfolding between
crowded alpha vs i [] c = false
crowded alpha vs i (s ∷ chosen) c = lt (mul binary32 alpha (between vs s c)) (between vs i c) || crowded alpha vs i chosen c

module _ (max_degree : ℕ) (alpha : Float) (vs : List (List Float)) where
  -- the candidates come in their order; once max_degree are chosen no more are
  unfoldable pub choose_from : ℕ → List ℕ → List ℕ → List ℕ
  unfolding pick crowded
  choose_from i chosen [] = chosen
  choose_from i chosen (c ∷ candidates) =
      choose_from i (pick (leb max_degree (length chosen) || crowded alpha vs i chosen c) chosen (chosen ++ (c ∷ []))) candidates

  -- a row of at most max_degree entries stays as it is
  unfoldable pub prune_row : ℕ → List ℕ → List ℕ
  unfolding pick choose_from sort_by rank
  prune_row i row = pick (leb (length row) max_degree) row (choose_from i [] (sort_by (rank vs i) row))

  -- the rows after the turns of the nodes below i
  unfoldable pub prune_to : List (List ℕ) → ℕ → List (List ℕ)
  unfolding prune_row
  prune_to rows zero = rows
  prune_to rows (suc i) =
      let before : List (List ℕ) = prune_to rows i in
      set before i (prune_row i (get_or before i []))

  unfoldable pub final_prune : List (List ℕ) → List (List ℕ)
  unfolding prune_to
  final_prune rows = prune_to rows (length rows)
