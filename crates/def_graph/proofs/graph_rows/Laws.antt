-- What demand 3 asks of the graph before repair: as many rows as nodes, entries below that number, at most max_degree of them a row, and an
-- entry node among the nodes. The final prune changes nothing. Assumes nothing.
use mathlib.Core.Path.{◌≡◌, refl, sym, subst}
use mathlib.Core.List.{List, [], Memᴰ as In}
use Prim.Native.Nat.{ℕ, ◌≤◌, ◌<◌}
use lib.ListN.{length, get_or}
use lib.Ieee.{Float}
use Rattle.basics.specs.Choice.{pick_ind}
use Rattle.basics.specs.Inside.Rows.{Rows}
use Rattle.basics.proofs.Rows.{empty_rows}
use Rattle.def_graph.proofs.partition.Laws.{leaves_below}
use Rattle.def_graph.proofs.leaf.Laws.{leaves_rows}
use Rattle.def_graph.proofs.refine.Laws.{reversed_rows_lem, prune_stays}
use Rattle.def_graph.proofs.medoid.Laws.{medoid_below}
use Rattle.def_graph.specs.Rows.{Settings, leaf_rows, reversed_rows, rows_of, entry_of}

module _ (p : Settings) (vs : List (List Float)) where
  pub leaf_bounds : Rows (length vs) p.max_degree (leaf_rows p vs)
  unfolding leaf_rows
  leaf_bounds =
      leaves_rows p.max_degree p.num_hash_bits p.dimension vs (length vs) _ _
      (leaves_below p.max_leaf_size p.min_leaf_size p.leader_fraction vs) (empty_rows (length vs) p.max_degree)

  pub reversed_bounds : Rows (length vs) p.max_degree (reversed_rows p vs)
  unfolding reversed_rows
  reversed_bounds = reversed_rows_lem (length vs) p.max_degree (leaf_rows p vs) leaf_bounds

  -- whatever final_prune says, the rows are those with reverse edges
  pub prune_changes_nothing : rows_of p vs ≡ reversed_rows p vs
  unfolding rows_of
  prune_changes_nothing =
      pick_ind (λ (rows : List (List ℕ)). rows ≡ reversed_rows p vs) p.final_prune
      (λ _. prune_stays p.max_degree p.alpha vs (reversed_rows p vs) reversed_bounds.short) (λ _. refl)

  pub rows_bounds : Rows (length vs) p.max_degree (rows_of p vs)
  rows_bounds = subst (Rows (length vs) p.max_degree) (sym prune_changes_nothing) reversed_bounds

  pub rows_length : length (rows_of p vs) ≡ length vs
  rows_length = rows_bounds.many

  pub rows_below : (u v : ℕ) → In v (get_or (rows_of p vs) u []) → v < length vs
  rows_below u = rows_bounds.inside u

  pub rows_short : (u : ℕ) → length (get_or (rows_of p vs) u []) ≤ p.max_degree
  rows_short u = rows_bounds.short u

  pub entry_below : 0 < length vs → entry_of p vs < length vs
  unfolding entry_of
  entry_below h = medoid_below p.dimension vs h
