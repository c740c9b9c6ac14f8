-- What a caller of `partition` needs besides its promise: that a build over the leaves that hold a node is the build
-- over all leaves. Assumes nothing.
use mathlib.Core.Path.{◌≡◌, refl, sym, ap, ◌∙◌}
use mathlib.Core.List.{List, [], ◌∷◌}
use Prim.Native.Nat.{ℕ}
use lib.Ieee.{Float}
use Rattle.basics.specs.Choice.{pick}
use Rattle.def_graph.specs.Leaf.{build_leaf, build_leaves}
use Rattle.carving.specs.Inside.Carving.{non_empty}
use Rattle.carving.proofs.Leaves.{full_more}

module _ (max_degree bits dimension : ℕ) (vs : List (List Float)) where
  empty_changes_nothing : (rows : List (List ℕ)) → build_leaf max_degree bits dimension vs [] rows ≡ rows
  unfolding build_leaf pick
  empty_changes_nothing rows = refl

  pub build_full : (leaves rows : List (List ℕ)) → build_leaves max_degree bits dimension vs (non_empty leaves) rows ≡ build_leaves max_degree bits dimension vs leaves rows
  unfolding build_leaves non_empty pick
  build_full [] rows = refl
  build_full ([] ∷ leaves) rows =
      build_full leaves rows ∙ ap (build_leaves max_degree bits dimension vs leaves) (sym (empty_changes_nothing rows))
  build_full ((x ∷ leaf) ∷ leaves) rows =
      ap (λ (r : List (List ℕ)). build_leaves max_degree bits dimension vs r rows) (full_more x leaf leaves) ∙ build_full leaves (build_leaf max_degree bits dimension vs (x ∷ leaf) rows)
