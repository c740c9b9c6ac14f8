-- Reverse edges keep the rows within max_degree, so that the final prune, which skips such rows, changes nothing. Assumes nothing.
use mathlib.Core.Path.{◌≡◌, refl, ap, ◌∙◌}
use mathlib.Core.Logic.{inl, inr}
use mathlib.Core.Bool.{not}
use mathlib.Core.List.Memᴰ.{append_cases as in-cases}
use mathlib.Core.List.Memᴰ.{eq_of_singleton as in_one}
use mathlib.Core.List.{List, [], ◌∷◌, ◌++◌}
use Prim.Native.Nat.{ℕ, zero, suc, ◌≤◌, ◌<◌}
use native.Mathlib.Omega.{arith}
use lib.Dec.{T, leb, ltb, ltb→lt}
use lib.ListN.{length, get_or, set, length-append}
use lib.Seq.{set-get_or}
use lib.Ieee.{Float}
use mir.Facts.{yes_leb}
use Rattle.basics.specs.Choice.{pick_ind, pick_yes}
use Rattle.basics.specs.Nodes.{has}
use Rattle.basics.specs.Inside.Rows.{Rows}
use Rattle.basics.proofs.Members.{both_right}
use Rattle.basics.proofs.Rows.{set_rows}
use Rattle.def_graph.specs.Refine.{takes, add_back, add_backs, reverse_to, add_reverse_edges, prune_row, prune_to, final_prune}

-- ---- reverse edges

takes_room : (max_degree i : ℕ) (row : List ℕ) → T (takes max_degree i row) → length row < max_degree
unfolding takes
takes_room max_degree i row t = ltb→lt (length row) max_degree (both_right (not (has i row)) (ltb (length row) max_degree) t)

module _ (n max_degree : ℕ) where
  back_rows : (i nb : ℕ) (rows : List (List ℕ)) → i < n → Rows n max_degree rows → Rows n max_degree (add_back max_degree i nb rows)
  unfolding add_back
  back_rows i nb rows l h =
      let row : List ℕ = get_or rows nb [] in
      pick_ind (Rows n max_degree) (takes max_degree i row)
      (λ t. set_rows n max_degree rows nb (row ++ (i ∷ [])) h (omega (arith, length-append row (i ∷ []), takes_room max_degree i row t))
      (λ v m. elim (in-cases row m) [ inl k ↦ h.inside nb v k | inr k ↦ let q = in_one k in omega arith ])) (λ _. h)

  backs_rows : (i : ℕ) (nbs : List ℕ) (rows : List (List ℕ)) → i < n → Rows n max_degree rows → Rows n max_degree (add_backs max_degree i nbs rows)
  unfolding add_backs
  backs_rows i [] rows l h = h
  backs_rows i (nb ∷ nbs) rows l h = backs_rows i nbs (add_back max_degree i nb rows) l (back_rows i nb rows l h)

  pub reverse_rows : (rows : List (List ℕ)) (i : ℕ) → i ≤ n → Rows n max_degree rows → Rows n max_degree (reverse_to max_degree rows i)
  unfolding reverse_to
  reverse_rows rows zero l h = h
  reverse_rows rows (suc i) l h = backs_rows i (get_or (reverse_to max_degree rows i) i []) _ l (reverse_rows rows i (omega arith) h)

  pub reversed_rows_lem : (rows : List (List ℕ)) → Rows n max_degree rows → Rows n max_degree (add_reverse_edges max_degree rows)
  unfolding add_reverse_edges
  reversed_rows_lem rows h = reverse_rows rows (length rows) (omega (arith, h.many)) h

-- ---- the final prune

module _ (max_degree : ℕ) (alpha : Float) (vs : List (List Float)) where
  pub row_stays : (i : ℕ) (row : List ℕ) → length row ≤ max_degree → prune_row max_degree alpha vs i row ≡ row
  unfolding prune_row
  row_stays i row h = pick_yes (leb (length row) max_degree) row _ (yes_leb h)

  rows_stay : (rows : List (List ℕ)) (i : ℕ) → ((u : ℕ) → length (get_or rows u []) ≤ max_degree) → prune_to max_degree alpha vs rows i ≡ rows
  unfolding prune_to
  rows_stay rows zero h = refl
  rows_stay rows (suc i) h =
      ap (λ (before : List (List ℕ)). set before i (prune_row max_degree alpha vs i (get_or before i []))) (rows_stay rows i h)
      ∙ ap (set rows i) (row_stays i (get_or rows i []) (h i)) ∙ set-get_or rows i []

  -- rows of at most max_degree entries are left as they are
  pub prune_stays : (rows : List (List ℕ)) → ((u : ℕ) → length (get_or rows u []) ≤ max_degree) → final_prune max_degree alpha vs rows ≡ rows
  unfolding final_prune
  prune_stays rows h = rows_stay rows (length rows) h
