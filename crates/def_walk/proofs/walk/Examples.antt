-- A walk that computes. Assumes nothing.
use mathlib.Core.Path.{◌≡◌, refl}
use mathlib.Core.Bool.{false}
use mathlib.Core.List.{[], ◌∷◌}
use Prim.Native.Nat.{◌+◌}
use lib.Dec.{ltb}
use lib.ListN.{length}
use Rattle.def_walk.specs.Walk.{walk}

-- More than one node is too many. The list that makes them too many is looked at to its end, and all its nodes are seen.
last_list : walk (λ u. (u + 1) ∷ (u + 2) ∷ []) (λ v front. v ∷ front) (λ _ _. false) (λ seen. ltb 1 (length seen)) 9 (0 ∷ []) (0 ∷ []) ≡ 2 ∷ 1 ∷ 0 ∷ []
unfolding walk
last_list = refl
