-- A node's list that computes. Assumes nothing.
use mathlib.Core.Path.{◌≡◌, refl}
use mathlib.Core.List.{[], ◌∷◌, map}
use Rattle.basics.specs.Graph.{list_of}

-- a bridge adds an entry for each of its two ends, behind the row
both_ends : map (list_of ((2 ∷ []) ∷ [] ∷ [] ∷ []) (record { near = 0; far = 1 } ∷ [])) (0 ∷ 1 ∷ 2 ∷ []) ≡ (2 ∷ 1 ∷ []) ∷ (0 ∷ []) ∷ [] ∷ []
unfolding list_of
both_ends = refl
