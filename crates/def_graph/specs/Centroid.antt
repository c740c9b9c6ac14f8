-- The centroid of the stored vectors (scope, part 6, `compute_medoid`): components summed node by node, then divided by n as f32.
use Rattle.std.specs.Prelude.{List, [], ◌∷◌, map, ℕ, ◌/◌, min, pos, length, replicate, Float}
use Rattle.std.specs.Float.{Format}
use Rattle.std.specs.Float.Ieee.{add, div, of_int}
use Rattle.basics.specs.Lists.{pieces}
use Rattle.basics.specs.Sum.{+zero}

-- one vector added to the sums, component by component
unfoldable pub add_to : Format → List Float → List Float → List Float
add_to f [] v = []
add_to f (s ∷ sums) [] = s ∷ sums
add_to f (s ∷ sums) (x ∷ v) = add f s x ∷ add_to f sums v

unfoldable pub row_sums_from : Format → List Float → List (List Float) → List Float
unfolding add_to
row_sums_from f sums [] = sums
row_sums_from f sums (v ∷ vs) = row_sums_from f (add_to f sums v) vs

unfoldable pub centroid_of : Format → ℕ → List (List Float) → List Float
unfolding row_sums_from
centroid_of f dimension vs = map (λ (s : Float). div f s (of_int f (pos (length vs)))) (row_sums_from f (replicate dimension +zero) vs)

-- the first n rows of d components, or as many as stand whole in a list
abbrev pub rows_in : ℕ → ℕ → List Float → List (List Float)
rows_in d n xs = pieces d (min n (length xs / d)) xs
