-- The entry node (scope, part 6; `compute_medoid`): the node nearest to the centroid, the lowest of equally near ones. A distance is near by the
-- comparison of numbers, from infinity down: a NaN never is, and 0 is the entry if no distance is below infinity.
use Rattle.std.specs.Prelude.{false, List, [], ℕ, zero, suc, length, get_or, Float}
use Rattle.std.specs.Float.{binary32, inf}
use Rattle.std.specs.Float.Ieee.{lt}
use Rattle.basics.specs.Choice.{pick}
use Rattle.distance.specs.Distance.{distance_of}
use Rattle.def_graph.specs.Centroid.{centroid_of}

pub record Nearest : Type 0 where
  pub node : ℕ
  pub distance : Float

-- the nearest of the nodes below i
unfoldable pub nearest_to : List Float → List (List Float) → ℕ → Nearest
unfolding pick distance_of
nearest_to centroid vs zero = record { node = 0; distance = inf false }
nearest_to centroid vs (suc i) =
    let best : Nearest = nearest_to centroid vs i in
    let d : Float = distance_of binary32 centroid (get_or vs i []) in
    pick (lt d best.distance) (record { node = i; distance = d }) best

unfoldable pub compute_medoid : ℕ → List (List Float) → ℕ
unfolding centroid_of nearest_to
compute_medoid dimension vs = (nearest_to (centroid_of binary32 dimension vs) vs (length vs)).node
