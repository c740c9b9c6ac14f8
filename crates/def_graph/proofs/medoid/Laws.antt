-- The entry node is one of the index's nodes: it is 0, or a node that was looked at. Assumes nothing.
use mathlib.Core.List.{List, []}
use Prim.Native.Nat.{ℕ, zero, suc, ◌≤◌, ◌<◌}
use native.Mathlib.Omega.{arith}
use lib.ListN.{length, get_or}
use lib.Ieee.{Float, binary32, lt}
use Rattle.basics.specs.Choice.{pick_ind}
use Rattle.distance.specs.Distance.{distance_of}
use Rattle.def_graph.specs.Centroid.{centroid_of}
use Rattle.def_graph.specs.Medoid.{Nearest, nearest_to, compute_medoid}

nearest_below : (centroid : List Float) (vs : List (List Float)) (i n : ℕ) → i ≤ n → 0 < n → (nearest_to centroid vs i).node < n
unfolding nearest_to
nearest_below centroid vs zero n h k = k
nearest_below centroid vs (suc i) n h k =
    let rec = nearest_below centroid vs i n (omega arith) k in
    pick_ind (λ (best : Nearest). best.node < n) (lt (distance_of binary32 centroid (get_or vs i [])) (nearest_to centroid vs i).distance) (λ _. h) (λ _. rec)

pub medoid_below : (dimension : ℕ) (vs : List (List Float)) → 0 < length vs → compute_medoid dimension vs < length vs
unfolding compute_medoid
medoid_below dimension vs h = nearest_below (centroid_of binary32 dimension vs) vs (length vs) (length vs) (omega arith) h
