-- Every lane holds the distances of the places passed.
use mathlib.Core.Path.{◌≡◌}
use lib.ListN.{length}
use Rattle.build_leaf.specs.Inside.Lanes.{LanesFilled}
use Rattle.build_leaf.proofs.leaf_distances.Leaf.distance_rows.Given as goal

abbrev pub invariant-loop-j : goal.invariant-loop-j
invariant-loop-j l = (length l.floats ≡ length l.initial.floats) × LanesFilled l.self l.block l.j l.floats
