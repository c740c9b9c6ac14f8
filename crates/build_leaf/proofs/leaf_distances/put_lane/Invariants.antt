-- The lane holds the components passed, the other lanes are as they were.
use Rattle.build_leaf.proofs.leaf_distances.Laws.{Putting}
use Rattle.build_leaf.proofs.leaf_distances.put_lane.Given as goal

abbrev pub invariant-loop-c : goal.invariant-loop-c
invariant-loop-c l = Putting l.lane l.v l.initial.block l.c l.block
