-- The invariant: the vectors so far are within the room. Assumes nothing.
use Rattle.std.proofs.Common.{◌≤◌, length}
use Rattle.graph_histories.proofs.leaf_histories.generate_all.Given as goal

abbrev pub invariant-all : goal.invariant-all
invariant-all l = l.at ≤ length l.room
