-- The lanes below g hold their places' vectors.
use mathlib.Core.Path.{◌≡◌}
use lib.ListN.{length}
use Rattle.build_leaf.specs.Inside.Lanes.{BlockTurned}
use Rattle.build_leaf.proofs.leaf_distances.Leaf.turn_block.Given as goal

abbrev pub invariant-loop-g : goal.invariant-loop-g
invariant-loop-g l = (length l.block ≡ length l.initial.block) × BlockTurned l.self l.first l.g l.block
