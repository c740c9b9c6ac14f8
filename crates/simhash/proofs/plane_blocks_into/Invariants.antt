-- The first k numbers of the blocks stand at the front, what was there follows.
use mathlib.Core.Path.{◌≡◌}
use mathlib.Core.List.{◌++◌}
use lib.ListN.{length, drop}
use Rattle.simhash.specs.Inside.Blocks.{plane_blocks}
use Rattle.simhash.proofs.plane_blocks_into.Given as goal

abbrev pub invariant-loop-k : goal.invariant-loop-k
invariant-loop-k l = (length l.out ≡ length l.initial.out) × (l.out ≡ plane_blocks l.planes l.dimension l.bits l.k ++ drop l.k l.initial.out)
