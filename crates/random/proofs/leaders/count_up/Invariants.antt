-- The invariant: the first i positions stand at the front, what was there follows. The measure is what is left. Assumes nothing.
use Rattle.std.proofs.Common.{◌≡◌, ◌-◌, ◌≤◌, ◌++◌, length, drop}
use Rattle.random.specs.Leaders.{up_to}
use Rattle.random.proofs.leaders.count_up.Given as goal

abbrev pub invariant-loop-i : goal.invariant-loop-i
invariant-loop-i l = (l.i ≤ length l.initial.left) × (length l.left ≡ length l.initial.left) × (l.left ≡ up_to l.i ++ drop l.i l.initial.left)

abbrev pub decreases-loop-i : goal.decreases-loop-i
decreases-loop-i l = length l.initial.left - l.i
