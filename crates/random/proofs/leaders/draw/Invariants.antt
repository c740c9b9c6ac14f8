-- The invariant is `Drawing`; the measure is how many are left to draw. A position is below those left, being a remainder by their number.
-- Assumes nothing.
use Rattle.std.proofs.Common.{◌-◌, length}
use Rattle.random.proofs.leaders.Draws.{Drawing}
use Rattle.random.proofs.leaders.draw.Given as goal

abbrev pub invariant-loop-i : goal.invariant-loop-i
invariant-loop-i l = Drawing l.initial.start l.initial.left l.initial.out l.i l.r l.left l.out

abbrev pub decreases-loop-i : goal.decreases-loop-i
decreases-loop-i l = length l.initial.out - l.i
