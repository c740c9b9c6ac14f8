-- The first j sums have their component added.
use mathlib.Core.Path.{◌≡◌}
use lib.ListN.{length}
use Rattle.finish.proofs.medoid.Sums.{added}
use Rattle.finish.proofs.medoid.add_row.Given as goal

abbrev pub invariant-loop-j : goal.invariant-loop-j
invariant-loop-j l = (length l.sums ≡ length l.initial.sums) × (l.sums ≡ added l.initial.sums l.row l.j)
