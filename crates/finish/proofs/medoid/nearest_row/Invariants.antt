-- The best so far is the nearest of the rows passed. Assumes nothing.
use mathlib.Core.Path.{◌≡◌}
use lib.ListN.{length}
use Rattle.distance.specs.Vectors.{vectors_in}
use Rattle.finish.proofs.medoid.Rows.{Passed}
use Rattle.finish.proofs.medoid.nearest_row.Given as goal

abbrev pub invariant-loop-i : goal.invariant-loop-i
invariant-loop-i l =
    (l.i-iterator.iter.size ≡ length l.centroid)
    × Passed l.centroid (vectors_in (length l.centroid) l.rows) l.i-iterator.count (vectors_in (length l.centroid) l.i-iterator.iter.rest.now) l.best
