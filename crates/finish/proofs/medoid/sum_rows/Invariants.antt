-- What is left to add completes the whole. Assumes nothing.
use mathlib.Core.Path.{◌≡◌}
use lib.ListN.{length}
use lib.Ieee.{binary32}
use Rattle.distance.specs.Vectors.{vectors_in}
use Rattle.def_graph.specs.Centroid.{row_sums_from}
use Rattle.finish.proofs.medoid.sum_rows.Given as goal

abbrev pub invariant-loop-row : goal.invariant-loop-row
invariant-loop-row l =
    (l.row-iterator.size ≡ length l.initial.sums)
    × (length l.sums ≡ length l.initial.sums)
    × (row_sums_from binary32 l.sums (vectors_in (length l.initial.sums) l.row-iterator.rest.now) ≡ row_sums_from binary32 l.initial.sums (vectors_in (length l.initial.sums) l.rows))
