-- The invariant: the cells are those of the first i candidates. Assumes nothing.
use Rattle.hashprune.specs.Inside.Steps.{far_at, hash_at}
use Rattle.hashprune.proofs.Cells.{Came}
use Rattle.hashprune.proofs.cells_after.Given as goal

abbrev pub invariant-loop-i : goal.invariant-loop-i
invariant-loop-i l = Came (far_at l.fn.offer.candidates.now) (hash_at l.fn.offer.point l.fn.offer.vectors l.fn.offer.planes.now l.fn.offer.candidates.now) l.i l.cells.items
