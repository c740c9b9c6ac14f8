-- The vectors of the nodes before this one stand in their places. Assumes nothing.
use Rattle.std.proofs.Common.{◌≡◌, ℕ, ◌<◌, length, get_or}
use Rattle.simd.specs.Inside.Eight.{none}
use Rattle.distance.specs.Vectors.{vectors_of, vector_of}
use Rattle.neighbours.proofs.scoring.rows_of.Given as goal

abbrev pub invariant-loop-k : goal.invariant-loop-k
invariant-loop-k l = (length l.rows ≡ 8) × ((j : ℕ) → j < l.k → (get_or l.rows j none).now ≡ vector_of (vectors_of l.vectors) (get_or l.nodes j 0))
