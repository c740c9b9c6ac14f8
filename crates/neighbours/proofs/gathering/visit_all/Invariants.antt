-- The nodes before this one have been looked at. Assumes nothing.
use Rattle.neighbours.proofs.gathering.Steps.{Passed}
use Rattle.neighbours.proofs.gathering.visit_all.Given as goal

abbrev pub invariant-loop-node : goal.invariant-loop-node
invariant-loop-node l = Passed l.size l.row l.node-index l.fn.words l.fn.count l.words l.fresh
