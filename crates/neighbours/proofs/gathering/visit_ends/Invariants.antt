-- What is gathered from the ends that are left is gathered from all. Assumes nothing.
use Rattle.lists.specs.Inside.Lists.{ends_of, ends_left}
use Rattle.neighbours.proofs.gathering.Steps.{Onward}
use Rattle.neighbours.proofs.gathering.visit_ends.Given as goal

abbrev pub invariant-loop-end : goal.invariant-loop-end
invariant-loop-end l = Onward l.fn.lists.shape.n (ends_of l.fn.lists l.fn.node.0) (ends_left l.end-iterator) l.fn.words l.fn.count l.words l.fresh
