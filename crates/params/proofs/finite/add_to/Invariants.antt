-- The first k sums have their components.
use Rattle.params.proofs.finite.Sums.{Adding}
use Rattle.params.proofs.finite.add_to.Given as goal

abbrev pub invariant-loop-k : goal.invariant-loop-k
invariant-loop-k l = Adding l.initial.sums l.components l.sums l.k
