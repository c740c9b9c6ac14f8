-- `tournament::climb` meets its contract: the tree is a tournament but for the pair above pair p, whose rank is `least`, so that it is one where p is 1.
-- The measure is p. Assumes nothing.
use Rattle.beam_state.proofs.tournament.Settling.{Climbed}
use Rattle.beam_state.proofs.tournament.climb.Given as goal

abbrev pub invariant-loop-p : goal.invariant-loop-p
invariant-loop-p l = Climbed l.initial.tree l.initial.from l.tree l.p l.least

abbrev pub decreases-loop-p : goal.decreases-loop-p
decreases-loop-p l = l.p
