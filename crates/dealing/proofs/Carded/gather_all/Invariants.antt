-- The invariant: the slices hold what has been gathered from the first l leaders (`so_far`). Assumes nothing.
use Rattle.dealing.specs.Inside.Steps.{Holds}
use Rattle.dealing.proofs.Gathering.{so_far}
use Rattle.dealing.proofs.Carded.gather_all.Given as goal

abbrev pub invariant-loop-l : goal.invariant-loop-l
invariant-loop-l l = Holds (so_far l.initial.self.ids.now l.initial.self.cards.now l.initial.self.min_leaf l.l) l.g l.small l.nodes l.marks
