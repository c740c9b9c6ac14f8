-- `push_all` meets its contract: the first i of the fresh nodes are pushed, and the words up to the fresh nodes stay. Assumes nothing.
use Rattle.beam_state.proofs.Pushing.{Going}
use Rattle.beam_state.proofs.Beam.push_all.Given as goal

abbrev pub invariant-loop-i : goal.invariant-loop-i
invariant-loop-i l =
    Going l.fn.self.size l.fn.self.places l.initial.count l.initial.many l.fn.self.withdrawn.now
    (record { words = l.initial.words; floats = l.fn.self.floats.now; answer = l.initial.answer; walk = l.initial.now })
    (record { words = l.words; floats = l.fn.self.floats.now; answer = l.answer; walk = l.now }) l.i
