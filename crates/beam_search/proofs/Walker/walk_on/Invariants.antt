-- The walk of the definition by the steps that are left is the whole. Assumes nothing.
use Rattle.std.proofs.Common.{◌-◌}
use Rattle.beam_search.proofs.Walking.{Onward}
use Rattle.beam_search.proofs.Walker.walk_on.Given as goal

abbrev pub invariant-steps : goal.invariant-steps
invariant-steps l =
    Onward l.self.reads l.self.links.now
    (record { words = l.initial.words; floats = l.initial.floats; answer = l.initial.answer; walk = l.initial.now }) (record { words = l.words; floats = l.floats; answer = l.answer; walk = l.now }) (l.self.reads.sizes.shape.n - l.counter)
