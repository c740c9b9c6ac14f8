-- The first pair's id is the first node's, if there is one. Assumes nothing.
use Rattle.std.proofs.Common.{rules, refl, ap}
use Rattle.sorting.specs.declared.Keyed.{Keyed}
use Rattle.beam_state.specs.Inside.Tournament.{first_of}
use Rattle.beam_state.proofs.queues.Steps.{pop_empty, pop_at}
use Rattle.beam_state.proofs.queues.pop.Goals as goal

pub returns-in_default : goal.returns-in_default
returns-in_default c =
    let tree = c.args.tree.now in
    pop_empty c.args.floats.now tree tree (first_of tree).id refl (search rules) (search rules) c.in_default.ensures

pub returns : goal.returns
returns c =
    let top = c.in-Some.ensures in
    pop_at c.args.floats.now c.args.tree.now c.remove.new.tree c.in-Some.top.id (ap (λ (p : Keyed). p.id) top.0) (search rules) (search rules) top.1 c.distance_of.result c.distance_of.ensures c.remove.ensures
