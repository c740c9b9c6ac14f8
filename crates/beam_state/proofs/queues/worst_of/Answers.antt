-- The first pair shows the worst distance. Assumes nothing.
use Rattle.std.proofs.Common.{rules, refl, ap, ◌∙◌}
use lib.Ieee.{binary32, of_bits}
use Rattle.distance.specs.Order.{value_of}
use Rattle.beam_state.specs.Inside.Tournament.{first_of}
use Rattle.beam_state.proofs.queues.Keeping.{worst_none, worst_at}
use Rattle.beam_state.proofs.queues.worst_of.Goals as goal

pub returns-in-None : goal.returns-in-None
unfolding of_bits
returns-in-None c = worst_none c.args.tree.now (first_of c.args.tree.now) refl (search rules) (search rules) c.in-None.ensures

pub returns-in-Some : goal.returns-in-Some
returns-in-Some c =
    let top = c.in-Some.ensures in
    worst_at c.args.tree.now c.in-Some.worst top.0 (search rules) (search rules) top.1 c.value.result (c.value.ensures ∙ ap (value_of binary32) c.turned.ensures)
