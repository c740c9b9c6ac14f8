-- `queues::enter` meets its contract: the pair put is the key and the node. Assumes nothing.
use Rattle.beam_state.proofs.queues.Steps.{entering}
use Rattle.beam_state.proofs.queues.enter.Goals as goal

pub returns : goal.returns
returns c =
    let a = c.args in
    entering a.node.0 a.key a.tree.now c.put.new.tree c.put.ensures
