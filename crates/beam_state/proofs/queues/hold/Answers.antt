-- The pair put is the complement of the key and the slot. Assumes nothing.
use Rattle.std.proofs.Common.{ℕ, subst}
use Rattle.beam_state.specs.Inside.Tournament.{rank_of, Putting}
use Rattle.beam_state.proofs.queues.hold.Goals as goal

pub returns : goal.returns
returns c =
    let a = c.args in
    subst (λ (k : ℕ). Putting a.slot (rank_of k a.slot) a.tree.now c.put.new.tree) c.turned.ensures c.put.ensures
