-- The float at the node, or infinity. Assumes nothing.
use Rattle.std.proofs.Common.{rules}
use lib.Ieee.{of_bits}
use Rattle.beam_state.proofs.queues.distance_of.Goals as goal

pub returns : goal.returns
unfolding of_bits
returns c = search rules
