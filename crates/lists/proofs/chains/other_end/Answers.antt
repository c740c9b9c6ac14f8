-- The slot is the link less 1. Assumes nothing.
use Rattle.std.proofs.Common.{refl}
use Rattle.lists.specs.Inside.Chains.{other_end_at}
use Rattle.lists.proofs.chains.other_end.Goals as goal

pub returns : goal.returns
unfolding other_end_at
returns c = rw (c.word_at.ensures, c.saturating_sub-slot.ensures) refl
