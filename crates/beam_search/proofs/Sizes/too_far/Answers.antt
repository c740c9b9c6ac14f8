-- It is what it computes. Assumes nothing.
use lib.Ieee.{lt, mul, of_bits}
use borrow.Author.Rules.{rules}
use Rattle.beam_search.proofs.Sizes.too_far.Goals as goal

pub returns : goal.returns
unfolding lt mul of_bits
returns c = search rules
