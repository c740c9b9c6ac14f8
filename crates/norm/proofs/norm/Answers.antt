-- The root of the sum, as the definition has it. Assumes nothing.
use mathlib.Core.Path.{ap, ◌∙◌}
use lib.Ieee.{binary32}
use Rattle.norm.specs.Root.{root_of}
use Rattle.norm.specs.Norm.{length_of}
use Rattle.norm.proofs.norm.Goals as goal

pub returns : goal.returns
unfolding length_of
returns c = c.sqrt.ensures ∙ ap (root_of binary32) c.sum_of_squares.ensures
