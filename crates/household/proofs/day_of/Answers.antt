-- The quotient is the definition's. Assumes nothing.
use mathlib.Core.Path.{refl}
use Rattle.household.specs.Day.{day_of}
use Rattle.household.proofs.day_of.Goals as goal

pub returns : goal.returns
unfolding day_of
returns c = refl
