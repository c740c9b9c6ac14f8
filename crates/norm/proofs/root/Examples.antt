-- Closed examples: the definition computes. Assumes nothing.
use mathlib.Core.Path.{◌≡◌, refl}
use mathlib.Core.Bool.{false}
use lib.IntN.{pos}
use lib.Ieee.{fin, binary32, binary64}
use Rattle.norm.specs.Root.{root_of}

-- in both formats the root of 4 is 2
pub four : root_of binary32 (fin false 1 (pos 2)) ≡ fin false 1 (pos 1)
unfolding root_of
four = refl

pub four_wide : root_of binary64 (fin false 1 (pos 2)) ≡ fin false 1 (pos 1)
unfolding root_of
four_wide = refl
