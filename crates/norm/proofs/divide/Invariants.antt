-- The components before the index are divided, the others as they were.
use mathlib.Core.Path.{◌≡◌}
use lib.ListN.{length}
use lib.Ieee.{Float, binary32, div}
use Rattle.basics.proofs.Loops.{part}
use Rattle.norm.proofs.divide.Given as goal

abbrev pub invariant-loop-x : goal.invariant-loop-x
invariant-loop-x l = (length l.v ≡ length l.initial.v) × (l.v ≡ part (λ (x : Float). div binary32 x l.by) l.initial.v l.x-index)
