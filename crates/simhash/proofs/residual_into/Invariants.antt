-- Of the places that are written those before i hold their components, the others what was there.
use mathlib.Core.Path.{◌≡◌}
use lib.ListN.{length}
use lib.Ieee.{binary32}
use Rattle.def_graph.specs.Simhash.{residual}
use Rattle.simhash.proofs.Residual.{written}
use Rattle.simhash.proofs.residual_into.Given as goal

abbrev pub invariant-loop-i : goal.invariant-loop-i
invariant-loop-i l = (length l.x-items ≡ length l.initial.x-items) × (l.x-items ≡ written (residual binary32 l.c l.p) l.initial.x-items l.i)
