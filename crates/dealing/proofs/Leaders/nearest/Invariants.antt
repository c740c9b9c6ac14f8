-- The invariant is `Found`: the first `held` pairs are the nearest of the first l leaders with their ranks. Assumes nothing.
use Rattle.std.proofs.Common.{length}
use Rattle.distance.specs.Vectors.{vectors_of}
use Rattle.dealing.proofs.Nearest.{Found}
use Rattle.dealing.proofs.Leaders.nearest.Given as goal

abbrev pub invariant-loop-l : goal.invariant-loop-l
invariant-loop-l l = Found (vectors_of l.initial.self.vectors) l.initial.self.nodes.now l.initial.id (length l.initial.found) l.l l.held l.found
