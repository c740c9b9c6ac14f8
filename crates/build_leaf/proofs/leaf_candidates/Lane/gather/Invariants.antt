-- The nodes and the distances of the pairs passed. Assumes nothing.
use mathlib.Core.Path.{◌≡◌}
use mathlib.Core.List.{map}
use lib.ListN.{take}
use Rattle.build_leaf.specs.Inside.Candidates.{candidate_in}
use Rattle.build_leaf.proofs.leaf_candidates.Lane.gather.Given as goal

abbrev pub invariant-loop-pair : goal.invariant-loop-pair
invariant-loop-pair l = l.candidates.items ≡ map (candidate_in l.self.place) (take l.pair-index l.pairs)
