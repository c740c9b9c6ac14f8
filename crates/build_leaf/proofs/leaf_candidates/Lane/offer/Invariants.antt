-- The places from `from` to j were offered.
use mathlib.Core.Path.{◌≡◌}
use Prim.Native.Nat.{◌-◌, ◌≤◌}
use lib.ListN.{length}
use Rattle.build_leaf.specs.Inside.Candidates.{Offered}
use Rattle.build_leaf.proofs.leaf_candidates.Lane.offer.Given as goal

abbrev pub invariant-loop-j : goal.invariant-loop-j
invariant-loop-j l = (l.from ≤ l.j) × (l.j ≤ l.to) × (length l.pairs ≡ length l.initial.pairs) × Offered l.self.place l.from (l.j - l.from) l.initial.pairs l.held l.pairs l.kept
