-- The invariant: the pairs of the first i entries are put, and there is room for the others. Assumes nothing.
use mathlib.Core.Path.{◌≡◌}
use Prim.Native.Nat.{◌≤◌}
use lib.ListN.{length}
use Rattle.hashprune.specs.Inside.Steps.{ranked_node}
use Rattle.hashprune.proofs.Lists.{written}
use Rattle.hashprune.proofs.rank_row.Given as goal

abbrev pub invariant-loop-i : goal.invariant-loop-i
invariant-loop-i l =
    (length l.initial.entries ≤ length l.initial.pairs) × (l.pairs ≡ written (ranked_node l.initial.vectors l.initial.p) l.initial.entries l.initial.pairs l.i)
