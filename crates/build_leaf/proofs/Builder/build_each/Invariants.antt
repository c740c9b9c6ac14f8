-- The first k leaves are built, and `rest` has the nodes behind them.
use mathlib.Core.Path.{◌≡◌}
use Prim.Native.Nat.{◌-◌, ◌≤◌}
use lib.ListN.{length, drop}
use Rattle.build_leaf.proofs.Leaves.{LeavesTo}
use Rattle.build_leaf.proofs.Builder.build_each.Given as goal

abbrev pub invariant-loop-size : goal.invariant-loop-size
invariant-loop-size l =
    (length l.rest ≤ length l.nodes) × (l.rest ≡ drop (length l.nodes - length l.rest) l.nodes)
    × (length l.rows ≡ length l.initial.rows) × (length l.floats ≡ length l.initial.floats)
    × LeavesTo l.self l.nodes l.sizes (length l.initial.floats) l.size-index (length l.nodes - length l.rest) l.initial.rows l.rows
