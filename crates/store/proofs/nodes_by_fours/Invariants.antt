-- `store::nodes_by_fours` meets its contract: while all were nodes so far, the first i of each quarter are. Assumes nothing.
use mathlib.Core.Path.{◌≡◌}
use mathlib.Core.Bool.{true}
use Prim.Native.Nat.{◌-◌, ◌≤◌}
use Rattle.basics.proofs.EqualParts.{EqualParts}
use Rattle.store.specs.WellFormed.{is_node}
use Rattle.store.proofs.nodes_by_fours.Given as goal

abbrev pub invariant-loop-i : goal.invariant-loop-i
invariant-loop-i l = (l.i ≤ l.initial.quarter) × (l.ok ≡ true → EqualParts (is_node l.initial.n) l.initial.entries 0 4 l.initial.quarter l.i)

abbrev pub decreases-loop-i : goal.decreases-loop-i
decreases-loop-i l = l.initial.quarter - l.i
