-- The count, and what the numbers from i on add to it, are the whole. Assumes nothing.
use Rattle.std.proofs.Common.{◌≡◌, ◌+◌, ◌≤◌, length, drop}
use Rattle.household.specs.Household.{different}
use Rattle.household.proofs.count_different.Given as goal

abbrev pub invariant-loop-i : goal.invariant-loop-i
invariant-loop-i l = (l.count + length (different (drop l.i l.docs)) ≡ length (different l.docs)) × (l.count ≤ l.i)
