-- What is gathered, then the doc ids of the sightings that are left, are those of the day; no more is gathered than was looked at.
-- Assumes nothing.
use Rattle.std.proofs.Common.{◌≡◌, ◌+◌, ◌++◌, ◌≤◌, length}
use Rattle.household.specs.Household.{docs_on}
use Rattle.household.proofs.sighted_on.Given as goal

abbrev pub invariant-loop-second : goal.invariant-loop-second
invariant-loop-second l =
    (goal.iterator-loop-second).can_next l.second-iterator
    × (goal.iterator-loop-second).is_finite l.second-iterator
    × (l.today.items ++ docs_on l.initial.day l.second-iterator.a.rest.now l.second-iterator.b.rest.now ≡ docs_on l.initial.day l.initial.seconds l.initial.docs)
    × (length l.today.items + length l.second-iterator.b.rest.now ≤ length l.initial.docs)
