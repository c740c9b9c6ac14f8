-- What is gathered so far, and the bridges left, make the whole test. Assumes nothing.
use Rattle.std.proofs.Common.{◌≡◌}
use Rattle.basics.specs.Lists.{every, pieces}
use Rattle.basics.proofs.Every.{Gathered}
use Rattle.store.specs.Layout.{bridge_size}
use Rattle.store.specs.WellFormed.{bridge_ok}
use Rattle.store.proofs.bridges_ok.Given as goal

abbrev pub invariant-loop-bridge : goal.invariant-loop-bridge
invariant-loop-bridge l =
    (l.bridge-iterator.size ≡ bridge_size)
    × Gathered (bridge_ok l.n) bridge_size (every (bridge_ok l.n) (pieces bridge_size l.count l.bridges)) l.ok l.bridge-iterator.rest.now
