-- `store::row_ok` meets its contract: past D a count settles it, and otherwise the entries counted do. Assumes nothing.
use mathlib.Core.Path.{◌≡◌}
use Prim.Native.Nat.{◌+◌, ◌-◌}
use native.Mathlib.Omega.{arith}
use lib.ListN.{get_or}
use borrow.Author.Tests.{le-leb, lt-leb}
use Rattle.store.specs.WellFormed.{row_ok}
use Rattle.store.proofs.row_ok.Goals as goal

pub returns-then-count-degree : goal.returns-then-count-degree
unfolding row_ok
returns-then-count-degree c = rw (lt-leb _ _ c.if-count-degree.true)

pub returns : goal.returns
unfolding row_ok
returns c =
    let row = c.args.row.now in
    let few : 1 + get_or row 0 0 - 1 ≡ get_or row 0 0 = omega arith in
    rw (le-leb _ _ c.if-count-degree.false, ← few) c.all_nodes.ensures
