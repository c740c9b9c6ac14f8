-- The part is what the row's count says, by proofs/Reading; where the block does not stand whole it is empty. Assumes nothing.
use native.Mathlib.Omega.{arith}
use Prim.Native.Nat.{◌+◌, ◌-◌}
use lib.ListN.{get_or}
use Rattle.lists.proofs.Reading.{no_row, counted_row, full_row}
use Rattle.lists.proofs.row_of.Goals as goal

pub returns-then-row-stride : goal.returns-then-row-stride
returns-then-row-stride c =
    let a = c.args in
    let b = c.block-row in
    no_row a.degree a.node.0 a.rows.now b.result.now b.ensures (omega arith)

pub returns-then-count-stride : goal.returns-then-count-stride
returns-then-count-stride c =
    let a = c.args in
    let b = c.block-row in
    counted_row a.degree a.node.0 a.rows.now b.result.now b.ensures (1 + get_or b.result.now 0 0 - 1) (omega arith) (omega arith)

pub returns : goal.returns
returns c =
    let a = c.args in
    let b = c.block-row in
    full_row a.degree a.node.0 a.rows.now b.result.now b.ensures (omega arith) (omega arith)
