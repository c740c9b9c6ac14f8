-- The node has gone to the rows of its entries before e, and its own row is as it was. Assumes nothing.
use native.Mathlib.Omega.{arith}
use mathlib.Core.Path.{refl, ap, ◌∙◌}
use lib.ListN.{length}
use Rattle.finish.proofs.reverse_edges.Laws.{turn_first, turn_more, turn_last}
use Rattle.finish.proofs.reverse_edges.add_backs.Goals as goal

pub loop-e-init : goal.loop-e-init
loop-e-init c =
    let x = c.args in
    (refl, turn_first x.degree x.node.0 x.rows.now)

pub loop-e-preserved : goal.loop-e-preserved
loop-e-preserved c =
    let l = c.loop-e in
    let x = c.args in
    let row = c.row_of-count in
    let nb = c.entry_of-nb in
    let back = c.add_back in (
      back.auto.rows ∙ l.invariant.0,
      turn_more x.degree x.node.0 x.rows.now l.e nb.result.0 l.rows back.new.rows (omega (arith, ap length row.ensures)) nb.ensures l.invariant.1 back.ensures,
    )

pub returns : goal.returns
returns c =
    let l = c.loop-e in
    let x = c.args in
    turn_last x.degree x.node.0 x.rows.now l.e l.rows (omega (arith, ap length c.row_of-count.ensures)) l.invariant.1

pub shape_of-rows : goal.shape_of-rows
shape_of-rows c = c.loop-e.invariant.0
