-- The nodes below i have had their turns. Assumes nothing.
use native.Mathlib.Omega.{arith}
use mathlib.Core.Path.{refl, ◌∙◌}
use Rattle.finish.proofs.reverse_edges.Laws.{reverse_first, reverse_more, reverse_last}
use Rattle.finish.proofs.reverse_edges.add_reverse_edges.Goals as goal

pub loop-i-init : goal.loop-i-init
loop-i-init c =
    let x = c.args in
    (refl, reverse_first x.degree x.rows.now)

pub loop-i-preserved : goal.loop-i-preserved
loop-i-preserved c =
    let l = c.loop-i in
    let x = c.args in (
      c.add_backs.auto.rows ∙ l.invariant.0,
      reverse_more x.degree x.rows.now l.i l.rows _ (omega arith) l.invariant.1 c.add_backs.ensures,
    )

pub returns : goal.returns
returns c =
    let l = c.loop-i in
    let x = c.args in
    reverse_last x.degree x.rows.now l.i l.rows (omega arith) l.invariant.1

pub shape_of-rows : goal.shape_of-rows
shape_of-rows c = c.loop-i.invariant.0
