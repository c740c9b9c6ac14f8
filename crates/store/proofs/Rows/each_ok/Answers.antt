-- One row more, and the end. Assumes nothing.
use Rattle.std.proofs.Common.{◌∙◌, arith}
use Rattle.basics.proofs.Every.{gathered_more, gathered_end}
use Rattle.store.specs.Layout.{row_size}
use Rattle.store.specs.WellFormed.{row_ok}
use Rattle.store.proofs.Rows.each_ok.Goals as goal

pub loop-row-preserved : goal.loop-row-preserved
loop-row-preserved c =
    let l = c.loop-row in
    let steps = c.in-Some.ensures.steps in
    let turn = gathered_more (row_ok c.args.self.degree c.args.self.n) (row_size c.args.self.degree) _ _ _ l.invariant.1 (omega arith) in
    (steps.0 ∙ l.invariant.0, turn steps.1.0 (steps.1.1 ∙ l.invariant.0) c.row_ok-ok.ensures)

pub returns : goal.returns
returns c =
    let l = c.loop-row in
    let none = c.in-None.ensures.steps in
    gathered_end (row_ok c.args.self.degree c.args.self.n) (row_size c.args.self.degree) l.invariant.1 (omega (arith, l.invariant.0, none.1.0))
