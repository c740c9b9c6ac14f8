-- One bridge more, and the end. Assumes nothing.
use Rattle.std.proofs.Common.{refl, ◌∙◌, arith}
use Rattle.basics.proofs.Every.{gathered_more, gathered_end}
use Rattle.store.specs.Layout.{bridge_size}
use Rattle.store.specs.WellFormed.{bridge_ok}
use Rattle.store.proofs.bridges_ok.Goals as goal

pub loop-bridge-preserved : goal.loop-bridge-preserved
loop-bridge-preserved c =
    let l = c.loop-bridge in
    let steps = c.in-Some.ensures.steps in
    let turn = gathered_more (bridge_ok c.args.n) bridge_size _ _ _ l.invariant.1 (omega arith) in
    (steps.0 ∙ l.invariant.0, turn steps.1.0 (steps.1.1 ∙ l.invariant.0) refl)

pub returns : goal.returns
returns c =
    let l = c.loop-bridge in
    let none = c.in-None.ensures.steps in
    gathered_end (bridge_ok c.args.n) bridge_size l.invariant.1 (omega (arith, l.invariant.0, none.1.0))
