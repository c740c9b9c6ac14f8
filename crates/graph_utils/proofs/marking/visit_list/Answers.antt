-- One node more, and the end. Assumes nothing.
use Rattle.std.proofs.Common.{◌∙◌}
use Rattle.graph_utils.specs.Inside.Marking.{marks}
use Rattle.graph_utils.proofs.marking.Steps.{visit_next, visit_none}
use Rattle.graph_utils.proofs.marking.visit_list.Goals as goal

pub loop-v-preserved : goal.loop-v-preserved
loop-v-preserved c =
    let l = c.loop-v in
    visit_next c.args.lists.shape.n _ _ _ (marks l.state l.front) _ c.in-Some.ensures.steps c.visit-front.ensures ∙ l.invariant

pub returns : goal.returns
returns c = let l = c.loop-v in visit_none c.args.lists.shape.n _ (marks l.state l.front) c.in-None.ensures.steps.0 ∙ l.invariant
