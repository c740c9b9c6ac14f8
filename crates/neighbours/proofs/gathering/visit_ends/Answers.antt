-- One end more, and the end of the chain. Assumes nothing.
use Rattle.std.proofs.Common.{ap, ◌∙◌, arith}
use Rattle.lists.specs.Inside.Lists.{ends_left}
use Rattle.neighbours.proofs.gathering.Steps.{onward_none, onward_more, onward_all}
use Rattle.neighbours.proofs.gathering.visit_ends.Goals as goal

pub loop-end-init : goal.loop-end-init
loop-end-init c = onward_none c.args.lists.shape.n _ _ c.args.words.now c.args.count (ap ends_left c.into_iter-end-iterator.ensures.into_iter_gives ∙ c.ends-end-items.ensures)

pub visit-fresh-requires : goal.visit-fresh-requires
visit-fresh-requires c = let l = c.loop-end in omega (arith, l.invariant.kept, c.requires)

pub loop-end-preserved : goal.loop-end-preserved
loop-end-preserved c = let v = c.visit-fresh in onward_more c.loop-end.invariant _ v.result _ v.new.words c.in-Some.ensures.steps v.auto.words v.ensures

pub returns : goal.returns
returns c = onward_all c.loop-end.invariant c.in-None.ensures.steps.0
