-- One node more, and the end. Assumes nothing.
use Rattle.std.proofs.Common.{arith}
use Rattle.neighbours.proofs.gathering.Steps.{passed_none, passed_more, passed_all}
use Rattle.neighbours.proofs.gathering.visit_all.Goals as goal

pub loop-node-init : goal.loop-node-init
loop-node-init c = passed_none c.args.size c.args.row.now c.args.words.now c.args.count

pub visit-fresh-requires : goal.visit-fresh-requires
visit-fresh-requires c = let l = c.loop-node in omega (arith, l.invariant.kept, c.requires)

pub loop-node-preserved : goal.loop-node-preserved
loop-node-preserved c = let v = c.visit-fresh in passed_more c.loop-node.invariant (omega arith) v.auto.words v.ensures

pub returns : goal.returns
returns c = passed_all c.loop-node.invariant (omega arith)
