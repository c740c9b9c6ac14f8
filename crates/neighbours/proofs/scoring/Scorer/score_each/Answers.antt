-- One node more, and the end. Assumes nothing.
use Rattle.std.proofs.Common.{sym, ◌∙◌, arith}
use Rattle.def_walk.specs.Beam.{far_from}
use Rattle.neighbours.specs.Inside.Scoring.{far_by}
use Rattle.neighbours.proofs.scoring.Laws.{scored_step, scored_end}
use Rattle.neighbours.proofs.scoring.Scorer.score_each.Goals as goal

pub loop-node-preserved : goal.loop-node-preserved
unfolding far_from
loop-node-preserved c =
    let a = c.args in
    let l = c.loop-node in
    rw (c.place.ensures, c.distance_from.ensures)
    (scored_step (far_by a.self) a.nodes.now l.node-index l.floats (omega arith) ∙ l.invariant)

pub returns : goal.returns
returns c =
    let a = c.args in
    let l = c.loop-node in
    sym (scored_end (far_by a.self) a.nodes.now l.node-index l.floats (omega arith)) ∙ l.invariant
