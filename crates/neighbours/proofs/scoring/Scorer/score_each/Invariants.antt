-- Scoring the nodes that are left makes the whole. Assumes nothing.
use Rattle.std.proofs.Common.{◌≡◌, drop}
use Rattle.neighbours.specs.Inside.Scoring.{far_by, scored_at}
use Rattle.neighbours.proofs.scoring.Scorer.score_each.Given as goal

abbrev pub invariant-loop-node : goal.invariant-loop-node
invariant-loop-node l =
    scored_at (far_by l.fn.self) (drop l.node-index l.nodes) l.floats ≡ scored_at (far_by l.fn.self) l.nodes l.fn.floats
