-- Scoring the nodes that are left makes the whole. Assumes nothing.
use Rattle.std.proofs.Common.{◌≡◌}
use Rattle.neighbours.specs.Inside.Scoring.{far_by, scored_at}
use Rattle.neighbours.proofs.scoring.Scorer.score.Given as goal

abbrev pub invariant-loop-some : goal.invariant-loop-some
invariant-loop-some l =
    (l.some-iterator.size ≡ l.initial.some-iterator.size)
    × (scored_at (far_by l.fn.self) l.some-iterator.rest.now l.floats ≡ scored_at (far_by l.fn.self) l.nodes l.fn.floats)
