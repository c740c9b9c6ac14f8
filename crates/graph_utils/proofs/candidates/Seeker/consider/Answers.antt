-- A candidate that is not reached, and one that is, by the test that led to each. Assumes nothing.
use mathlib.Core.Path.{◌∙◌}
use Rattle.graph_utils.specs.Inside.Candidates.{seeking}
use Rattle.graph_utils.proofs.candidates.Steps.{not_reached, is_reached}
use Rattle.graph_utils.proofs.candidates.Seeker.consider.Goals as goal

pub returns-then-self-c : goal.returns-then-self-c
returns-then-self-c c = let a = c.args in not_reached (seeking a.self) a.c.0 _ a.best c.word_at-mark.ensures c.if-self-c.true

pub returns : goal.returns
returns c =
    let a = c.args in
    c.nearer.ensures ∙ is_reached (seeking a.self) a.c.0 _ a.best _ c.word_at-mark.ensures c.if-self-c.false c.distance_from.ensures
