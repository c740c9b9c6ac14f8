-- The two outcomes of the choice, by the test that led to each. Assumes nothing.
use mathlib.Core.Path.{sym}
use Rattle.basics.specs.Choice.{pick_true, pick_false}
use Rattle.distance.proofs.vectors.Nearest.nearer.Goals as goal

pub returns-then-other-self : goal.returns-then-other-self
returns-then-other-self c = let x = c.args in sym (pick_true x.other x.self c.if-other-self.true)

pub returns : goal.returns
returns c = let x = c.args in sym (pick_false x.other x.self c.if-other-self.false)
