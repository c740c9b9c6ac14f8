-- The score is `score`'s, and the test on the limit is the definition's choice. Assumes nothing.
use mathlib.Core.Path.{sym, ap, ◌∙◌}
use Prim.Native.Nat.{ℕ}
use Rattle.basics.specs.Choice.{pick_true, pick_false}
use Rattle.recognise.specs.Recognised.{known_as, new_as, recognised_values, recognised_as}
use Rattle.recognise.proofs.score.decide.Goals as goal

pub returns-then-d-limit : goal.returns-then-d-limit
unfolding recognised_values recognised_as
returns-then-d-limit c = ap (λ (n : ℕ). known_as c.args.doc.0 n) c.score-sure.ensures ∙ sym (pick_true _ _ c.if-d-limit.true)

pub returns : goal.returns
unfolding recognised_values recognised_as
returns c = ap (λ (n : ℕ). new_as n) c.score-sure.ensures ∙ sym (pick_false _ _ c.if-d-limit.false)
