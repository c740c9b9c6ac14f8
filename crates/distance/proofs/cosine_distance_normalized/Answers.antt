-- The two cases of the definition, by the test that led to each. Assumes nothing.
use mathlib.Core.Path.{ap, ◌∙◌}
use borrow.Author.Tests.{eq-eqb, ne_eqb}
use lib.Ieee.{binary32, sub, of_bits}
use Rattle.basics.specs.Sum.{+one}
use Rattle.distance.proofs.Laws.{one_minus_dot, unlike_lengths}
use Rattle.distance.proofs.cosine_distance_normalized.Goals as goal

pub returns-then-a-b : goal.returns-then-a-b
unfolding of_bits
returns-then-a-b c = ap (sub binary32 +one) c.dot.ensures ∙ one_minus_dot binary32 _ _ (eq-eqb _ _ c.if-a-b.true)

pub returns : goal.returns
unfolding of_bits
returns c = unlike_lengths binary32 _ _ (ne_eqb _ _ c.if-a-b.false)
