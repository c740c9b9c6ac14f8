-- The two cases of scaling, by the test that led to each. Assumes nothing.
use mathlib.Core.Path.{◌∙◌}
use Rattle.norm.proofs.Laws.{scaled_long, scaled_short}
use Rattle.norm.proofs.normalize.Goals as goal

pub returns-then-length : goal.returns-then-length
returns-then-length c =
    let v = c.args.v.now in
    let n = c.norm-length in
    c.divide.ensures ∙ scaled_long n.result v n.ensures c.if-length.true

pub returns-else-length : goal.returns-else-length
returns-else-length c =
    let v = c.args.v.now in
    scaled_short c.norm-length.result v c.norm-length.ensures c.if-length.false
