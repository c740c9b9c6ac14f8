-- No `Turn` has sizes that are refused; otherwise the steps' row is the definition's. Assumes nothing.
use mathlib.Core.Path.{◌∙◌}
use Rattle.hashprune.proofs.Meaning.{turn_is}
use Rattle.hashprune.proofs.hashprune_insert.Goals as goal

pub returns : goal.returns
returns c =
    λ old t.
    let a = c.args in
    c.insert_fitting.ensures ∙ turn_is a.offer.vectors a.offer.point a.offer.planes.now a.offer.candidates.now a.row.now old t
