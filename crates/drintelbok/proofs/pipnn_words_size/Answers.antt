-- The size within the limits, 0 beyond them. Assumes nothing.
use mathlib.Core.Path.{sym, ap, ◌∙◌}
use mathlib.Core.Bool.{Bool, ◌&&◌}
use lib.Dec.{leb}
use Rattle.basics.specs.Choice.{pick_true, pick_false}
use Rattle.params.specs.Limits.{most_degree}
use Rattle.drintelbok.specs.Sizes.{words_needed}
use Rattle.drintelbok.proofs.pipnn_words_size.Goals as goal

pub returns-then-capacity_within-max_degree : goal.returns-then-capacity_within-max_degree
unfolding words_needed
returns-then-capacity_within-max_degree c =
    let a = c.args in
    c.words_size.ensures
    ∙ sym (pick_true _ _ (ap (λ (b : Bool). b && leb a.max_degree most_degree) (sym c.capacity_within.ensures) ∙ c.if-capacity_within-max_degree.true))

pub returns : goal.returns
unfolding words_needed
returns c =
    let a = c.args in
    sym (pick_false _ _ (ap (λ (b : Bool). b && leb a.max_degree most_degree) (sym c.capacity_within.ensures) ∙ c.if-capacity_within-max_degree.false))
