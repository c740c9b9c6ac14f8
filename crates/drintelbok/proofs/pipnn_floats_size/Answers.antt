-- The size within the limits, 0 beyond them. Assumes nothing.
use mathlib.Core.Path.{sym, ◌∙◌}
use mathlib.Core.Bool.{Bool, ◌&&◌}
use Rattle.basics.specs.Choice.{pick_true, pick_false}
use Rattle.drintelbok.specs.Sizes.{floats_needed}
use Rattle.drintelbok.proofs.pipnn_floats_size.Goals as goal

pub returns-then-capacity_within-dimension_within : goal.returns-then-capacity_within-dimension_within
unfolding floats_needed
returns-then-capacity_within-dimension_within c =
    let capacity = c.capacity_within.ensures in
    let dimension = c.dimension_within.ensures in
    c.floats_size.ensures
    ∙ sym (pick_true _ _ (◌∙◌ {A = Bool} (λ i. sym capacity i && sym dimension i) c.if-capacity_within-dimension_within.true))

pub returns : goal.returns
unfolding floats_needed
returns c =
    let capacity = c.capacity_within.ensures in
    let dimension = c.dimension_within.ensures in
    sym (pick_false _ _ (◌∙◌ {A = Bool} (λ i. sym capacity i && sym dimension i) c.if-capacity_within-dimension_within.false))
