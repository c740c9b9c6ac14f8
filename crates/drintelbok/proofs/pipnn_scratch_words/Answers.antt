-- The size within the limits, 0 beyond them. Assumes nothing.
use mathlib.Core.Path.{sym, ◌∙◌}
use Rattle.basics.specs.Choice.{pick_true, pick_false}
use Rattle.drintelbok.specs.Sizes.{scratch_words_needed}
use Rattle.drintelbok.proofs.pipnn_scratch_words.Goals as goal

pub returns-then-capacity_within : goal.returns-then-capacity_within
unfolding scratch_words_needed
returns-then-capacity_within c = c.scratch_words.ensures ∙ sym (pick_true _ _ (sym c.capacity_within.ensures ∙ c.if-capacity_within.true))

pub returns : goal.returns
unfolding scratch_words_needed
returns c = sym (pick_false _ _ (sym c.capacity_within.ensures ∙ c.if-capacity_within.false))
