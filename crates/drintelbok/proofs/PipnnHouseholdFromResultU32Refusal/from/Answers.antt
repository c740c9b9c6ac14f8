-- The struct is the answer, case by case. Assumes nothing.
use Rattle.std.proofs.Common.{ap, sym, ◌∙◌}
use Rattle.household.specs.Household.{household_values}
use Rattle.drintelbok.specs.Given.{counted_as}
use Rattle.drintelbok.proofs.PipnnHouseholdFromResultU32Refusal.from.Goals as goal

pub returns-in-Ok : goal.returns-in-Ok
unfolding counted_as household_values
returns-in-Ok c = ap (λ answer. counted_as (household_values answer)) (sym c.in-Ok.is)

pub returns-in-Err : goal.returns-in-Err
unfolding counted_as household_values
returns-in-Err c =
    (λ i. record { number = c.number-number.ensures i; phones = 0 })
    ∙ ap (λ answer. counted_as (household_values answer)) (sym c.in-Err.is)
