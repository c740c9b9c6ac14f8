-- The struct is the answer, case by case. Assumes nothing.
use Rattle.std.proofs.Common.{ap, sym, ◌∙◌}
use Rattle.recognise.specs.Recognised.{recognised_values, answer_values}
use Rattle.drintelbok.specs.Given.{recognised_with}
use Rattle.drintelbok.proofs.PipnnRecognisedFromResultRecognisedRefusal.from.Goals as goal

pub returns-in-Known : goal.returns-in-Known
unfolding recognised_with answer_values recognised_values
returns-in-Known c =
    ap (λ recognised. recognised_with (recognised_values recognised)) (sym c.in-Known.is)
    ∙ ap (λ answer. recognised_with (answer_values answer)) (sym c.in-Ok.is)

pub returns-in-New : goal.returns-in-New
unfolding recognised_with answer_values recognised_values
returns-in-New c =
    ap (λ recognised. recognised_with (recognised_values recognised)) (sym c.in-New.is)
    ∙ ap (λ answer. recognised_with (answer_values answer)) (sym c.in-Ok.is)

pub returns-in-Err : goal.returns-in-Err
unfolding recognised_with answer_values recognised_values
returns-in-Err c =
    (λ i. record { number = c.number.ensures i; known = 0; doc = 0; score = 0 })
    ∙ ap (λ answer. recognised_with (answer_values answer)) (sym c.in-Err.is)
