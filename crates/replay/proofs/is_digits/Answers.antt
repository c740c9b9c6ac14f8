-- The fold is the test of every byte. Assumes nothing.
use Rattle.std.proofs.Common.{Bool, true, ◌&&◌, ℕ, ◌∙◌, rules, tests}
use Rattle.std.proofs.lemmas.Iterator.{YieldsList-from_slice}
use Rattle.std.proofs.lemmas.Iterator.Consumers.{fold_from_yields_List}
use Rattle.basics.proofs.Every.{fold_of_tests}
use Rattle.replay.specs.Inside.Text.{is_digit}
use Rattle.replay.proofs.is_digits.Goals as goal

pub returns : goal.returns
returns c =
    let text = c.args.text.now in
    fold_from_yields_List _ (λ (b : Bool) (x : ℕ). b && is_digit x) true c.fold.result c.fold.ensures.ran (YieldsList-from_slice text cc)
    (λ b x r q k. search (rules, tests)) ∙ fold_of_tests is_digit true text
