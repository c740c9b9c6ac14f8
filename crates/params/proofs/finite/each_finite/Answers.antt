-- `finite::each_finite` meets its contract: the fold is the test of every component. Assumes nothing.
use mathlib.Core.Path.{◌∙◌}
use mathlib.Core.Bool.{Bool, true, ◌&&◌}
use lib.Ieee.{Float}
use lib.Ieee.Scale.{finite}
use Rattle.std.proofs.Common.{rules, tests}
use Rattle.std.proofs.lemmas.Iterator.{YieldsList-from_slice}
use Rattle.std.proofs.lemmas.Iterator.Consumers.{fold_from_yields_List}
use Rattle.basics.proofs.Every.{fold_of_tests}
use Rattle.params.proofs.finite.each_finite.Goals as goal

pub returns : goal.returns
returns c =
    fold_from_yields_List _ (λ (b : Bool) (x : Float). b && finite x) true c.fold.result c.fold.ensures.ran (YieldsList-from_slice c.args.v.now cc)
    (λ b x r q k. search (rules, tests)) ∙ fold_of_tests finite true c.args.v.now
