-- The fold is the definition's search. Assumes nothing.
use Rattle.std.proofs.Common.{Bool, false, ◌||◌, ℕ, eqb, ◌∙◌, rules, tests}
use Rattle.std.proofs.lemmas.Iterator.{YieldsList-from_slice}
use Rattle.std.proofs.lemmas.Iterator.Consumers.{fold_from_yields_List}
use Rattle.household.proofs.Steps.{fold_of_looks}
use Rattle.household.proofs.occurs.Goals as goal

pub returns : goal.returns
returns c =
    let doc = c.args.doc in
    let docs = c.args.docs.now in
    fold_from_yields_List _ (λ (found : Bool) (other : ℕ). found || eqb doc other) false c.fold.result c.fold.ensures.ran (YieldsList-from_slice docs cc)
    (λ found other r q k. search (rules, tests)) ∙ fold_of_looks doc false docs
