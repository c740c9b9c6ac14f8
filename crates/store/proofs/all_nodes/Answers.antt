-- `store::all_nodes` meets its contract: the fold is the test of every entry. Assumes nothing.
use Rattle.std.proofs.Common.{Bool, true, ◌&&◌, ℕ, ◌∙◌, rules, tests}
use Rattle.std.proofs.lemmas.Iterator.{YieldsList-from_slice}
use Rattle.std.proofs.lemmas.Iterator.Consumers.{fold_from_yields_List}
use Rattle.basics.proofs.Every.{fold_of_tests}
use Rattle.store.specs.WellFormed.{is_node}
use Rattle.store.proofs.all_nodes.Goals as goal

pub returns : goal.returns
returns c =
    let node = is_node c.args.n in
    let entries = c.args.entries.now in
    fold_from_yields_List _ (λ (b : Bool) (e : ℕ). b && node e) true c.fold.result c.fold.ensures.ran (YieldsList-from_slice entries cc)
    (λ b e r q k. search (rules, tests)) ∙ fold_of_tests node true entries
