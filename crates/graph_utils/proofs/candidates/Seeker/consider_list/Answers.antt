-- Each call considers one candidate. Assumes nothing.
use Rattle.std.proofs.Common.{rules, ◌∙◌}
use Rattle.lists.specs.Inside.Lists.{list_in}
use Rattle.graph_utils.specs.Inside.Candidates.{seeking, considered}
use Rattle.graph_utils.proofs.candidates.Steps.{fold_list, entries_fold}
use Rattle.graph_utils.proofs.candidates.Seeker.consider_list.Goals as goal

pub returns : goal.returns
returns c =
    let a = c.args in
    entries_fold _ (λ b x. considered (seeking a.self) x b) a.best c.fold.result c.of.ensures c.fold.ensures.ran (λ b x r f' k. search rules)
    ∙ fold_list (seeking a.self) (list_in a.self.lists a.u.0) a.best
