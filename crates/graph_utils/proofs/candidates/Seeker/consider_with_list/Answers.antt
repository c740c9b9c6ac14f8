-- The node first, then its list. Assumes nothing.
use Rattle.std.proofs.Common.{ap, ◌∙◌}
use Rattle.lists.specs.Inside.Lists.{list_in}
use Rattle.graph_utils.specs.Inside.Candidates.{seeking, considered_all}
use Rattle.graph_utils.proofs.candidates.Seeker.consider_with_list.Goals as goal

pub returns : goal.returns
unfolding considered_all
returns c =
    let s = c.args.self in
    c.consider_list.ensures ∙ ap (considered_all (seeking s) (list_in s.lists c.args.u.0)) c.consider.ensures
