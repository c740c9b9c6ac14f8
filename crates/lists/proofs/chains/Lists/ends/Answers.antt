-- Chains read behind heads and tails. Assumes nothing.
use Rattle.std.proofs.Common.{ℕ, List, get_or, ap, ap₂, ◌∙◌}
use Rattle.lists.specs.Inside.Chains.{as_link, link_above, ends_after}
use Rattle.lists.proofs.chains.Reading.{ends_behind}
use Rattle.lists.proofs.chains.Lists.ends.Goals as goal

pub returns : goal.returns
returns c =
    let l = c.args.self in
    ap₂ (λ (x : List ℕ) (o : Rattle.std.specs.Prelude.Option ℕ). ends_after l.bridges.now x o) c.nexts_of-nexts.ensures
    (c.first_link.ensures ∙ ap (λ (x : List ℕ). as_link (link_above x 0 (get_or l.links.now c.args.node.0 0))) c.nexts_of-nexts.ensures)
    ∙ ends_behind l.shape.n l.links.now l.bridges.now c.args.node.0
