-- A head that is missing is none, as 0 is. Assumes nothing.
use Rattle.std.proofs.Common.{ℕ, sym, ap, ◌∙◌, ltb-true, ltb-false}
use Rattle.std.proofs.lemmas.List.{get_or_default, get_or_past}
use Rattle.lists.specs.Inside.Chains.{as_link, link_above}
use Rattle.lists.proofs.chains.Reading.{none_above}
use Rattle.lists.proofs.chains.first_link.Goals as goal

pub returns-in_err-head : goal.returns-in_err-head
returns-in_err-head c =
    let a = c.args in
    let past = get_or_past a.links.now a.node.0 0 (ltb-false _ _ (sym c.in_err-head.ensures.lookup.0)) in
    c.from_residual.ensures ∙ none_above a.nexts.now ∙ sym (ap (λ (w : ℕ). as_link (link_above a.nexts.now 0 w)) past)

pub returns : goal.returns
returns c =
    let a = c.args in
    let there = c.in_ok-head.ensures.lookup in
    let head = there.1 ∙ get_or_default a.links.now a.node.0 _ 0 (ltb-true _ _ (sym there.0)) in
    c.link_above.ensures ∙ ap (λ (w : ℕ). as_link (link_above a.nexts.now 0 w)) head
