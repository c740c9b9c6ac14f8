-- The word behind the link's slot, as a link above it. Assumes nothing.
use Rattle.std.proofs.Common.{ℕ, ap, ◌∙◌, get_or}
use Rattle.lists.specs.Inside.Chains.{as_link, link_above}
use Rattle.lists.proofs.chains.Reading.{next_above}
use Rattle.lists.proofs.chains.next_link.Goals as goal

pub returns : goal.returns
returns c =
    let a = c.args in
    let word = c.word_at.ensures ∙ ap (λ (k : ℕ). get_or a.nexts.now k 0) c.saturating_sub-place.ensures in
    c.link_above.ensures ∙ ap (λ (w : ℕ). as_link (link_above a.nexts.now a.link w)) word ∙ ap as_link (next_above a.nexts.now a.link)
