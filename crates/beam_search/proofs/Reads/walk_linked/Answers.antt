-- No bridges need no links, and others are linked where heads and tails are cleared. Assumes nothing.
use Rattle.std.proofs.Common.{ℕ, List, get_or, refl, ap, ◌∙◌, arith}
use Rattle.beam_search.proofs.Linking.{cleared_zero}
use Rattle.neighbours.proofs.gathering.Alone.{none_linked}
use Rattle.beam_search.proofs.Reads.walk_linked.Goals as goal

pub returns-then-self-lt2 : goal.returns-then-self-lt2
returns-then-self-lt2 c ends =
    let a = c.args in
    c.walk_on.ensures (none_linked a.self.now.sizes.shape.n a.self.now.bridges.now _ c.if-self-lt2.true (λ i h. refl))

pub returns : goal.returns
returns c ends =
    let a = c.args in
    let clear = c.clear_links in
    let room = c.requires.links_room in
    c.walk_on-2.ensures
    (c.link_bridges.ensures c.requires.n_bound.0 (omega (arith, clear.auto.links, room))
    (λ i h. ap (λ (l : List ℕ). get_or l i 0) clear.ensures ∙ cleared_zero a.self.now.sizes.shape.n a.links.now room i h) ends)
