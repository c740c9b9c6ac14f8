-- The row, then the other ends, which together are the node's list. Assumes nothing.
use Rattle.std.proofs.Common.{ℕ, List, [], get_or, subst, arith}
use Rattle.basics.specs.Graph.{other_ends, list_of}
use Rattle.lists.specs.Inside.Words.{row_lists, bridge_list}
use Rattle.neighbours.specs.Inside.Gathering.{Gathering}
use Rattle.neighbours.proofs.gathering.Steps.{gathering_then, linked_ends_lem}
use Rattle.neighbours.proofs.gathering.gather.Goals as goal

pub returns : goal.returns
unfolding list_of
returns c =
    let l = c.args.lists in
    let u = c.args.node.0 in
    let n = l.shape.n in
    let all = c.visit_all-count in
    let ends = c.visit_ends in
    λ linked below long. gathering_then (get_or (row_lists l.shape.degree l.rows.now) u []) (other_ends (bridge_list l.bridges.now) u)
    (subst (λ (x : List ℕ). Gathering n 0 x c.args.words.now all.new.words all.result) c.row_of-row.ensures all.ensures)
    (subst (λ (x : List ℕ). Gathering n all.result x all.new.words ends.new.words ends.result) (linked_ends_lem n l.bridges.now l.links.now u linked below) ends.ensures)

pub returns-then-words-size : goal.returns-then-words-size
returns-then-words-size c = λ linked below long. absurd (omega (arith, c.if-words-size.true))
