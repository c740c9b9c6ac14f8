-- Visiting what is left of the list makes the whole. Assumes nothing.
use Rattle.std.proofs.Common.{◌≡◌}
use Rattle.lists.specs.Inside.Lists.{list_in, entries_left}
use Rattle.graph_utils.specs.Inside.Marking.{marks, visited_all}
use Rattle.graph_utils.proofs.marking.visit_list.Given as goal

abbrev pub invariant-loop-v : goal.invariant-loop-v
invariant-loop-v l =
    visited_all l.fn.lists.shape.n (entries_left l.v-iterator) (marks l.state l.front)
    ≡ visited_all l.fn.lists.shape.n (list_in l.fn.lists l.fn.u.0) (marks l.fn.state l.fn.top)
