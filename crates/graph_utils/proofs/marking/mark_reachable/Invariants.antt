-- The walk from here on makes the whole. Assumes nothing.
use Rattle.std.proofs.Common.{◌≡◌, ◌-◌}
use Rattle.lists.specs.Inside.Lists.{list_in}
use Rattle.graph_utils.specs.Inside.Marking.{marked_from, marked}
use Rattle.graph_utils.proofs.marking.mark_reachable.Given as goal

abbrev pub invariant-turns : goal.invariant-turns
invariant-turns l = marked_from l.n (list_in l.lists) (l.n - l.counter) l.state l.top ≡ marked l.n (list_in l.lists) l.fn.start.0 l.fn.state
