-- The node has gone to the rows of its entries before e, and its own row is as it was.
use mathlib.Core.Path.{◌≡◌}
use lib.ListN.{length}
use Rattle.finish.proofs.reverse_edges.Laws.{TurnedTo}
use Rattle.finish.proofs.reverse_edges.add_backs.Given as goal

abbrev pub invariant-loop-e : goal.invariant-loop-e
invariant-loop-e l = (length l.rows ≡ length l.initial.rows) × TurnedTo l.initial.degree l.initial.node.0 l.e l.initial.rows l.rows
