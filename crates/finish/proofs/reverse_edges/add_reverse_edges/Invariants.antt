-- The nodes below i have had their turns.
use mathlib.Core.Path.{◌≡◌}
use lib.ListN.{length}
use Rattle.finish.proofs.reverse_edges.Laws.{ReversedTo}
use Rattle.finish.proofs.reverse_edges.add_reverse_edges.Given as goal

abbrev pub invariant-loop-i : goal.invariant-loop-i
invariant-loop-i l = (length l.rows ≡ length l.initial.rows) × ReversedTo l.initial.degree l.i l.initial.rows l.rows
