-- The work so far is that of the turns of the nodes below i. Assumes nothing.
use Rattle.std.proofs.Common.{◌≡◌, ◌≤◌}
use Rattle.distance.specs.Vectors.{vectors_of}
use Rattle.graph_utils.specs.Inside.Turns.{work, turned_to}
use Rattle.graph_utils.proofs.Index.repair.Given as goal

abbrev pub invariant-loop-i : goal.invariant-loop-i
invariant-loop-i l =
    (l.count ≤ l.i)
    × (work l.count l.bridges l.links l.state ≡ turned_to l.fn.self.shape l.fn.self.rows.now (vectors_of l.fn.self.vectors) l.fn.self.entry.0 (work 0 l.initial.bridges l.initial.links l.initial.state) l.i)
