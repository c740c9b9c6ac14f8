-- The places before the next eight had their turns.
use mathlib.Core.Path.{◌≡◌}
use Prim.Native.Nat.{◌*◌, min}
use lib.ListN.{length}
use Rattle.build_leaf.proofs.Rows.{LeafTo}
use Rattle.build_leaf.proofs.Builder.build_leaf.Given as goal

abbrev pub invariant-loop-k : goal.invariant-loop-k
invariant-loop-k l = (length l.rows ≡ length l.initial.rows) × (length l.floats ≡ length l.initial.floats) × LeafTo l.self l.nodes (length l.initial.floats) (min (8 * l.k) (length l.nodes)) l.initial.rows l.rows
