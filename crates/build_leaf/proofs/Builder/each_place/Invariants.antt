-- The places from `first` to i had their turns.
use mathlib.Core.Path.{◌≡◌}
use Prim.Native.Nat.{◌≤◌}
use lib.ListN.{length}
use Rattle.build_leaf.specs.Inside.Built.{PlacesPut}
use Rattle.build_leaf.proofs.Builder.each_place.Given as goal

abbrev pub invariant-loop-i : goal.invariant-loop-i
invariant-loop-i l = (l.first ≤ l.i) × (l.i ≤ l.end) × (length l.rows ≡ length l.initial.rows) × PlacesPut l.self l.nodes l.first l.i l.floats l.initial.rows l.rows
