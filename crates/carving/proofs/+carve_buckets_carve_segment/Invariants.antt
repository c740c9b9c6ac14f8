-- The measure is how many levels are left, twice over: buckets are carved at their own level, a segment's buckets one level down. The loop's invariant:
-- in front stand buckets that are left, behind them the leaves of the others (`Partly`). Assumes nothing.
use mathlib.Core.Path.{◌≡◌}
use mathlib.Core.List.{List}
use Prim.Native.Nat.{ℕ, ◌+◌, ◌-◌, ◌*◌, ◌≤◌}
use lib.ListN.{length}
use Rattle.dealing.specs.Inside.Deal.{Holding}
use Rattle.carving.proofs.Carving.{Partly}
use Rattle.carving.proofs.+carve_buckets_carve_segment.Given as goal

abbrev pub decreases-carve_buckets : goal.decreases-carve_buckets
decreases-carve_buckets l = 2 * (21 - l.carve.level) + 1

abbrev pub decreases-carve_segment : goal.decreases-carve_segment
decreases-carve_segment l = 2 * (21 - l.carve.level)

abbrev pub invariant-carve_buckets-loop-at : goal.invariant-carve_buckets-loop-at
invariant-carve_buckets-loop-at l =
    (l.at ≤ l.end) × (l.end ≤ length l.nodes) × (length l.nodes ≡ length l.initial.nodes) × (length l.marks ≡ length l.initial.marks)
    × ((buckets : List (List ℕ)) → Holding buckets l.initial.nodes l.initial.marks → Partly l.initial.carve buckets l.nodes l.marks l.at l.end)
