-- The invariant, for any leaves whose marks these are: the sizes of some are listed, and the marks of the others are left (`Listed`). Assumes nothing.
use mathlib.Core.Path.{◌≡◌}
use mathlib.Core.List.{List}
use Prim.Native.Nat.{ℕ, ◌+◌, ◌≤◌}
use lib.ListN.{length}
use Rattle.dealing.specs.Inside.Marks.{marks_of}
use Rattle.carving.proofs.Leaves.{Listed}
use Rattle.carving.proofs.sizes_of.Given as goal

abbrev pub invariant-loop-bucket : goal.invariant-loop-bucket
invariant-loop-bucket l =
    (l.count + length l.bucket-iterator.rest.now ≤ length l.initial.marks)
    × ((leaves : List (List ℕ)) → l.initial.marks ≡ marks_of leaves → Listed leaves l.bucket-iterator.rest.now l.sizes l.count)
