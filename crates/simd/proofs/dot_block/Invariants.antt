-- Of each of the eight sums, what is left from it on is the whole dot with its row.
use Prim.Native.Nat.{ℕ, ◌<◌}
use mathlib.Core.Path.{◌≡◌}
use lib.ListN.{length, get_or}
use lib.Ieee.{nan}
use Rattle.simd.specs.Inside.Eight.{row_in}
use Rattle.simd.proofs.Left.{Left}
use Rattle.simd.proofs.dot_block.Given as goal

abbrev pub invariant-loop-x : goal.invariant-loop-x
invariant-loop-x l = (length l.sums ≡ 8) × ((j : ℕ) → j < 8 → Left l.q (row_in l.block j) (get_or l.sums j nan) (length l.yielded))
