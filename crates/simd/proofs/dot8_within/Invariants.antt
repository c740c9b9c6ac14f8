-- Of each of the eight sums, what is left from it on is the whole dot with its row.
use Prim.Native.Nat.{ℕ, ◌*◌, ◌<◌}
use mathlib.Core.Path.{◌≡◌}
use lib.ListN.{length, get_or}
use lib.Ieee.{nan}
use Rattle.simd.specs.Inside.Eight.{none}
use Rattle.simd.proofs.Left.{Left}
use Rattle.simd.proofs.dot8_within.Given as goal

abbrev pub invariant-loop-k : goal.invariant-loop-k
invariant-loop-k l = (length l.sums ≡ 8) × ((j : ℕ) → j < 8 → Left l.q (get_or l.rows j none).now (get_or l.sums j nan) (4 * l.k))

abbrev pub invariant-loop-i : goal.invariant-loop-i
invariant-loop-i l = (length l.sums ≡ 8) × ((j : ℕ) → j < 8 → Left l.q (get_or l.rows j none).now (get_or l.sums j nan) l.i)
