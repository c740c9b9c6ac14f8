-- Of each of the eight sums, what is left from it on is the whole sum with its plane.
use Prim.Native.Nat.{ℕ, ◌<◌}
use mathlib.Core.Path.{◌≡◌}
use lib.ListN.{length, get_or}
use lib.Ieee.{nan}
use Rattle.simhash.proofs.Sums.{Left}
use Rattle.simhash.proofs.block_sums.Given as goal

abbrev pub invariant-loop-x : goal.invariant-loop-x
invariant-loop-x l = (length l.sums ≡ 8) × ((j : ℕ) → j < 8 → Left l.r l.block j (get_or l.sums j nan) (length l.yielded))
