-- The invariant: the count and the first i ids are written, and zeros follow. Assumes nothing.
use Prim.Native.Nat.{◌-◌}
use lib.ListN.{length, take}
use Rattle.hashprune.proofs.Rows.{Written}
use Rattle.hashprune.proofs.write_row.Given as goal

abbrev pub invariant-loop-i : goal.invariant-loop-i
invariant-loop-i l = Written (length l.fn.row - 1) (take l.initial.count l.initial.pairs) l.i l.row
