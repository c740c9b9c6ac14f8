-- The sums below j have their products, and the others are as they were.
use Prim.Native.Nat.{ℕ}
use lib.ListN.{get_or}
use lib.Ieee.{nan, binary32, add, mul}
use Rattle.simd.proofs.Eight.{UpTo}
use Rattle.simd.proofs.add_column.Given as goal

abbrev pub invariant-loop-j : goal.invariant-loop-j
invariant-loop-j l =
    UpTo (λ (k : ℕ). add binary32 (get_or l.initial.sums k nan) (mul binary32 l.x (get_or l.column k nan))) (λ (k : ℕ). get_or l.initial.sums k nan) l.sums l.j
