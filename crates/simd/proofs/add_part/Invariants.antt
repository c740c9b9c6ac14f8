-- The sums below j have their products, and the others are as they were.
use Prim.Native.Nat.{ℕ}
use lib.ListN.{get_or}
use lib.Ieee.{nan, binary32}
use Rattle.std.specs.List.{slice_range}
use Rattle.basics.specs.Sum.{sum_from, products}
use Rattle.simd.specs.Inside.Eight.{none}
use Rattle.simd.proofs.Eight.{UpTo}
use Rattle.simd.proofs.add_part.Given as goal

abbrev pub invariant-loop-j : goal.invariant-loop-j
invariant-loop-j l =
    UpTo (λ (k : ℕ). sum_from binary32 (get_or l.initial.sums k nan) (products binary32 (slice_range l.q l.from l.to) (slice_range (get_or l.rows k none).now l.from l.to))) (λ (k : ℕ). get_or l.initial.sums k nan) l.sums l.j
