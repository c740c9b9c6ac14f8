-- A loop over components holds `s` after i of them where what is left of the sum from `s` on is the whole sum with a plane. Assumes nothing.
use mathlib.Core.List.{List}
use Prim.Native.Nat.{ℕ}
use lib.Ieee.{Float}
use Rattle.simd.specs.Inside.Eight.{row_in}
use Rattle.simd.proofs.Left.{Rest}
use Rattle.simhash.specs.Inside.Blocks.{sum_in}

abbrev pub Left : List Float → List Float → ℕ → Float → ℕ → Type 0
Left r block j s i = Rest r (row_in block j) s i (sum_in r block j)
