-- The invariant: of the places that are written the first k hold their numbers, the others what was there.
use Rattle.std.proofs.Common.{◌≡◌, ◌++◌, length, drop}
use lib.Ieee.{binary32}
use Rattle.random.specs.Hyperplanes.{plane_numbers}
use Rattle.random.proofs.hyperplanes.planes_into.Given as goal

abbrev pub invariant-loop-k : goal.invariant-loop-k
invariant-loop-k l = (length l.x-items ≡ length l.initial.x-items) × (l.x-items ≡ plane_numbers binary32 l.k ++ drop l.k l.initial.x-items)
