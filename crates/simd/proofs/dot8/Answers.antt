-- Otherwise eight single sums are the definition itself.
use native.Mathlib.Omega.{arith}
use mathlib.Core.List.{List}
use lib.Ieee.{Float, binary32}
use denote.Ref.{Bor}
use Rattle.std.proofs.Common.{rules}
use Rattle.basics.proofs.Arrays.{array_map}
use Rattle.simd.specs.Dot.{dot_of}
use Rattle.simd.proofs.dot8.Goals as goal

pub returns : goal.returns
returns c =
    array_map _ (λ (r : Bor (List Float)). dot_of binary32 c.args.q.now r.now) _ (λ x y q k. search rules) c.args.rows c.map.result 8 (omega (arith, c.well_formed)) c.map.ensures.items
