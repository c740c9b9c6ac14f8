-- One sum more has its product.
use mathlib.Core.Path.{ap}
use native.Mathlib.Omega.{arith}
use lib.Ieee.{nan, binary32, add, mul}
use lib.ListN.{get_or}
use Rattle.simd.proofs.Eight.{one_more}
use Rattle.simd.proofs.add_column.Goals as goal

pub loop-j-preserved : goal.loop-j-preserved
loop-j-preserved c =
    let l = c.loop-j in
    one_more _ _ l.sums l.j _ (omega arith) l.invariant (ap (λ s. add binary32 s (mul binary32 c.args.x (get_or c.args.column.now l.j nan))) (l.invariant.2 l.j (omega arith)))
