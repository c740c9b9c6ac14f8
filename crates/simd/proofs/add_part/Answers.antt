-- One sum more has its products.
use mathlib.Core.Path.{ap, ◌∙◌}
use native.Mathlib.Omega.{arith}
use lib.Ieee.{binary32}
use lib.ListN.{get_or}
use Rattle.std.specs.List.{slice_range}
use Rattle.basics.specs.Sum.{sum_from, products}
use Rattle.simd.specs.Inside.Eight.{none}
use Rattle.simd.proofs.Eight.{one_more}
use Rattle.simd.proofs.add_part.Goals as goal

pub loop-j-preserved : goal.loop-j-preserved
loop-j-preserved c =
    let l = c.loop-j in
    let x = c.args in
    one_more _ _ l.sums l.j _ (omega arith) l.invariant (c.add_products.ensures
    ∙ ap (λ s. sum_from binary32 s (products binary32 (slice_range x.q.now x.from x.to) (slice_range (get_or x.rows.now l.j none).now x.from x.to))) (l.invariant.2 l.j (omega arith)))
