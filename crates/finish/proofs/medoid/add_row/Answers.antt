-- The first j sums have their component added. Assumes nothing.
use native.Mathlib.Omega.{arith}
use mathlib.Core.Path.{refl, ap, ◌∙◌}
use mathlib.Core.List.{List}
use Prim.Native.Nat.{◌<◌}
use lib.ListN.{length, get_or, set, length-set}
use lib.Ieee.{Float, nan, binary32, add}
use Rattle.def_graph.specs.Centroid.{add_to}
use Rattle.finish.proofs.medoid.Sums.{added, added_get, added_set, added_end}
use Rattle.finish.proofs.medoid.add_row.Goals as goal

pub loop-j-init : goal.loop-j-init
unfolding add_to
loop-j-init c = (refl, refl)

pub loop-j-preserved : goal.loop-j-preserved
loop-j-preserved c =
    let l = c.loop-j in
    let x = c.args in
    let e = c.requires in
    let y : Float = get_or x.row.now l.j nan in
    let h : l.j < length x.sums.now = omega arith in (
      length-set l.sums l.j (add binary32 (get_or l.sums l.j nan) y) ∙ l.invariant.0,
      ap (λ (w : List Float). set w l.j (add binary32 (get_or w l.j nan) y)) l.invariant.1
          ∙ ap (λ (z : Float). set (added x.sums.now x.row.now l.j) l.j (add binary32 z y)) (added_get x.sums.now x.row.now e l.j h)
          ∙ added_set x.sums.now x.row.now e l.j h,
    )

pub returns : goal.returns
returns c =
    let l = c.loop-j in
    l.invariant.1 ∙ added_end c.args.sums.now c.args.row.now c.requires l.j (omega arith)
