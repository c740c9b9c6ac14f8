-- Of the places that are written those before i hold their components, the others what was there. Assumes nothing.
use mathlib.Core.Path.{sym, ap, ◌∙◌}
use mathlib.Core.List.{List}
use Prim.Native.Nat.{◌<◌}
use native.Mathlib.Omega.{arith}
use lib.ListN.{length, get_or, take, set, length-set, length-take}
use lib.Ieee.{Float, binary32, nan, sub}
use Rattle.def_graph.specs.Simhash.{residual}
use Rattle.simhash.proofs.Residual.{length-residual, residual_at, written, written_more, written_all}
use Rattle.simhash.proofs.residual_into.Goals as goal

pub loop-i-preserved : goal.loop-i-preserved
loop-i-preserved c =
    let x = c.args.c.now in
    let y = c.args.p.now in
    let l = c.loop-i in
    let n = c.min-n.result in
    let front = take n c.args.out.now in
    let v : Float = sub binary32 (get_or x l.i nan) (get_or y l.i nan) in
    let here : l.i < n = omega (arith, length-take n c.args.out.now) in
    let within : l.i < length x = omega (arith, c.min-n.ensures, c.min.ensures) in
    let there : l.i < length y = omega (arith, c.min-n.ensures) in (
      length-set l.x-items l.i v ∙ l.invariant.0,
      ap (λ (o : List Float). set o l.i v) l.invariant.1
          ∙ ap (set (written (residual binary32 x y) front l.i) l.i) (sym (residual_at binary32 x y l.i within there))
          ∙ written_more (residual binary32 x y) front l.i (omega (arith, length-residual binary32 x y)) (omega arith),
    )

pub returns : goal.returns
returns c =
    let r = residual binary32 c.args.c.now c.args.p.now in
    let l = c.loop-i in
    let n = c.min-n.result in
    written_all r c.args.out.now l.x-items n l.i (omega (arith, length-residual binary32 c.args.c.now c.args.p.now, c.min-n.ensures, c.min.ensures)) (omega arith) (omega arith) l.invariant.1
