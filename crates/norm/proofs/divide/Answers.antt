-- The components before the index are divided, the others as they were. Assumes nothing.
use native.Mathlib.Omega.{arith}
use mathlib.Core.Path.{ap, ◌∙◌}
use mathlib.Core.List.{List}
use Prim.Native.Nat.{◌<◌}
use lib.ListN.{length, get_or, set, length-set}
use lib.Ieee.{Float, nan, binary32, div}
use Rattle.basics.proofs.Loops.{part, part_get, part_set, part_end}
use Rattle.norm.proofs.divide.Goals as goal

pub loop-x-preserved : goal.loop-x-preserved
loop-x-preserved c =
    let l = c.loop-x in
    let v₀ = c.args.v.now in
    let by = c.args.by in
    let i = l.x-index in
    let h : i < length v₀ = omega arith in (
      length-set l.v i (div binary32 (get_or l.v i nan) by) ∙ l.invariant.0,
      ap (λ (w : List Float). set w i (div binary32 (get_or w i nan) by)) l.invariant.1
          ∙ ap (λ (y : Float). set (part (λ (x : Float). div binary32 x by) v₀ i) i (div binary32 y by)) (part_get (λ (x : Float). div binary32 x by) v₀ nan i h)
          ∙ part_set (λ (x : Float). div binary32 x by) v₀ nan i h,
    )

pub returns : goal.returns
returns c =
    let l = c.loop-x in
    l.invariant.1 ∙ part_end (λ (y : Float). div binary32 y c.args.by) c.args.v.now l.x-index (omega arith)
