-- One distance more, and the end. Assumes nothing.
use Rattle.std.proofs.Common.{◌<◌, false, get_or, set, List, ap, ap₂, ◌∙◌, arith}
use lib.Ieee.{Float, inf}
use lib.Seq.{get_or-take, length-take-le}
use Rattle.sorting.specs.declared.Keyed.{Keyed}
use Rattle.basics.proofs.Loops.{images_more}
use Rattle.beam_search.proofs.put_distances.Goals as goal

pub loop-i-preserved : goal.loop-i-preserved
loop-i-preserved c =
    let a = c.args in
    let l = c.loop-i in
    let many = c.min-many.result in
    let front = length-take-le many a.answer.now (omega (arith, c.min-many.ensures)) in
    let within : l.i < many = omega (arith, front) in
    let distance = c.distance_of.ensures ∙ ap (λ (p : Keyed). get_or a.floats.now p.id (inf false)) (get_or-take many a.answer.now l.i _ within) in (
      c.put.auto.items ∙ l.invariant.0,
      λ h k. c.put.ensures ∙ ap₂ (λ (x : List Float) (y : Float). set x l.i y) (l.invariant.1 h k) distance
          ∙ images_more (λ (p : Keyed). get_or a.floats.now p.id (inf false)) a.answer.now a.distances.now _ l.i (omega (arith, c.min-many.ensures)) (omega (arith, c.min-many.ensures)),
    )
