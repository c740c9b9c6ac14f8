-- One doc id more, and the end. Assumes nothing.
use Rattle.std.proofs.Common.{◌<◌, set, List, ℕ, ap, ap₂, ◌∙◌, arith}
use lib.Seq.{get_or-take, length-take-le}
use Rattle.sorting.specs.declared.Keyed.{Keyed}
use Rattle.basics.proofs.Loops.{images_more}
use Rattle.finding.specs.Inside.Docs.{doc_of}
use Rattle.finding.proofs.put_docs.Goals as goal

pub loop-i-preserved : goal.loop-i-preserved
loop-i-preserved c =
    let a = c.args in
    let l = c.loop-i in
    let many = c.min-many.result in
    let front = length-take-le many a.nodes.now (omega (arith, c.min-many.ensures)) in
    let within : l.i < many = omega (arith, front) in
    let doc = c.doc_of.ensures ∙ ap (λ (p : Keyed). doc_of a.words.now p) (get_or-take many a.nodes.now l.i _ within) in (
      c.put.auto.items ∙ l.invariant.0,
      λ h k. c.put.ensures ∙ ap₂ (λ (x : List ℕ) (y : ℕ). set x l.i y) (l.invariant.1 h k) doc
          ∙ images_more (doc_of a.words.now) a.nodes.now a.docs.now _ l.i (omega (arith, c.min-many.ensures)) (omega (arith, c.min-many.ensures)),
    )
