-- One node more, and the end. Assumes nothing.
use Rattle.std.proofs.Common.{◌≡◌, ℕ, List, get_or, map, sym, ap, ◌∙◌, arith}
use Rattle.std.proofs.lemmas.List.{length-map, get_or_default}
use lib.ListN.{get_or-map}
use lib.Ieee.{Float, binary32, nan}
use denote.Ref.{Bor}
use Rattle.simd.specs.Inside.Eight.{none}
use Rattle.distance.specs.Distance.{distance_of}
use Rattle.def_walk.specs.Beam.{far_from}
use Rattle.neighbours.specs.Inside.Scoring.{far_by}
use Rattle.neighbours.proofs.scoring.Laws.{scored_step, scored_end}
use Rattle.neighbours.proofs.scoring.Scorer.score_eight.Goals as goal

pub loop-k-preserved : goal.loop-k-preserved
unfolding far_from
loop-k-preserved c =
    let a = c.args in
    let l = c.loop-k in
    let rows = c.rows_of-rows in
    let far : ℕ → Float = far_by a.self in
    let from : Bor (List Float) → Float = λ r. distance_of binary32 a.self.query.now r.now in
    let is : get_or c.cosine_distance_normalized8-distances.result l.k nan ≡ far (get_or a.nodes.now l.k 0) =
    ap (λ (x : List Float). get_or x l.k nan) c.cosine_distance_normalized8-distances.ensures
    ∙ get_or_default (map from rows.result) l.k nan (from none) (omega (arith, length-map rows.result from))
    ∙ get_or-map from rows.result l.k none
    ∙ ap (distance_of binary32 a.self.query.now) (rows.ensures l.k (omega arith)) in
    rw (c.place.ensures, is) (scored_step far a.nodes.now l.k l.floats (omega arith) ∙ l.invariant)

pub returns : goal.returns
returns c =
    let a = c.args in
    let l = c.loop-k in
    sym (scored_end (far_by a.self) a.nodes.now l.k l.floats (omega arith)) ∙ l.invariant
