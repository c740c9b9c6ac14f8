-- The best so far is the nearest of the rows passed. Assumes nothing.
use native.Mathlib.Omega.{arith}
use mathlib.Core.Path.{◌≡◌, refl, ap, ◌∙◌}
use lib.ListN.{length}
use lib.Ieee.{of_bits}
use Rattle.distance.specs.Vectors.{vectors_in}
use Rattle.distance.specs.declared.vectors.Nearest.{Nearest}
use Rattle.def_graph.specs.Medoid.{nearest_to}
use Rattle.finish.proofs.medoid.Rows.{rows_more, rows_none, passed_none, passed_more, passed_all}
use Rattle.finish.proofs.medoid.nearest_row.Goals as goal

pub loop-i-init : goal.loop-i-init
unfolding of_bits nearest_to
loop-i-init c =
    let x = c.args in
    let d = length x.centroid.now in
    let size : c.into_iter-i-iterator.result.iter.size ≡ d = cc in
    let rest : c.into_iter-i-iterator.result.iter.rest.now ≡ x.rows.now = cc in
    let count : c.into_iter-i-iterator.result.count ≡ 0 = cc in
    (size, passed_none x.centroid.now (vectors_in d x.rows.now) _ _ _ count (ap (vectors_in d) rest) refl)

pub loop-i-preserved : goal.loop-i-preserved
loop-i-preserved c =
    let x = c.args in
    let l = c.loop-i in
    let steps = c.in-Some.ensures.steps in
    let d = length x.centroid.now in
    let rows = vectors_in d x.rows.now in
    let rest = l.i-iterator.iter.rest.now in
    let after = c.next.new.self.iter.rest.now in
    let left = rows_more d c.requires.0 rest c.in-Some.row.now after steps.0.1.0 (steps.0.1.1 ∙ l.invariant.0) in
    let far = c.cosine_distance_normalized in (
      steps.0.0 ∙ l.invariant.0,
      passed_more x.centroid.now rows l.i-iterator.count (vectors_in d rest) l.best l.invariant.1 c.in-Some.i c.next.new.self.count c.in-Some.row.now (vectors_in d after)
          far.result c.nearer-best.result steps.1 steps.2 left far.ensures c.nearer-best.ensures,
    )

pub returns : goal.returns
returns c =
    let x = c.args in
    let l = c.loop-i in
    let none = c.in-None.ensures.steps in
    let d = length x.centroid.now in
    let rows = vectors_in d x.rows.now in
    let end = rows_none d c.requires.0 l.i-iterator.iter.rest.now (omega (arith, none.0.1.0, l.invariant.0)) in
    ap (λ (b : Nearest). b.node.0) (passed_all x.centroid.now rows l.i-iterator.count _ l.best l.invariant.1 end)
