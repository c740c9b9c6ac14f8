-- What is left to add completes the whole. Assumes nothing.
use native.Mathlib.Omega.{arith}
use mathlib.Core.Path.{◌≡◌, sym, ap, ◌∙◌}
use mathlib.Core.List.{List, ◌∷◌}
use lib.ListN.{length}
use lib.Ieee.{Float, binary32}
use Rattle.distance.specs.Vectors.{vectors_in}
use Rattle.def_graph.specs.Centroid.{add_to, row_sums_from}
use Rattle.finish.proofs.medoid.Rows.{rows_more, rows_none}
use Rattle.finish.proofs.medoid.Sums.{length-add_to}
use Rattle.finish.proofs.medoid.sum_rows.Goals as goal

pub add_row-requires : goal.add_row-requires
add_row-requires c =
    let l = c.loop-row in
    let steps = c.in-Some.ensures.steps in
    steps.1.1 ∙ l.invariant.0 ∙ sym l.invariant.1

-- a row is added before those that follow it
added : (sums x : List Float) (rows rest : List (List Float)) → rows ≡ x ∷ rest → row_sums_from binary32 (add_to binary32 sums x) rest ≡ row_sums_from binary32 sums rows
unfolding row_sums_from
added sums x rows rest e = sym (ap (row_sums_from binary32 sums) e)

pub loop-row-preserved : goal.loop-row-preserved
loop-row-preserved c =
    let l = c.loop-row in
    let steps = c.in-Some.ensures.steps in
    let d = length c.args.sums.now in
    let rest = l.row-iterator.rest.now in
    let after = c.next.new.self.rest.now in
    let row = c.in-Some.row.now in
    let rows = rows_more d c.requires rest row after steps.1.0 (steps.1.1 ∙ l.invariant.0) in (
      steps.0 ∙ l.invariant.0,
      ap length c.add_row.ensures ∙ length-add_to binary32 l.sums row ∙ l.invariant.1,
      ap (λ (s : List Float). row_sums_from binary32 s (vectors_in d after)) c.add_row.ensures ∙ added l.sums row (vectors_in d rest) (vectors_in d after) rows ∙ l.invariant.2,
    )

pub returns : goal.returns
unfolding row_sums_from
returns c =
    let l = c.loop-row in
    let none = c.in-None.ensures.steps in
    sym (ap (row_sums_from binary32 l.sums) (rows_none (length c.args.sums.now) c.requires l.row-iterator.rest.now (omega (arith, none.1.0, l.invariant.0)))) ∙ l.invariant.2
