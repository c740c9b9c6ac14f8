-- The row's pairs stand at the front, the selected ones are put right behind them, and all of the former with the first of the latter are merged.
-- Assumes nothing.
use mathlib.Core.Path.{ap, ◌∙◌}
use mathlib.Core.List.{List, ◌++◌}
use Prim.Native.Nat.{ℕ, ◌-◌}
use native.Mathlib.Omega.{arith}
use lib.ListN.{length, take}
use lib.Ieee.{Float}
use Rattle.sorting.specs.declared.Keyed.{Keyed}
use Rattle.store.specs.View.{row_block}
use Rattle.hashprune.specs.Inside.Steps.{old_pairs, selected_pairs, merged_pairs}
use Rattle.hashprune.proofs.Ranked.{joined}
use Rattle.hashprune.proofs.insert_fitting.Goals as goal

pub returns : goal.returns
returns c =
    let a = c.args in
    let r = c.rank_row-old in
    let t = c.select-new in
    let D : ℕ = length a.row.now - 1 in
    let new : List Keyed = selected_pairs a.offer.point a.offer.vectors a.offer.planes.now a.offer.candidates.now in
    c.merge_row.ensures
    ∙ ap (λ (ps : List Keyed). row_block D (merged_pairs D ps))
    (joined D (old_pairs a.offer.vectors c.get-p.result.now a.row.now) new r.result c.min.result _ r.new.pairs _ t.new.pairs _ r.ensures.0
    (omega (arith, c.min.ensures, t.ensures.many)) r.ensures.1 t.ensures.are)
    ∙ ap (λ (x : List Float). row_block D (merged_pairs D (old_pairs a.offer.vectors x a.row.now ++ take D new))) c.get-p.ensures
