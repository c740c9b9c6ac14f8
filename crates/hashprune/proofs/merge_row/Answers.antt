-- The pairs sorted, without equal neighbours, as a row. Assumes nothing.
use mathlib.Core.Path.{ap, ◌∙◌}
use mathlib.Core.List.{List, map}
use Prim.Native.Nat.{ℕ, ◌-◌, min}
use lib.ListN.{length, take}
use Rattle.std.proofs.lemmas.List.{take_rest}
use Rattle.sorting.specs.declared.Keyed.{Keyed}
use Rattle.sorting.specs.Inside.Pairs.{id_in}
use Rattle.sorting.proofs.Pairs.{sorted_all}
use Rattle.def_graph.specs.Leaf.{dedup}
use Rattle.store.specs.View.{row_block}
use native.Mathlib.Omega.{arith}
use Rattle.hashprune.proofs.merge_row.Goals as goal

pub returns : goal.returns
returns c =
    let a = c.args in
    let d = c.dedup-from in
    let D : ℕ = length a.row.now - 1 in
    let sorted = c.sort_pairs.ensures ∙ sorted_all (min (length a.pairs.now) (length a.spare.now)) a.pairs.now (omega (arith, c.requires.spare_room)) in
    c.write_row.ensures
    ∙ ap (λ (l : List Keyed). row_block D (take D (map id_in l))) (take_rest d.new.pairs d.result)
    ∙ ap (λ (l : List ℕ). row_block D (take D l)) (d.ensures.1 ∙ ap (λ (l : List Keyed). dedup (map id_in l)) sorted)
