-- One pair more; there are no more entries than the row has room for. Assumes nothing.
use mathlib.Core.Path.{refl, sym, ap, ap₂, ◌∙◌}
use mathlib.Core.List.{List, map}
use Prim.Native.Nat.{ℕ}
use lib.Ieee.{binary32}
use lib.ListN.{length, get_or, set, length-map}
use Rattle.distance.specs.Order.{key_of}
use Rattle.sorting.specs.declared.Keyed.{Keyed}
use Rattle.sorting.specs.Inside.Pairs.{put_front}
use Rattle.lists.proofs.Reading.{one_row}
use Rattle.hashprune.specs.Inside.Steps.{ranked_node}
use Rattle.hashprune.proofs.Lists.{written_more, written_end}
use Rattle.hashprune.proofs.Rows.{length-entries}
use native.Mathlib.Omega.{arith}
use Rattle.hashprune.proofs.rank_row.Goals as goal

pub loop-i-init : goal.loop-i-init
loop-i-init c =
    let a = c.args in
    let is = c.row_of-entries.ensures ∙ one_row a.row.now c.requires.counted in
    (omega (arith, ap length is, length-entries a.row.now, c.requires.room), refl)

pub loop-i-preserved : goal.loop-i-preserved
loop-i-preserved c =
    let a = c.args in
    let l = c.loop-i in
    let entries : List ℕ = c.row_of-entries.result.now in
    let key = c.key-key.ensures ∙ ap (key_of binary32) c.distance_from.ensures in (
      l.invariant.0,
      ap₂ (λ (r : List Keyed) (k : ℕ). set r l.i (record { key = k; id = get_or entries l.i 0 })) l.invariant.1 key
          ∙ written_more (ranked_node a.vectors a.p.now) entries a.pairs.now 0 l.i c.loop-i-test.true l.invariant.0,
    )

pub returns : goal.returns
returns c =
    let a = c.args in
    let l = c.loop-i in
    let row = c.row_of-entries in
    let f = ranked_node a.vectors a.p.now in
    let is = row.ensures ∙ one_row a.row.now c.requires.counted in (
      sym (length-map row.result.now f) ∙ ap (λ (xs : List ℕ). length (map f xs)) is,
      l.invariant.1 ∙ written_end f row.result.now a.pairs.now l.i (omega arith) ∙ ap (λ (xs : List ℕ). put_front (map f xs) a.pairs.now) is,
    )
