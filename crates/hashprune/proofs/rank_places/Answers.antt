-- One pair more. Assumes nothing.
use mathlib.Core.Path.{◌≡◌, refl, ap₂, ◌∙◌}
use mathlib.Core.List.{List, map}
use Prim.Native.Nat.{ℕ}
use lib.ListN.{length, get_or, set, length-map, get_or-map}
use Rattle.basics.proofs.Members.{in_get_d}
use Rattle.sorting.specs.declared.Keyed.{Keyed}
use Rattle.hashprune.specs.declared.Cell.{Cell}
use Rattle.hashprune.specs.Inside.Steps.{no_cell, place_in, node_at, ranked_place}
use Rattle.hashprune.proofs.Lists.{written_more, written_end}
use native.Mathlib.Omega.{arith}
use Rattle.hashprune.proofs.rank_places.Goals as goal

pub loop-i-init : goal.loop-i-init
loop-i-init c = refl

pub bounds-candidates-cell : goal.bounds-candidates-cell
bounds-candidates-cell c =
    let a = c.args in
    let l = c.loop-i in
    let size : length (map place_in a.cells.now) ≡ length a.cells.now = length-map a.cells.now place_in in
    let inside = c.requires.held (get_or (map place_in a.cells.now) l.i 0) (in_get_d (map place_in a.cells.now) l.i 0 (omega arith)) in
    omega (arith, get_or-map place_in a.cells.now l.i no_cell)

pub loop-i-preserved : goal.loop-i-preserved
loop-i-preserved c =
    let a = c.args in
    let l = c.loop-i in
    ap₂ (λ (r : List Keyed) (k : ℕ). set r l.i (record { key = k; id = node_at a.candidates.now (place_in (get_or a.cells.now l.i no_cell)) })) l.invariant c.key.ensures
    ∙ written_more (λ (cell : Cell). ranked_place a.candidates.now (place_in cell)) a.cells.now a.pairs.now no_cell l.i c.loop-i-test.true c.requires.room

pub returns : goal.returns
returns c =
    let a = c.args in
    let l = c.loop-i in
    l.invariant ∙ written_end (λ (cell : Cell). ranked_place a.candidates.now (place_in cell)) a.cells.now a.pairs.now l.i (omega arith)
