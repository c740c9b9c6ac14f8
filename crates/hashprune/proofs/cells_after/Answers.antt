-- One candidate more comes to its cell. Assumes nothing.
use mathlib.Core.Path.{◌≡◌, ap, subst, sym, ◌∙◌}
use mathlib.Core.List.{List, []}
use Prim.Native.Nat.{ℕ}
use lib.ListN.{length}
use Rattle.def_graph.specs.Leaf.{cells_from}
use Rattle.hashprune.specs.declared.Cell.{Cell as Taken}
use Rattle.hashprune.specs.Inside.Steps.{far_at, hash_by, hash_at, first_places}
use Rattle.hashprune.proofs.Cells.{Came, came_none, came_below, came_more}
use native.Mathlib.Omega.{arith}
use Rattle.hashprune.proofs.cells_after.Goals as goal

pub loop-i-init : goal.loop-i-init
loop-i-init c =
    let a = c.args in
    let far = far_at a.offer.candidates.now in
    let hash = hash_at a.offer.point a.offer.vectors a.offer.planes.now a.offer.candidates.now in
    subst (λ (l : List Taken). Came far hash 0 l) (sym c.new-cells.ensures) (came_none far hash)

pub put_cell-requires : goal.put_cell-requires
put_cell-requires c =
    let a = c.args in
    let l = c.loop-i in
    let inside = came_below (far_at a.offer.candidates.now) (hash_at a.offer.point a.offer.vectors a.offer.planes.now a.offer.candidates.now) l.i l.cells.items l.invariant in
    record {
      room = omega (arith, l.invariant.few, c.requires);
      place_inside = omega arith;
      inside = λ x m. let k = inside x m in omega arith;
    }

pub loop-i-preserved : goal.loop-i-preserved
loop-i-preserved c =
    let a = c.args in
    let l = c.loop-i in
    let put = c.put_cell in
    let hash = c.hash_of-hash in
    let same : hash.result ≡ hash_at a.offer.point a.offer.vectors a.offer.planes.now a.offer.candidates.now l.i
    = hash.ensures ∙ (λ j. hash_by a.offer.planes.now a.offer.point.bits (c.get-p.ensures j) (c.get.ensures j)) in
    came_more (far_at a.offer.candidates.now) (hash_at a.offer.point a.offer.vectors a.offer.planes.now a.offer.candidates.now) l.i hash.result l.cells.items put.new.cells.items
    l.invariant same put.ensures.0 put.ensures.1

pub returns : goal.returns
returns c =
    let a = c.args in
    let l = c.loop-i in
    let e : l.i ≡ length a.offer.candidates.now = omega arith in
    (omega (arith, l.invariant.few), l.invariant.cells_are ∙ ap (λ (k : ℕ). cells_from (far_at a.offer.candidates.now) (hash_at a.offer.point a.offer.vectors a.offer.planes.now a.offer.candidates.now) [] (first_places k)) e)
