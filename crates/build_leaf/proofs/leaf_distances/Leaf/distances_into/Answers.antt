-- The block that is turned is the part of the array that is passed on again (`distances_are`). Where the code returns early the sizes do not fit.
-- Assumes nothing.
use native.Mathlib.Omega.{arith}
use mathlib.Core.Path.{◌≡◌, subst}
use mathlib.Core.List.{List, ◌++◌}
use Prim.Native.Nat.{ℕ, ◌*◌}
use lib.ListN.{length, take, length-take, length-drop, length-append}
use lib.Seq.{take_at}
use lib.Ieee.{Float}
use Rattle.build_leaf.specs.declared.leaf_distances.Leaf.{Leaf}
use Rattle.build_leaf.specs.Inside.Lanes.{BlockTurned, LanesFilled, Distances}
use Rattle.build_leaf.proofs.leaf_distances.Laws.{distances_are}
use Rattle.build_leaf.proofs.leaf_distances.Leaf.distances_into.Goals as goal

joined : (l : Leaf) (first : ℕ) (turned rest : List Float) (room : ℕ) (floats : List Float) → length turned ≡ 8 * l.vectors.dimension
    → BlockTurned l first 8 turned → LanesFilled l (take (8 * l.vectors.dimension) (turned ++ rest)) (length l.nodes.now) floats → Distances l first room floats
joined l first turned rest room floats e t filled =
    distances_are l first turned room floats e t
    (subst (λ (block : List Float). LanesFilled l block (length l.nodes.now) floats) (take_at turned rest (8 * l.vectors.dimension) e) filled)

pub slice_bounds-block-end-2 : goal.slice_bounds-block-end-2
slice_bounds-block-end-2 c =
    let k = simp length-take at c.turn_block.auto.block in
    simp (length-append, length-drop) (omega (arith, k))

pub slice_bounds-distance_rows-end : goal.slice_bounds-distance_rows-end
slice_bounds-distance_rows-end c =
    let k = simp length-take at c.turn_block.auto.block in
    simp (length-take, length-append, length-drop) (omega (arith, k))

pub returns : goal.returns
returns c =
    let x = c.args in
    let t = c.turn_block in
    let k = simp length-take at t.auto.block in
    joined x.self x.first t.new.block _ (length x.floats.now) _ (omega (arith, k)) t.ensures c.distance_rows.ensures

pub returns-then-self-gt64 : goal.returns-then-self-gt64
returns-then-self-gt64 c few inside fits below = absurd (omega arith)

pub returns-then-self-first : goal.returns-then-self-first
returns-then-self-first c few inside fits below = absurd (omega arith)

pub returns-then-floats-self : goal.returns-then-floats-self
returns-then-floats-self c few inside fits below = absurd (omega arith)

pub slice_bounds-turn_block-end : goal.slice_bounds-turn_block-end
slice_bounds-turn_block-end c = simp length-take (omega arith)

pub turn_block-requires : goal.turn_block-requires
turn_block-requires c = (omega arith, simp length-take (omega arith))
