-- The lane holds the components passed, the other lanes are as they were. Assumes nothing.
use native.Mathlib.Omega.{arith}
use mathlib.Core.Path.{refl}
use Prim.Native.Nat.{◌+◌, ◌*◌}
use Rattle.build_leaf.proofs.leaf_distances.Laws.{putting_none, putting_more, putting_all}
use Rattle.build_leaf.proofs.leaf_distances.put_lane.Goals as goal

pub loop-c-init : goal.loop-c-init
loop-c-init c = let x = c.args in putting_none x.lane x.v.now x.block.now c.requires.0 c.requires.1

pub loop-c-preserved : goal.loop-c-preserved
loop-c-preserved c =
    let l = c.loop-c in
    let x = c.args in
    putting_more x.lane x.v.now x.block.now c.requires.0 c.requires.1 l.c (8 * l.c + x.lane) l.block (omega arith) refl l.invariant

pub returns : goal.returns
returns c =
    let l = c.loop-c in
    let x = c.args in
    putting_all x.lane x.v.now x.block.now c.requires.0 c.requires.1 l.c l.block (omega arith) l.invariant (omega arith)
