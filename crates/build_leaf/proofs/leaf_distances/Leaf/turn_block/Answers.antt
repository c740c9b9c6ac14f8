-- The lanes below g hold their places' vectors. Assumes nothing.
use native.Mathlib.Omega.{arith}
use mathlib.Core.Path.{◌≡◌, refl, ap, subst, ◌∙◌}
use Prim.Native.Nat.{ℕ}
use lib.ListN.{length, get_or}
use Rattle.build_leaf.specs.Inside.Lanes.{BlockTurned}
use Rattle.build_leaf.proofs.leaf_distances.Laws.{turned_none, turned_more, vector_short}
use Rattle.build_leaf.proofs.leaf_distances.Leaf.turn_block.Goals as goal

pub loop-g-init : goal.loop-g-init
loop-g-init c = let x = c.args in (refl, turned_none x.self x.first x.block.now)

pub put_lane-requires : goal.put_lane-requires
put_lane-requires c =
    let x = c.args in
    (omega arith, omega (arith, ap length c.get.ensures, vector_short x.self.vectors.dimension x.self.vectors.components.now (get_or x.self.nodes.now c.min-place.result 0)))

pub loop-g-preserved : goal.loop-g-preserved
loop-g-preserved c =
    let l = c.loop-g in
    let x = c.args in (
      c.put_lane.auto.block ∙ l.invariant.0,
      turned_more x.self x.first l.g c.min-place.result l.block _ c.get.result.now c.loop-g-test.true
          c.min-place.ensures c.get.ensures l.invariant.1 c.put_lane.ensures,
    )

pub returns : goal.returns
returns c =
    let l = c.loop-g in
    let x = c.args in
    let all : l.g ≡ 8 = omega arith in
    subst (λ (k : ℕ). BlockTurned x.self x.first k l.block) all l.invariant.1
