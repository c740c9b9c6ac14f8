-- The places from `first` to i had their turns. Assumes nothing.
use native.Mathlib.Omega.{arith}
use mathlib.Core.Path.{◌≡◌, refl, subst, ◌∙◌}
use Prim.Native.Nat.{ℕ, ◌+◌, ◌-◌, min}
use lib.ListN.{length}
use Rattle.build_leaf.specs.Inside.Built.{PlacesPut}
use Rattle.build_leaf.proofs.Rows.{places_none, places_more}
use Rattle.build_leaf.proofs.Builder.each_place.Goals as goal

pub loop-i-init : goal.loop-i-init
loop-i-init c = let x = c.args in (omega arith, omega arith, refl, places_none x.self x.nodes x.first x.floats x.rows.now)

pub loop-i-preserved : goal.loop-i-preserved
loop-i-preserved c =
    let l = c.loop-i in
    let x = c.args in (
      omega arith,
      omega arith,
      c.one_place.auto.rows ∙ l.invariant.2,
      places_more x.self x.nodes x.first x.floats x.rows.now l.i (l.i - x.first) l.rows _ l.invariant.0 (omega arith) (omega arith) refl l.invariant.3 c.one_place.ensures,
    )

pub returns : goal.returns
returns c =
    let l = c.loop-i in
    let x = c.args in
    let e : l.i ≡ min (x.first + 8) (length x.nodes.now) = omega (arith, c.min-end.ensures) in
    subst (λ (k : ℕ). PlacesPut x.self x.nodes.now x.first k x.floats.now x.rows.now l.rows) e l.invariant.3

pub shape_of-rows : goal.shape_of-rows
shape_of-rows c = c.loop-i.invariant.2
