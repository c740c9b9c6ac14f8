-- The places before the next eight had their turns. Assumes nothing.
use native.Mathlib.Omega.{arith}
use mathlib.Core.Path.{◌≡◌, refl, subst, ◌∙◌}
use Prim.Native.Nat.{ℕ, ◌+◌, ◌*◌, ◌<◌, min}
use lib.ListN.{length}
use Rattle.build_leaf.specs.Inside.Lanes.{Distances}
use Rattle.build_leaf.proofs.Rows.{LeafTo, leaf_single, leaf_first, leaf_more, leaf_last}
use Rattle.build_leaf.proofs.Builder.build_leaf.Goals as goal

pub returns-then-nodes-le1 : goal.returns-then-nodes-le1
returns-then-nodes-le1 c = let x = c.args in leaf_single x.self x.nodes (length x.floats.now) x.rows.now (omega arith)

pub loop-k-init : goal.loop-k-init
loop-k-init c =
    let x = c.args in
    let none : 0 ≡ min (8 * 0) (length x.nodes.now) = omega arith in
    (refl, refl, subst (λ (k : ℕ). LeafTo x.self x.nodes.now (length x.floats.now) k x.rows.now x.rows.now) none (leaf_first x.self x.nodes (length x.floats.now) x.rows.now))

pub loop-k-preserved : goal.loop-k-preserved
loop-k-preserved c =
    let l = c.loop-k in
    let x = c.args in
    let far = c.distances_into in
    let put = c.each_place in
    let n : ℕ = length x.nodes.now in
    let room : ℕ = length x.floats.now in
    let first : ℕ = 8 * l.k in
    let inside : first < n = omega arith in
    let at : min first n ≡ first = omega arith in
    let next : min (first + 8) n ≡ min (8 * (l.k + 1)) n = omega arith in (
      put.auto.rows ∙ l.invariant.0,
      far.auto.floats ∙ l.invariant.1,
      subst (λ (k : ℕ). LeafTo x.self x.nodes.now room k x.rows.now put.new.rows) next
          (leaf_more x.self x.nodes room x.rows.now first _ far.new.floats l.rows _ inside (far.auto.floats ∙ l.invariant.1)
          (subst (λ (k : ℕ). LeafTo x.self x.nodes.now room k x.rows.now l.rows) at l.invariant.2)
          (subst (λ (k : ℕ). Distances (record { vectors = x.self.vectors; nodes = x.nodes }) first k far.new.floats) l.invariant.1 far.ensures) put.ensures),
    )

pub returns : goal.returns
returns c =
    let l = c.loop-k in
    let x = c.args in
    leaf_last x.self x.nodes (length x.floats.now) x.rows.now (min (8 * l.k) (length x.nodes.now)) l.rows (omega arith) (omega arith) l.invariant.2
