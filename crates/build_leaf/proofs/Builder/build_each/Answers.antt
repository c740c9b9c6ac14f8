-- The first k leaves are built, and `rest` has the nodes behind them. Assumes nothing.
use native.Mathlib.Omega.{arith}
use mathlib.Core.Path.{◌≡◌, refl, sym, ap, subst, ◌∙◌}
use mathlib.Core.List.{List}
use Prim.Native.Nat.{ℕ, ◌+◌, ◌-◌}
use lib.ListN.{length, get_or, take, drop}
use Rattle.std.proofs.lemmas.List.{drop-drop}
use Rattle.build_leaf.specs.Inside.Built.{LeafBuilt}
use Rattle.build_leaf.proofs.Leaves.{LeavesTo, leaves_none, leaves_more, leaves_cut, leaves_last}
use Rattle.build_leaf.proofs.Builder.build_each.Goals as goal

pub loop-size-init : goal.loop-size-init
loop-size-init c =
    let x = c.args in
    let none : length x.nodes.now - length x.nodes.now ≡ 0 = omega arith in (
      omega arith,
      sym (ap (λ (k : ℕ). drop k x.nodes.now) none),
      refl,
      refl,
      subst (λ (at : ℕ). LeavesTo x.self x.nodes.now x.sizes.now (length x.floats.now) 0 at x.rows.now x.rows.now) (sym none)
          (leaves_none x.self x.nodes.now x.sizes.now (length x.floats.now) x.rows.now),
    )

pub returns-in_default : goal.returns-in_default
returns-in_default c =
    let l = c.loop-size in
    let x = c.args in
    let at : ℕ = length x.nodes.now - length l.rest.now in
    leaves_cut x.self x.nodes.now x.sizes.now (length x.floats.now) x.rows.now l.size-index at _ l.rows (omega arith) refl (omega (arith, l.invariant.0, c.in_default.ensures.cases)) l.invariant.4

pub loop-size-preserved : goal.loop-size-preserved
loop-size-preserved c =
    let l = c.loop-size in
    let x = c.args in
    let b = c.build_leaf in
    let split = c.in-Some.ensures.cases in
    let size : ℕ = get_or x.sizes.now l.size-index 0 in
    let at : ℕ = length x.nodes.now - length l.rest.now in
    let end : length x.nodes.now - length c.in-Some.after.now ≡ at + size = omega (arith, l.invariant.0, split.4) in
    let leaf : c.in-Some.leaf.now ≡ take size (drop at x.nodes.now) = split.1 ∙ ap (take size) l.invariant.1 in
    let built : LeafBuilt x.self (take size (drop at x.nodes.now)) (length x.floats.now) l.rows b.new.rows
    = subst (λ (k : ℕ). LeafBuilt x.self (take size (drop at x.nodes.now)) k l.rows b.new.rows) l.invariant.3
    (subst (λ (ns : List ℕ). LeafBuilt x.self ns (length l.floats) l.rows b.new.rows) leaf b.ensures) in (
      omega (arith, l.invariant.0, split.4),
      split.2 ∙ ap (drop size) l.invariant.1 ∙ drop-drop size at x.nodes.now ∙ ap (λ (k : ℕ). drop k x.nodes.now) (sym end),
      b.auto.rows ∙ l.invariant.2,
      b.auto.floats ∙ l.invariant.3,
      subst (λ (k : ℕ). LeavesTo x.self x.nodes.now x.sizes.now (length x.floats.now) (l.size-index + 1) k x.rows.now b.new.rows) (sym end)
          (leaves_more x.self x.nodes.now x.sizes.now (length x.floats.now) x.rows.now l.size-index at (at + size) size l.rows b.new.rows (omega arith) refl refl l.invariant.4 built),
    )

pub returns : goal.returns
returns c =
    let l = c.loop-size in
    let x = c.args in
    leaves_last x.self x.nodes.now x.sizes.now (length x.floats.now) x.rows.now l.size-index (length x.nodes.now - length l.rest.now) l.rows (omega arith) l.invariant.4
