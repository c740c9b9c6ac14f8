-- The two outcomes of the choice, by the test that led to each. Assumes nothing.
use mathlib.Core.Path.{sym, ap, ◌∙◌}
use native.Mathlib.Omega.{arith}
use borrow.Author.Tests.{eq-eqb, ne_eqb}
use mathlib.Core.Path.{◌≡◌}
use Prim.Native.Nat.{◌+◌, ◌-◌, ◌*◌}
use Rattle.basics.specs.Choice.{pick_true, pick_false}
use Rattle.lists.specs.Inside.Chains.{capped}
use Rattle.lists.proofs.chains.link_place.Goals as goal

pub returns-then-tail-eq0 : goal.returns-then-tail-eq0
returns-then-tail-eq0 c =
    let a = c.args in
    let small : a.node.0 ≡ capped a.node.0 = omega arith in
    small ∙ sym (ap capped (pick_true a.node.0 (2 * a.n + a.tail - 1) (eq-eqb a.tail 0 c.if-tail-eq0.true)))

pub returns : goal.returns
returns c =
    let a = c.args in
    let place : 2 * a.n + (a.tail - 1) ≡ 2 * a.n + a.tail - 1 = omega arith in
    c.next_place.ensures ∙ ap capped place ∙ sym (ap capped (pick_false a.node.0 (2 * a.n + a.tail - 1) (ne_eqb a.tail 0 c.if-tail-eq0.false)))
