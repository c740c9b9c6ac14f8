-- The outcomes of the two choices, by the tests that led to each. Assumes nothing.
use native.Mathlib.Omega.{arith}
use mathlib.Core.Path.{sym, ap, ◌∙◌}
use Prim.Native.Nat.{◌+◌, ◌*◌, ◌^◌}
use borrow.Author.Tests.{lt-ltb, le-ltb}
use Rattle.basics.specs.Choice.{pick_true, pick_false}
use Rattle.lists.specs.Inside.Chains.{append_slot, chain_bridge}
use Rattle.lists.proofs.chains.chain_bridge.Goals as goal

pub returns-then-j-ge1073741824 : goal.returns-then-j-ge1073741824
unfolding chain_bridge
returns-then-j-ge1073741824 c = let a = c.args in sym (pick_false _ _ (le-ltb a.j (2 ^ 30) (omega arith)))

pub returns-then-eq : goal.returns-then-eq
unfolding chain_bridge
returns-then-eq c =
    let a = c.args in
    c.append_slot.ensures
    ∙ sym (pick_true _ _ (sym c.eq.ensures ∙ c.if-eq.true))
    ∙ sym (pick_true _ _ (lt-ltb a.j (2 ^ 30) (omega arith)))

pub returns : goal.returns
unfolding chain_bridge
returns c =
    let a = c.args in
    c.append_slot-2.ensures
    ∙ ap (append_slot a.n a.far.0 (2 * a.j + 1)) c.append_slot.ensures
    ∙ sym (pick_false _ _ (sym c.eq.ensures ∙ c.if-eq.false))
    ∙ sym (pick_true _ _ (lt-ltb a.j (2 ^ 30) (omega arith)))
