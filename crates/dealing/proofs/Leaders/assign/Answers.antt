-- One card more. Assumes nothing.
use mathlib.Core.Path.{ap₂, ◌∙◌}
use mathlib.Core.List.{List}
use Prim.Native.Nat.{ℕ}
use lib.ListN.{set}
use Rattle.dealing.specs.Inside.Cards.{card_of}
use Rattle.dealing.specs.Inside.Leading.{nearest_to}
use Rattle.dealing.proofs.Dealing.{written_more, written_end}
use native.Mathlib.Omega.{arith}
use Rattle.dealing.proofs.Leaders.assign.Goals as goal

pub loop-i-preserved : goal.loop-i-preserved
loop-i-preserved c =
    let l = c.loop-i in
    let x = c.args in
    ap₂ (λ (r : List ℕ) (v : ℕ). set r l.i v) l.invariant c.card_of.ensures
    ∙ written_more (λ (id : ℕ). card_of (nearest_to x.self id)) x.ids.now x.cards.now (omega arith) l.i (omega arith)

pub returns : goal.returns
returns c =
    let l = c.loop-i in
    let x = c.args in
    l.invariant ∙ written_end (λ (id : ℕ). card_of (nearest_to x.self id)) x.ids.now x.cards.now (omega arith) l.i (omega arith)
