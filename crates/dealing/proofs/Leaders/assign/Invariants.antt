-- The invariant: the first i cards are those of the first i nodes, the rest is what it was. Assumes nothing.
use mathlib.Core.Path.{◌≡◌}
use Prim.Native.Nat.{ℕ}
use Rattle.dealing.specs.Inside.Cards.{card_of}
use Rattle.dealing.specs.Inside.Leading.{nearest_to}
use Rattle.dealing.proofs.Dealing.{written}
use Rattle.dealing.proofs.Leaders.assign.Given as goal

abbrev pub invariant-loop-i : goal.invariant-loop-i
invariant-loop-i l = l.cards ≡ written (λ (id : ℕ). card_of (nearest_to l.initial.self id)) l.initial.ids l.initial.cards l.i
