-- The invariant: the first positions are replaced by their nodes (`part`). Assumes nothing.
use mathlib.Core.Path.{◌≡◌}
use Prim.Native.Nat.{ℕ}
use lib.ListN.{get_or}
use Rattle.basics.proofs.Loops.{part}
use Rattle.dealing.proofs.nodes_at.Given as goal

abbrev pub invariant-loop-position : goal.invariant-loop-position
invariant-loop-position l = l.positions ≡ part (λ (p : ℕ). get_or l.initial.ids p 0) l.initial.positions l.position-index
