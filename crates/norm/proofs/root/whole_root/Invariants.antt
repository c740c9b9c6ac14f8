-- The invariant: the root is r or above, and below r + 2^k. The measure is k; at 0 the bounds fix the root. Assumes nothing.
use Prim.Native.Nat.{ℕ, ◌+◌, ◌^◌, ◌≤◌}
use Rattle.norm.proofs.root.Floor.{Bounds}
use Rattle.norm.proofs.root.whole_root.Given as goal

-- before the digit k - 1 is tried: the root so far, and how far it can still go
abbrev pub J : ℕ → ℕ → ℕ → Type 0
J n r k = (k ≤ 25) × (r + 2 ^ k ≤ 2 ^ 25) × Bounds n r (2 ^ k)

abbrev pub invariant-loop-k : goal.invariant-loop-k
invariant-loop-k l = J l.initial.n l.r l.k
