-- A search along out-edges (scope, parts 7 and 8). A node's list is `list i`. What is seen is listed latest first, so that its length counts it, and
-- the frontier's next node comes first.
use Rattle.std.specs.Prelude.{Bool}
use mathlib.Core.List.{List, [], ◌∷◌, Memᴰ as In}
use Prim.Native.Nat.{ℕ, zero, suc}
use Rattle.basics.specs.Choice.{pick}
use Rattle.basics.specs.Nodes.{has}

-- The entry node is reached, and so is whatever an out-edge of a reached node leads to; nothing else is (scope, demand 3).
pub data Reach (list : ℕ → List ℕ) (entry : ℕ) : ℕ → Type 0 where
  start : Reach list entry entry
  along : {u v : ℕ} → Reach list entry u → In v (list u) → Reach list entry v

pub record State : Type 0 where
  pub seen : List ℕ
  pub front : List ℕ

-- a node that is new is seen from now on, and goes to the frontier
unfoldable pub visit : (ℕ → List ℕ → List ℕ) → ℕ → State → State
unfolding pick has
visit push v s = pick (has v s.seen) s (record { seen = v ∷ s.seen; front = push v s.front })

-- a list's nodes are looked at in their order
unfoldable pub expand : (ℕ → List ℕ → List ℕ) → State → List ℕ → State
unfolding visit
expand push s [] = s
expand push s (v ∷ vs) = expand push (visit push v s) vs

-- The walk, by at most this many expansions. `too_far seen u` stops it before u is expanded, `too_many seen` after. It returns what it has seen.
module _ (list : ℕ → List ℕ) (push : ℕ → List ℕ → List ℕ) (too_far : List ℕ → ℕ → Bool) (too_many : List ℕ → Bool) where
  unfoldable pub walk : ℕ → List ℕ → List ℕ → List ℕ
  unfolding pick expand
  walk zero seen front = seen
  walk (suc more) seen [] = seen
  walk (suc more) seen (u ∷ front) =
      let s : State = expand push (record { seen = seen; front = front }) (list u) in
      let rest : List ℕ = walk more s.seen s.front in
      pick (too_far seen u) seen (pick (too_many s.seen) s.seen rest)
