-- The nodes held for the cutoff (scope, part 8; `keep_closest`). A walk holds the b closest of what it has scored, the worst first. The cutoff is
-- what the last node led to: infinity where it went to a free slot, also the last free one, and after that the worst distance held. With b = 0 none
-- is held, and the cutoff stays infinite.
use Rattle.std.specs.Prelude.{Bool, ◌&&◌, ◌||◌, ltb, eqb, length, Float}
use Rattle.std.proofs.Math.Bool.{false}
use mathlib.Core.List.{List, [], ◌∷◌}
use Prim.Native.Nat.{ℕ}
use Rattle.std.specs.Float.{binary32}
use Rattle.std.specs.Float.Ieee.{inf, lt}
use Rattle.basics.specs.Choice.{pick}
use Rattle.distance.specs.Order.{key_of}

-- where a node stands in part 1's order; `far` is a node's distance
abbrev pub key_at : (ℕ → Float) → ℕ → ℕ
key_at far v = key_of binary32 (far v)

-- v is taken before w: it is nearer, or equally near and the lower node
unfoldable pub sooner : (ℕ → Float) → ℕ → ℕ → Bool
unfolding key_of
sooner far v w = ltb (key_at far v) (key_at far w) || (eqb (key_at far v) (key_at far w) && ltb v w)

-- v goes before the first node that it precedes
unfoldable pub insert_in : (ℕ → ℕ → Bool) → ℕ → List ℕ → List ℕ
unfolding pick
insert_in precedes v [] = v ∷ []
insert_in precedes v (w ∷ ws) = pick (precedes v w) (v ∷ w ∷ ws) (w ∷ insert_in precedes v ws)

module _ (far : ℕ → Float) where
  -- into the held, the worst first
  unfoldable pub hold : ℕ → List ℕ → List ℕ
  unfolding insert_in sooner
  hold v held = insert_in (λ x y. sooner far y x) v held

  -- v takes the worst's place if its distance is less, by the comparison of numbers
  unfoldable pub replace_worst : ℕ → List ℕ → List ℕ
  unfolding pick hold
  replace_worst v [] = []
  replace_worst v (w ∷ held) = pick (lt (far v) (far w)) (hold v held) (w ∷ held)

  unfoldable pub keep_closest : ℕ → ℕ → List ℕ → List ℕ
  unfolding pick hold replace_worst
  keep_closest b v held = pick (ltb (length held) b) (hold v held) (replace_worst v held)

  -- what is held after the nodes scored, latest first
  unfoldable pub held_of : ℕ → List ℕ → List ℕ
  unfolding keep_closest
  held_of b [] = []
  held_of b (v ∷ scored) = keep_closest b v (held_of b scored)

  -- the worst distance held; a NaN counts as the worst of all
  abbrev pub worst_of : List ℕ → Float
  worst_of [] = inf false
  worst_of (v ∷ held) = far v

  -- the cutoff after the nodes scored, latest first
  unfoldable pub cutoff_of : ℕ → List ℕ → Float
  unfolding pick held_of keep_closest
  cutoff_of b [] = inf false
  cutoff_of b (v ∷ scored) =
      let held : List ℕ = held_of b scored in
      pick (ltb (length held) b) (inf false) (worst_of (keep_closest b v held))
