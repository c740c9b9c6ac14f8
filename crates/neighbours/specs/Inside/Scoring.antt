-- Distances written at their nodes' indexes (scope, part 8: each node is scored once). `far` is a node's distance.
use Rattle.std.specs.Prelude.{List, [], ◌∷◌, ℕ, ◌+◌, ◌-◌, min, length, get_or, set, Float}
use Rattle.std.specs.Float.{nan}
use Rattle.distance.specs.Vectors.{vectors_of}
use Rattle.def_walk.specs.Beam.{far_from}
use Rattle.neighbours.specs.declared.scoring.Scorer.{Scorer}

-- how far a node is from the query
abbrev pub far_by : Scorer → ℕ → Float
far_by s = far_from s.query.now (vectors_of s.vectors)

unfoldable pub scored_at : (ℕ → Float) → List ℕ → List Float → List Float
scored_at far [] floats = floats
scored_at far (v ∷ vs) floats = scored_at far vs (set floats v (far v))

-- the node that stands so many places after a place of a list; past its end, the last one
abbrev pub node_at : List ℕ → ℕ → ℕ → ℕ
node_at nodes at more = get_or nodes (min (at + more) (length nodes - 1)) 0

-- the distances of eight nodes of a list
abbrev pub scored_eight : (ℕ → Float) → List ℕ → ℕ → List Float
scored_eight far nodes at =
    far (node_at nodes at 0) ∷ far (node_at nodes at 1) ∷ far (node_at nodes at 2) ∷ far (node_at nodes at 3)
    ∷ far (node_at nodes at 4) ∷ far (node_at nodes at 5) ∷ far (node_at nodes at 6) ∷ far (node_at nodes at 7) ∷ []

-- eight distances at the places of eight nodes
abbrev pub placed_eight : List ℕ → ℕ → List Float → List Float → List Float
placed_eight nodes at xs floats =
    set (set (set (set (set (set (set (set floats
    (node_at nodes at 0) (get_or xs 0 nan)) (node_at nodes at 1) (get_or xs 1 nan)) (node_at nodes at 2) (get_or xs 2 nan)) (node_at nodes at 3) (get_or xs 3 nan))
    (node_at nodes at 4) (get_or xs 4 nan)) (node_at nodes at 5) (get_or xs 5 nan)) (node_at nodes at 6) (get_or xs 6 nan)) (node_at nodes at 7) (get_or xs 7 nan)
