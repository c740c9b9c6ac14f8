-- Where a bridge starts, as words and a distance that is kept do it (scope, part 7). Of n nodes the first n words are marks, not 0 where a node is
-- reached.
use Rattle.std.specs.Prelude.{◌||◌, List, [], ◌∷◌, ℕ, eqb, leb, get_or, Float}
use Rattle.std.specs.Float.{binary32}
use Rattle.std.specs.Float.Ieee.{lt}
use Rattle.basics.specs.Choice.{pick}
use Rattle.distance.specs.Distance.{distance_of}
use Rattle.distance.specs.Vectors.{vectors_of, vector_of}
use Rattle.def_walk.specs.Repair.{candidates_for}
use Rattle.distance.specs.declared.vectors.Nearest.{Nearest}
use Rattle.graph_utils.specs.declared.candidates.Seeker.{Seeker}

-- what candidates for a bridge to a node are compared by: the marks of n nodes, the nodes' vectors, and the node's own vector, the query
pub record Seeking : Type 0 where
  pub marks : List ℕ
  pub n : ℕ
  pub vs : List (List Float)
  pub query : List Float

-- the same, of an index in slices
abbrev pub seeking : Seeker → Seeking
seeking s = record { marks = s.marks.now; n = s.lists.shape.n; vs = vectors_of s.vectors; query = s.query.now }

abbrev pub nearest : ℕ → Float → Nearest
nearest c d = record { node = record { 0 = c }; distance = d }

-- how far a node is from the query
abbrev pub distance_from : Seeking → ℕ → Float
distance_from k c = distance_of binary32 k.query (vector_of k.vs c)

-- a reached node that is nearer than the nearest so far is the nearest
unfoldable pub considered : Seeking → ℕ → Nearest → Nearest
unfolding pick distance_of
considered k c best =
    pick (leb k.n c || eqb (get_or k.marks c 0) 0) best (pick (lt (distance_from k c) best.distance) (nearest c (distance_from k c)) best)

unfoldable pub considered_all : Seeking → List ℕ → Nearest → Nearest
unfolding considered
considered_all k [] best = best
considered_all k (c ∷ cs) best = considered_all k cs (considered k c best)

-- of the candidates for a bridge to node i, the nearest, or the entry
unfoldable pub start_of : List ℕ → ℕ → List (List Float) → (ℕ → List ℕ) → ℕ → ℕ → ℕ
unfolding considered_all candidates_for distance_of
start_of marks n vs list entry i =
    let k : Seeking = record { marks = marks; n = n; vs = vs; query = vector_of vs i } in
    (considered_all k (candidates_for list entry i) (nearest entry (distance_from k entry))).node.0
