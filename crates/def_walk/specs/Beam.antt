-- The walk of a search and its answer (scope, part 8; `beam_search`). A live node is scored when the walk computes its distance to the query, the
-- entry node too, each at most once.
use Rattle.std.specs.Prelude.{Bool, false, ◌&&◌, List, [], ◌∷◌, reverse, ℕ, ◌*◌, max, leb, ltb, negsuc, length, Float}
use Rattle.std.specs.Float.{binary32, fin}
use Rattle.std.specs.Float.Ieee.{mul, lt}
use Rattle.basics.specs.Lists.{keep}
use Rattle.distance.specs.Order.{key_of}
use Rattle.distance.specs.Distance.{distance_of}
use Rattle.distance.specs.Vectors.{vector_of}
use Rattle.sorting.specs.Sorting.{sort_by, first_by}
use Rattle.def_walk.specs.declared.Stops.{Stops}
use Rattle.def_walk.specs.Walk.{walk}
use Rattle.def_walk.specs.KeepClosest.{key_at, sooner, insert_in, held_of, cutoff_of}

-- What a walk goes over: n nodes with their lists, which of them are live, and the entry node. A node that is not live is walked through and not
-- scored.
pub record Network : Type 0 where
  pub n : ℕ
  pub list : ℕ → List ℕ
  pub live : ℕ → Bool
  pub entry : ℕ

-- the stop numbers of part 8: the factor is 1.5
abbrev pub usual : Stops
usual = record { factor = fin false 3 (negsuc 0); multiplier = 10 }

-- how far a query is from each node
unfoldable pub far_from : List Float → List (List Float) → ℕ → Float
unfolding distance_of
far_from query vs v = distance_of binary32 query (vector_of vs v)

-- how many nodes a search for k nodes by a beam of ef keeps: b
abbrev pub places_for : ℕ → ℕ → ℕ
places_for ef k = max ef k

-- the frontier's next node is the nearest, the lower one of equally near nodes
unfoldable pub to_frontier : (ℕ → Float) → ℕ → List ℕ → List ℕ
unfolding insert_in sooner
to_frontier far v front = insert_in (sooner far) v front

-- before u is expanded: b are held, and u is farther than the cutoff times the factor, a product rounded once
unfoldable pub too_far : Stops → (ℕ → Float) → ℕ → List ℕ → ℕ → Bool
unfolding held_of cutoff_of
too_far stops far b scored u = leb b (length (held_of far b scored)) && lt (mul binary32 (cutoff_of far b scored) stops.factor) (far u)

-- after u is expanded: more nodes are scored than the multiplier times b
unfoldable pub too_many : Stops → ℕ → List ℕ → Bool
too_many stops b scored = ltb (stops.multiplier * b) (length scored)

-- the nodes seen, latest first, by at most `more` expansions from where a walk stands; for both stops those of them that are live count
abbrev pub walk_from : Stops → Network → (ℕ → Float) → (b more : ℕ) → (seen front : List ℕ) → List ℕ
walk_from stops g far b more seen front =
    walk g.list (to_frontier far) (λ l u. too_far stops far b (keep g.live l) u) (λ l. too_many stops b (keep g.live l)) more seen front

-- from the entry node on: of n nodes, so by n expansions at most
unfoldable pub walked : Stops → Network → (ℕ → Float) → ℕ → List ℕ
unfolding walk keep to_frontier too_far too_many
walked stops g far b = walk_from stops g far b g.n (g.entry ∷ []) (g.entry ∷ [])

-- the nodes scored, in order of scoring: those seen that are live
unfoldable pub beam_search : Stops → Network → (ℕ → Float) → ℕ → List ℕ
unfolding walked keep
beam_search stops g far b = reverse (keep g.live (walked stops g far b))

-- the nearest k of them (all, if fewer), nearest first; of equally near ones the one scored first
unfoldable pub answer_of : (ℕ → Float) → ℕ → List ℕ → List ℕ
unfolding sort_by key_of
answer_of far k scored = first_by (key_at far) k scored
