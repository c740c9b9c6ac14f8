-- The candidates of a position (scope, part 5; `build_leaf`): the other positions of the leaf are offered in their order, each with the key of its
-- distance, and the first few are kept. The distance of place j stands at 8 · j + lane.
use Rattle.std.specs.Prelude.{◌≡◌, List, [], ◌∷◌, ◌++◌, map, ℕ, zero, suc, ◌+◌, ◌-◌, ◌*◌, ◌≤◌, ◌<◌, length, get_or, take, Float}
use Rattle.std.specs.Float.{binary32, nan}
use Rattle.simd.specs.Inside.Eight.{lane_of}
use Rattle.distance.specs.Order.{key_of}
use Rattle.sorting.specs.Sorting.{first_by}
use Rattle.sorting.specs.Inside.Pairs.{key_in}
use Rattle.sorting.specs.declared.Keyed.{Keyed}
use Rattle.hashprune.specs.declared.Candidate.{Candidate}
use Rattle.hashprune.specs.Inside.Hashprune.{node_of, far_of}
use Rattle.distance.specs.Vectors.{between}
use Rattle.def_graph.specs.Leaf.{candidates_at}
use Rattle.build_leaf.specs.declared.leaf_candidates.Place.{Place}

-- how many places its leaf has, the node of one of them, and how far that is
abbrev pub size_of : Place → ℕ
size_of p = length p.nodes.now

abbrev pub node_in : Place → ℕ → ℕ
node_in p j = get_or p.nodes.now j 0

abbrev pub far_in_lane : Place → ℕ → Float
far_in_lane p j = get_or p.floats.now (8 * j + p.lane) nan

-- k places from place a on
unfoldable pub places_from : ℕ → ℕ → List ℕ
places_from a zero = []
places_from a (suc k) = places_from a k ++ ((a + k) ∷ [])

-- a place as it is offered
abbrev pub offer : Place → ℕ → Keyed
offer p j = record { key = key_of binary32 (far_in_lane p j); id = j }

-- all places but the place itself
abbrev pub other_places : Place → List ℕ
other_places p = places_from 0 p.i ++ places_from (p.i + 1) (size_of p - (p.i + 1))

-- the place is one of its leaf, the distances of all stand in its lane, and places are numbers of a word
pub record LanesSized (p : Place) : Type 0 where
  pub place_is : p.i < size_of p
  pub lane_is : p.lane < 8
  pub floats_fit : 8 * size_of p ≤ length p.floats.now
  pub size_most : size_of p ≤ 4294967295

-- if the pairs held were the first of those offered before, those held now are the first of these and of k places more
pub record Offered (p : Place) (from k : ℕ) (pairs : List Keyed) (held : ℕ) (pairs' : List Keyed) (r : ℕ) : Type 0 where
  pub few : held ≤ length pairs → r ≤ length pairs
  pub first : (before : List Keyed) → take held pairs ≡ first_by key_in (length pairs) before
      → take r pairs' ≡ first_by key_in (length pairs) (before ++ map (offer p) (places_from from k))

-- the pairs held are the first of all other places
pub record NearestPlaces (p : Place) (r : ℕ) (pairs : List Keyed) : Type 0 where
  pub few : r ≤ length pairs
  pub first : take r pairs ≡ first_by key_in (length pairs) (map (offer p) (other_places p))

-- the candidate that is at a pair's place
abbrev pub candidate_in : Place → Keyed → Candidate
candidate_in p pair = record { node = record { 0 = node_in p pair.id }; far = far_in_lane p pair.id }

-- the nodes of some places, and their distances
abbrev pub NodesAt : Place → List Keyed → List Candidate → Type 0
NodesAt p pairs candidates = candidates ≡ map (candidate_in p) pairs

-- sizes that fit: the place and the degree
pub record LaneFits (p : Place) (D : ℕ) : Type 0 where
  pub lanes : LanesSized p
  pub degree_most : D ≤ 32

-- what has to be there: sizes that fit, and the place's distances in its lane
pub record LaneReady (p : Place) (D : ℕ) (vs : List (List Float)) : Type 0 where
  pub sizes : LaneFits p D
  pub distances : lane_of p.floats.now p.lane (size_of p) ≡ map (between vs (node_in p p.i)) p.nodes.now

-- the candidates and their distances
pub record CandidatesAre (p : Place) (D : ℕ) (vs : List (List Float)) (candidates : List Candidate) : Type 0 where
  pub nodes : map node_of candidates ≡ candidates_at D vs p.nodes.now p.i
  pub fars : map far_of candidates ≡ map (between vs (node_in p p.i)) (candidates_at D vs p.nodes.now p.i)

pub record Candidates (p : Place) (D : ℕ) (candidates : List Candidate) : Type 0 where
  pub few : length candidates ≤ 64
  -- none where the sizes do not fit
  pub none : (LaneFits p D → ⊥) → candidates ≡ []
  pub are : (vs : List (List Float)) → LaneReady p D vs → CandidatesAre p D vs candidates
