-- `search_with_ef` and `search` (scope, part 8 and Refusals): the first k of what the walk scored (all, if fewer), as doc ids and distances in the
-- two outputs, with their number and the scored count. The stores stay as they are.
use Rattle.std.specs.Prelude.{Bool, true, not, ◌||◌, List, [], ◌∷◌, ◌++◌, map, ℕ, min, eqb, length, get_or, drop, Float}
use Rattle.std.proofs.Math.Dec.{ltb}
use Rattle.std.specs.Float.{binary32}
use Rattle.std.specs.Float.Ieee.Scale.{finite}
use Rattle.basics.specs.Choice.{pick}
use Rattle.basics.specs.Lists.{every}
use Rattle.basics.specs.Graph.{list_of}
use Rattle.basics.specs.Refusals.{Check, check, first_refusal}
use Rattle.error.specs.Numbers.{dimension_mismatch, non_finite_input, not_built, k_or_ef_too_large, output_too_short}
use Rattle.norm.specs.Norm.{scaled_of}
use Rattle.store.specs.Layout.{word, built_state, state_at, dimension_at, nodes_at, ef_search_at}
use Rattle.store.specs.View.{View, view, list_in}
use Rattle.store.specs.Opening.{scratch, opening}
use Rattle.def_walk.specs.declared.Stops.{Stops}
use Rattle.def_walk.specs.Beam.{Network, usual, far_from, places_for, beam_search, answer_of}

-- ---- its checks: 3, 4, 3 with scratch, 4, then 10, 6, 7, 11, 12

-- the limits of k and ef
abbrev pub most_nodes : ℕ
most_nodes = 1024

abbrev pub most_beam : ℕ
most_beam = 1024

-- what is asked, of whatever is written: 10, 6, 7, 11. Recognising begins with these too.
abbrev pub asking_checks : List ℕ → List Float → ℕ → ℕ → List Check
asking_checks w query k ef =
    check (not (eqb (word w state_at) built_state)) not_built
    ∷ check (not (eqb (length query) (word w dimension_at))) dimension_mismatch
    ∷ check (not (every finite query)) non_finite_input
    ∷ check (ltb most_nodes k || ltb most_beam ef) k_or_ef_too_large
    ∷ []

module _ (w : List ℕ) (query : List Float) (k ef : ℕ) (docs : List ℕ) (distances : List Float) where
  -- then the room of the two outputs, 12
  unfoldable pub own_search_checks : List Check
  unfolding every
  own_search_checks =
      asking_checks w query k ef
      ++ (check (ltb (length docs) (min k (word w nodes_at)) || ltb (length distances) (min k (word w nodes_at))) output_too_short ∷ [])

  -- scratch of ws words and fs floats is passed in
  unfoldable pub search_checks : (ws fs : ℕ) → List Float → List Check
  unfolding opening own_search_checks
  search_checks ws fs f = opening (scratch ws fs) w f ++ own_search_checks

-- ---- what it finds

-- a query's distance to each node of a store
unfoldable pub far_in : View → List Float → ℕ → Float
unfolding far_from scaled_of
far_in v query = far_from (scaled_of binary32 query) v.vectors

-- which nodes of a store are live: every one
abbrev pub live_in : View → ℕ → Bool
live_in v i = true

-- what a search of a store walks over
abbrev pub network_in : View → Network
network_in v = record { n = v.n; list = list_in v; live = live_in v; entry = v.entry }

-- the nodes scored, in order
unfoldable pub scored_in : Stops → View → List Float → ℕ → ℕ → List ℕ
unfolding beam_search list_of far_in
scored_in stops v query k ef = beam_search stops (network_in v) (far_in v query) (places_for ef k)

-- the nodes of the answer
unfoldable pub found_in : Stops → View → List Float → ℕ → ℕ → List ℕ
unfolding answer_of far_in scored_in
found_in stops v query k ef = answer_of (far_in v query) k (scored_in stops v query k ef)

-- ---- what it leaves: its number, how many nodes it returns and how many it scored, both outputs whole

pub record Reply : Type 0 where
  pub number : ℕ
  pub count : ℕ
  pub scored : ℕ
  pub docs : List ℕ
  pub distances : List Float

-- a refusal returns counts 0 and writes nothing
abbrev pub refused : ℕ → List ℕ → List Float → Reply
refused refusal docs distances = record { number = refusal; count = 0; scored = 0; docs = docs; distances = distances }

-- nothing is written past the answer
unfoldable pub reply_of : Stops → View → List Float → ℕ → ℕ → List ℕ → List Float → Reply
unfolding far_in scored_in found_in
reply_of stops v query k ef docs distances =
    let found : List ℕ = found_in stops v query k ef in record {
      number = 0;
      count = length found;
      scored = length (scored_in stops v query k ef);
      docs = map (λ i. get_or v.docs i 0) found ++ drop (length found) docs;
      distances = map (far_in v query) found ++ drop (length found) distances;
    }

unfoldable pub search_with_ef_spec : (ws fs : ℕ) → List ℕ → List Float → List Float → ℕ → ℕ → List ℕ → List Float → Reply
unfolding pick first_refusal search_checks reply_of view
search_with_ef_spec ws fs w f query k ef docs distances =
    let refusal : ℕ = first_refusal (search_checks w query k ef docs distances ws fs f) in
    let reply : Reply = reply_of usual (view w f) query k ef docs distances in
    pick (eqb refusal 0) reply (refused refusal docs distances)

-- with the store's ef_search
unfoldable pub search_spec : (ws fs : ℕ) → List ℕ → List Float → List Float → ℕ → List ℕ → List Float → Reply
unfolding search_with_ef_spec
search_spec ws fs w f query k docs distances = search_with_ef_spec ws fs w f query k (word w ef_search_at) docs distances
