-- What a walk over a checked store finds (scope, part 8): nodes or their doc ids, distances, and two counts; and what its steps require of each other.
use Rattle.std.specs.Prelude.{◌≡◌, Bool, ◌&&◌, List, ◌++◌, map, ℕ, ◌*◌, ◌≤◌, min, leb, length, drop, Float}
use Rattle.basics.specs.Refusals.{first_refusal}
use Rattle.store.specs.Layout.{word, built_state, state_at, dimension_at, nodes_at, degree_at, entry_at, bridge_count_at, capacity_at}
use Rattle.store.specs.Layout.{rows_at, row_at, bridges_at, bridge_at}
use Rattle.store.specs.View.{View}
use Rattle.store.specs.Opening.{scratch, opening}
use Rattle.def_walk.specs.declared.Stops.{Stops}
use Rattle.def_walk.specs.Beam.{beam_search, answer_of}
use Rattle.sorting.specs.declared.Keyed.{Keyed}
use Rattle.beam_state.specs.Inside.State.{pair_of}
use Rattle.beam_search.specs.declared.Walked.{Walked}
use Rattle.def_calls.specs.Search.{Reply, far_in, network_in}
use Rattle.finding.specs.declared.Parts.{Parts}

-- ---- what a caller has checked

-- the store is well formed and built, scratch of ws words and fs floats is enough for it, the query has its dimension, and both outputs, of these
-- lengths, have room for the answer
pub record Checked (ws fs : ℕ) (w : List ℕ) (f query : List Float) (k out distances : ℕ) : Type 0 where
  pub opens : first_refusal (opening (scratch ws fs) w f) ≡ 0
  pub built : word w state_at ≡ built_state
  pub components : length query ≡ word w dimension_at
  pub out_room : min k (word w nodes_at) ≤ out
  pub distances_room : min k (word w nodes_at) ≤ distances

-- ---- what is found

-- how many nodes are returned, how many were scored, and both outputs whole, the nodes each with its key
pub record NodesReply : Type 0 where
  pub count : ℕ
  pub scored : ℕ
  pub nodes : List Keyed
  pub distances : List Float

-- the nearest k of the nodes that a walk with this many places scores, at these distances; nothing is written past them
unfoldable pub nodes_by : Stops → (ℕ → Float) → View → ℕ → ℕ → List Keyed → List Float → NodesReply
unfolding beam_search answer_of
nodes_by stops far v k places nodes distances =
    let scored : List ℕ = beam_search stops (network_in v) far places in
    let found : List ℕ = answer_of far k scored in record {
      count = length found;
      scored = length scored;
      nodes = map (pair_of far) found ++ drop (length found) nodes;
      distances = map far found ++ drop (length found) distances;
    }

-- at the distances of a query
unfoldable pub nodes_found : Stops → View → List Float → ℕ → ℕ → List Keyed → List Float → NodesReply
unfolding far_in nodes_by
nodes_found stops v query k places nodes distances = nodes_by stops (far_in v query) v k places nodes distances

-- what is returned and the two outputs: of nodes, and of doc ids, where nothing is refused
abbrev pub nodes_with : Walked → List Keyed → List Float → NodesReply
nodes_with r nodes distances = record { count = r.count; scored = r.scored; nodes = nodes; distances = distances }

abbrev pub docs_with : Walked → List ℕ → List Float → Reply
docs_with r docs distances = record { number = 0; count = r.count; scored = r.scored; docs = docs; distances = distances }

-- ---- the parts of a store

-- where the parts that a walk reads stand in a word store, where the vectors end in its float store, how many nodes an answer can have, and what the
-- header says
pub record PartsIn (w : List ℕ) (k : ℕ) (p : Parts) : Type 0 where
  pub rows_from : p.rows_from ≡ rows_at (word w capacity_at)
  pub rows_to : p.rows_to ≡ row_at (word w capacity_at) (word w degree_at) (word w nodes_at)
  pub bridges_from : p.bridges_from ≡ bridges_at (word w capacity_at) (word w degree_at)
  pub bridges_to : p.bridges_to ≡ bridge_at (word w capacity_at) (word w degree_at) (word w bridge_count_at)
  pub vectors_end : p.vectors_end ≡ word w nodes_at * word w dimension_at
  pub answer : p.answer ≡ min k (word w nodes_at)
  pub n : p.shape.n ≡ word w nodes_at
  pub degree : p.shape.degree ≡ word w degree_at
  pub dimension : p.dimension ≡ word w dimension_at
  pub entry : p.entry.0 ≡ word w entry_at

-- whether the parts lie in stores with this many words and floats, and an answer fits outputs of these lengths
abbrev pub lies_in : Parts → ℕ → ℕ → ℕ → ℕ → Bool
lies_in p words floats nodes distances =
    leb p.rows_from p.rows_to
    && leb p.rows_to words
    && leb p.bridges_from p.bridges_to
    && leb p.bridges_to words
    && leb p.vectors_end floats
    && leb p.answer nodes
    && leb p.answer distances
