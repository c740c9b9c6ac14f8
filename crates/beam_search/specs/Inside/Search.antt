-- What a search returns (scope, part 8): the answer of the walk, the distances of its nodes, and two counts. The graph is that of rows and bridges in
-- words; entries that are no node are not in it, so that a search needs no test of the lists. On a well-formed store every entry is a node.
use Rattle.std.specs.Prelude.{◌≡◌, Bool, List, ◌++◌, map, ℕ, ◌*◌, ◌≤◌, ◌<◌, ltb, length, get_or, drop, Float}
use Rattle.basics.specs.Lists.{keep}
use Rattle.basics.specs.Graph.{list_of}
use Rattle.lists.specs.Inside.Words.{row_lists, bridge_list}
use Rattle.neighbours.specs.Inside.Scoring.{far_by}
use Rattle.def_walk.specs.Beam.{Network, beam_search, answer_of}
use Rattle.beam_state.specs.Inside.State.{live_by, pair_of}
use Rattle.beam_search.specs.declared.Reads.{Reads}
use Rattle.beam_search.specs.declared.Walked.{Walked}
use Rattle.sorting.specs.declared.Keyed.{Keyed}

-- the entries below n
abbrev pub within : ℕ → List ℕ → List ℕ
within n vs = keep (λ v. ltb v n) vs

-- the list of node u among n nodes
abbrev pub list_in_words : ℕ → ℕ → List ℕ → List ℕ → ℕ → List ℕ
list_in_words n degree rows bridges u = within n (list_of (row_lists degree rows) (bridge_list bridges) u)

-- the distance of a node, the list of a node, which nodes are live, what is walked over, and the nodes that a walk scores
abbrev pub far_of : Reads → ℕ → Float
far_of reads = far_by reads.scorer

abbrev pub lists_of : Reads → ℕ → List ℕ
lists_of reads = list_in_words reads.sizes.shape.n reads.sizes.shape.degree reads.rows.now reads.bridges.now

abbrev pub live_of : Reads → ℕ → Bool
live_of reads = live_by reads.withdrawn.now

abbrev pub network_of : Reads → Network
network_of reads = record { n = reads.sizes.shape.n; list = lists_of reads; live = live_of reads; entry = reads.sizes.entry.0 }

abbrev pub scored_by : Reads → List ℕ
scored_by reads = beam_search reads.sizes.stops (network_of reads) (far_of reads) reads.sizes.places

-- the sizes fit: bridges between nodes, at most one for each node, and enough words and floats of scratch
pub record SearchFits (n entry : ℕ) (bridges : List ℕ) (answer : List Keyed) (distances : List Float) (words floats : ℕ) : Type 0 where
  pub entry_below : entry < n
  pub few : n ≤ 1024
  pub bridges_few : length bridges ≤ 2 * n
  pub ends_below : (i : ℕ) → i < length bridges → get_or bridges i 0 < n
  pub distances_room : length answer ≤ length distances
  pub words_room : 64 * n ≤ words
  pub floats_room : 16 * n ≤ floats

-- the answer found, of the nodes scored
pub record Searched (far : ℕ → Float) (found scored : List ℕ) (answer answer' : List Keyed) (distances distances' : List Float) (r : Walked) : Type 0 where
  pub count_is : r.count ≡ length found
  pub scored_is : r.scored ≡ length scored
  pub answer_is : answer' ≡ map (pair_of far) found ++ drop (length found) answer
  pub distances_are : distances' ≡ map far found ++ drop (length found) distances

-- where the sizes fit, as many nodes are found as the output has room for
abbrev pub Searching : Reads → List Keyed → List Keyed → List Float → List Float → ℕ → ℕ → Walked → Type 0
Searching reads answer answer' distances distances' words floats r =
    SearchFits reads.sizes.shape.n reads.sizes.entry.0 reads.bridges.now answer distances words floats
    → Searched (far_of reads) (answer_of (far_of reads) (length answer) (scored_by reads)) (scored_by reads)
    answer answer' distances distances' r
