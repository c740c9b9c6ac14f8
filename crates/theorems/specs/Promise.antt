-- Demand 3 of the scope: no stored node can be lost to search. One claim about a whole list of calls, `Claims`, over the definitions that the calls
-- are proved equal to.
use Rattle.std.specs.Prelude.{◌≡◌, false, ℕ, ◌+◌, ◌*◌, ◌≤◌, ◌<◌, min, max, length, get_or, drop, Float}
use mathlib.Core.List.{List, [], ◌∷◌, ◌++◌, map, Memᴰ as In}
use Rattle.std.specs.Float.{binary32}
use Rattle.basics.specs.Nodes.{NoDup, Below}
use Rattle.distance.specs.Order.{before}
use Rattle.norm.specs.Norm.{scaled_of}
use Rattle.def_walk.specs.Walk.{Reach}
use Rattle.store.specs.Layout.{word, entry_at, bridge_count_at}
use Rattle.store.specs.View.{view, list_in}
use Rattle.def_graph.specs.Rows.{rows_of}
use Rattle.def_walk.specs.Lengths.{total_length, longest_length}
use Rattle.def_walk.specs.Beam.{far_from, places_for}
use Rattle.def_calls.specs.Graph.{settings_of}
use Rattle.def_calls.specs.Search.{Reply, search_with_ef_spec, search_spec}
use Rattle.theorems.specs.Calls.{Call, new, add, build, search_with_ef, search, outcome, Index, Past, nothing, opened, built, then, vectors_of, docs_of}

-- ---- words of the claim

-- n, the adds accepted since the last accepted `new`
abbrev pub size : Index → ℕ
size x = length x.nodes

-- a node's list before repair: what parts 1 to 6 make of these nodes and that `new`'s parameters
abbrev pub list_before : Index → ℕ → List ℕ
list_before x i = get_or (rows_of (settings_of x.dimension x.params) (vectors_of x)) i []

-- a node's list in the stores: its row, then the other ends of its bridges
abbrev pub list_now : List ℕ → List Float → ℕ → List ℕ
list_now w f = list_in (view w f)

-- a node's distance: part 1's between its vector and the query, each scaled by part 2
abbrev pub far_of : Index → List Float → ℕ → Float
far_of x query = far_from (scaled_of binary32 query) (vectors_of x)

-- y does not stand before x in part 1's order
abbrev pub NotBefore : Float → Float → Type 0
NotBefore y x = before y x ≡ false

abbrev pub Nondecreasing : (ℕ → Float) → List ℕ → Type 0
Nondecreasing far [] = Unit
Nondecreasing far (i ∷ is) = ((j : ℕ) → In j is → NotBefore (far j) (far i)) × Nondecreasing far is

-- ---- what stands in the stores after an accepted build

pub record Graphed (x : Index) (w : List ℕ) (f : List Float) : Type 0 where
  -- every node is reached from the entry node, word 9, along out-edges
  pub reached : (i : ℕ) → i < size x → Reach (list_now w f) (word w entry_at) i
  -- a list before repair has at most D entries
  pub short : (i : ℕ) → length (list_before x i) ≤ x.params.max_degree
  -- and is kept: the node's list starts with it
  pub kept : (i : ℕ) → (more : List ℕ) × (list_now w f i ≡ list_before x i ++ more)
  -- together the lists are longer than before repair by two entries for each bridge counted, word 10
  pub grown : total_length (size x) (list_now w f) ≡ total_length (size x) (list_before x) + 2 * word w bridge_count_at

-- ---- what an accepted search reports: b is max(ef, k), and L the longest list's length

pub record Answered (x : Index) (query : List Float) (k ef L : ℕ) (docs : List ℕ) (distances : List Float) (reply : Reply) : Type 0 where
  -- the answer's nodes: different nodes, exactly min(k, n)
  pub nodes : List ℕ
  pub different : NoDup nodes
  pub inside : Below (size x) nodes
  pub exactly : length nodes ≡ min k (size x)
  -- their number is returned, and their doc ids and distances are written, in order; what is past them in the outputs stays
  pub count : reply.count ≡ length nodes
  pub docs_written : reply.docs ≡ map (λ i. get_or (docs_of x) i 0) nodes ++ drop (length nodes) docs
  pub distances_written : reply.distances ≡ map (far_of x query) nodes ++ drop (length nodes) distances
  -- nearest first
  pub in_order : Nondecreasing (far_of x query) nodes
  -- the scored count
  pub scored_least : min (size x) (places_for ef k) ≤ reply.scored
  pub scored_most : reply.scored ≤ min (size x) (max 1 (10 * places_for ef k) + L)
  -- with b ≥ n nothing left out is nearer than anything returned
  pub nothing_missed : size x ≤ places_for ef k → (i j : ℕ) → In i nodes → j < size x → (In j nodes → ⊥) → NotBefore (far_of x query j) (far_of x query i)

-- ---- the claim

-- between two calls
abbrev pub Stands : Past → List ℕ → List Float → Type 0
Stands nothing w f = Unit
Stands (opened x) w f = Unit
Stands (built x) w f = Graphed x w f

-- of a search's reply: it is accepted only after a build, and then so answered
abbrev pub AnsweredIf : Past → List ℕ → List Float → List Float → ℕ → (Index → ℕ) → List ℕ → List Float → Reply → Type 0
AnsweredIf nothing w f query k ef docs distances reply = Unit
AnsweredIf (opened x) w f query k ef docs distances reply = reply.number ≡ 0 → ⊥
AnsweredIf (built x) w f query k ef docs distances reply =
    reply.number ≡ 0 → Answered x query k (ef x) (longest_length (size x) (list_now w f)) docs distances reply

-- of one call; `search` has that `new`'s ef_search
abbrev pub Told : Call → Past → List ℕ → List Float → Type 0
Told (new d p typed c) past w f = Unit
Told (add doc v) past w f = Unit
Told (build ws fs) past w f = Unit
Told (search_with_ef ws fs q k ef docs distances) past w f =
    AnsweredIf past w f q k (λ x. ef) docs distances (search_with_ef_spec ws fs w f q k ef docs distances)
Told (search ws fs q k docs distances) past w f =
    AnsweredIf past w f q k (λ x. x.params.ef_search) docs distances (search_spec ws fs w f q k docs distances)

-- of a list of calls: each call gets both stores as the call before left them
abbrev pub Claims : List Call → Past → List ℕ → List Float → Type 0
Claims [] past w f = Stands past w f
Claims (c ∷ calls) past w f =
    Stands past w f × Told c past w f × Claims calls (then c (outcome c w f).0 past) (outcome c w f).1 (outcome c w f).2
