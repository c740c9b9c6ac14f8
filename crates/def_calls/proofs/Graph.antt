-- What the graph of parts 1 to 7 promises for one vector at least: rows that fit, every node reached from the entry node, bridges that are fewer
-- than the nodes and end at two of them. So a search can walk a view with this graph (`Walkable`). Laws on lists hold of any such view, whatever made
-- its graph. Assumes nothing.
use mathlib.Core.Path.{◌≡◌, subst}
use mathlib.Core.List.{List, [], ◌∷◌, Memᴰ as In}
use Prim.Native.Nat.{ℕ, suc, ◌+◌, ◌*◌, ◌≤◌, ◌<◌}
use native.Mathlib.Omega.{arith}
use lib.ListN.{length, get_or}
use lib.Ieee.{Float}
use Rattle.basics.specs.Graph.{list_of}
use Rattle.store.specs.Layout.{built_state}
use Rattle.store.specs.View.{View, list_in}
use Rattle.store.proofs.Reading.{Short}
use Rattle.def_walk.specs.Walk.{Reach}
use Rattle.def_graph.specs.Rows.{Settings, rows_of, entry_of}
use Rattle.def_graph.proofs.graph_rows.Laws.{rows_length, rows_below, rows_short, entry_below}
use Rattle.def_walk.specs.Repair.{ensure_connectivity}
use Rattle.def_walk.specs.Lengths.{total_length}
use Rattle.def_walk.proofs.graph_utils.Bridges.{AllEnds, list_below}
use Rattle.def_walk.proofs.graph_utils.Laws.{repair_reaches_all, repair_ends, repair_few}
use Rattle.def_walk.proofs.graph_utils.Lengths.{lists_total}
use Rattle.def_calls.specs.Graph.{Graph, settings_of, graph_of, graph_for}

pub short_rows : (D : ℕ) (rows : List (List ℕ)) → ((u : ℕ) → length (get_or rows u []) ≤ D) → Short D rows
short_rows D [] h = tt
short_rows D (r ∷ rows) h = (h 0, short_rows D rows (λ u. h (suc u)))

-- a node's list in a graph
abbrev pub list_for : Graph → ℕ → List ℕ
list_for g = list_of g.rows g.bridges

module _ (s : Settings) (vs : List (List Float)) where
  pub graph_many : length (graph_of s vs).rows ≡ length vs
  unfolding graph_of
  graph_many = rows_length s vs

  pub graph_short : Short s.max_degree (graph_of s vs).rows
  unfolding graph_of
  graph_short = short_rows s.max_degree (rows_of s vs) (rows_short s vs)

  module _ (some : 0 < length vs) where
    entry_among : entry_of s vs < length (rows_of s vs)
    entry_among = omega (arith, rows_length s vs, entry_below s vs some)

    entries_among : (u v : ℕ) → In v (get_or (rows_of s vs) u []) → v < length (rows_of s vs)
    entries_among u v m = omega (arith, rows_length s vs, rows_below s vs u v m)

    graph_entry : (graph_of s vs).entry < length vs
    unfolding graph_of
    graph_entry = entry_below s vs some

    graph_reaches_all : (x : ℕ) → x < length vs → Reach (list_for (graph_of s vs)) (graph_of s vs).entry x
    unfolding graph_of
    graph_reaches_all x h = repair_reaches_all (rows_of s vs) (entry_of s vs) vs entry_among entries_among x (omega (arith, rows_length s vs))

    pub graph_few : length (graph_of s vs).bridges < length vs
    unfolding graph_of
    graph_few = omega (arith, rows_length s vs, repair_few (rows_of s vs) (entry_of s vs) vs entry_among entries_among)

    graph_ends : AllEnds (length vs) (graph_of s vs).bridges
    unfolding graph_of
    graph_ends =
        subst (λ (n : ℕ). AllEnds n (ensure_connectivity (rows_of s vs) (entry_of s vs) vs)) (rows_length s vs)
        (repair_ends (rows_of s vs) (entry_of s vs) vs entry_among entries_among)

-- ---- a view that a search can walk, whatever made its graph

pub record Walkable (v : View) : Type 0 where
  pub entry : v.entry < v.n
  -- entries of rows are nodes
  pub below : (u i : ℕ) → In i (get_or v.rows u []) → i < v.n
  -- both ends of a bridge are nodes, and different
  pub ends : AllEnds v.n v.bridges
  pub few : length v.bridges < v.n
  pub reached : (i : ℕ) → i < v.n → Reach (list_in v) v.entry i

module _ (v : View) (g : Walkable v) where
  -- entries of lists are nodes
  pub lists_below : (u i : ℕ) → In i (list_in v u) → i < v.n
  lists_below = list_below v.rows v.n g.below v.bridges g.ends

  -- two entries for each bridge, over all nodes together
  pub lists_grown : total_length v.n (list_in v) ≡ total_length v.n (λ i. get_or v.rows i []) + 2 * length v.bridges
  lists_grown = lists_total v.rows v.n v.bridges g.ends

-- ---- the graph of parts 1 to 7 in a view

-- a store's view with a graph in it
abbrev pub view_with : Graph → View → View
view_with g v = record {
  params = v.params;
  dimension = v.dimension;
  capacity = v.capacity;
  state = built_state;
  n = v.n;
  entry = g.entry;
  docs = v.docs;
  rows = g.rows;
  bridges = g.bridges;
  vectors = v.vectors;
}

pub graph_walkable : (v : View) → length v.vectors ≡ v.n → 0 < v.n → Walkable (view_with (graph_for v) v)
unfolding graph_of
graph_walkable v many some =
    let s : Settings = settings_of v.dimension v.params in
    let one : 0 < length v.vectors = omega arith in
    record {
      entry = omega (arith, graph_entry s v.vectors one);
      below = λ u i m. omega (arith, rows_below s v.vectors u i m);
      ends = subst (λ (n : ℕ). AllEnds n (graph_for v).bridges) many (graph_ends s v.vectors one);
      few = omega (arith, graph_few s v.vectors one);
      reached = λ i h. graph_reaches_all s v.vectors one i (omega arith);
    }
