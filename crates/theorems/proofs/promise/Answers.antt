-- What a search reports of any view that can be walked and shows an index. The view is the same with the nodes remembered in it, and there the walk's
-- laws say all that is claimed. Assumes nothing.
use mathlib.Core.Path.{◌≡◌, refl, sym, subst}
use mathlib.Core.List.{List}
use Prim.Native.Nat.{ℕ}
use native.Mathlib.Omega.{arith}
use lib.ListN.{length}
use lib.Ieee.{Float, binary32}
use Rattle.norm.specs.Norm.{scaled_of}
use Rattle.store.specs.View.{View, list_in}
use Rattle.def_walk.specs.Lengths.{longest_length}
use Rattle.def_walk.specs.Beam.{usual, places_for}
use Rattle.def_walk.proofs.graph_utils.Lengths.{max_least}
use Rattle.def_walk.proofs.beam.Laws.{alive, Found, search_found}
use Rattle.def_walk.proofs.beam.Distances.{not_before}
use Rattle.def_calls.specs.Search.{far_in, network_in, scored_in, found_in, reply_of}
use Rattle.def_calls.proofs.AllLive.{alive_in}
use Rattle.def_calls.proofs.Graph.{Walkable, lists_below}
use Rattle.theorems.specs.Calls.{Index, vectors_of, docs_of}
use Rattle.theorems.specs.Promise.{size, Answered}
use Rattle.theorems.proofs.promise.Order.{nondecreasing}
use Rattle.theorems.proofs.promise.Made.{Shown}

-- v with these nodes
abbrev with_nodes : View → ℕ → List ℕ → List (List Float) → View
with_nodes v n docs vectors = record {
  params = v.params;
  dimension = v.dimension;
  capacity = v.capacity;
  state = v.state;
  n = n;
  entry = v.entry;
  docs = docs;
  rows = v.rows;
  bridges = v.bridges;
  vectors = vectors;
}

-- v with the nodes remembered
abbrev with_nodes_of : Index → View → View
with_nodes_of x v = with_nodes v (size x) (docs_of x) (vectors_of x)

same : (x : Index) (v : View) → Shown x v → v ≡ with_nodes_of x v
same x v h = λ i. with_nodes v (h.nodes i) (h.docs i) (h.vectors i)

module _ (query : List Float) (k ef : ℕ) where
  found : (v : View) → Walkable v
      → Found usual (network_in v) (longest_length v.n (list_in v)) k (places_for ef k) (far_in v query) (scored_in usual v query k ef) (found_in usual v query k ef)
  unfolding scored_in found_in
  found v g =
      search_found usual (omega arith) (network_in v) g.entry (lists_below v g) g.reached (far_in v query) (longest_length v.n (list_in v))
      (max_least v.n (λ i. length (list_in v i))) k ef

  module _ (docs : List ℕ) (distances : List Float) (x : Index) where
    abbrev AnsweredIn : View → Type 0
    AnsweredIn v = Answered x query k ef (longest_length (size x) (list_in v)) docs distances (reply_of usual v query k ef docs distances)

    remembered : (v : View) → Walkable (with_nodes_of x v) → AnsweredIn (with_nodes_of x v)
    unfolding reply_of far_in
    remembered v g =
        let nodes : List ℕ = found_in usual (with_nodes_of x v) query k ef in
        let all = found (with_nodes_of x v) g in
        let live : alive (network_in (with_nodes_of x v)) ≡ size x = alive_in (with_nodes_of x v) in record {
          nodes = nodes;
          different = all.distinct;
          inside = all.inside;
          exactly = omega (arith, all.many);
          count = refl;
          docs_written = refl;
          distances_written = refl;
          in_order = nondecreasing (scaled_of binary32 query) (vectors_of x) nodes all.rising;
          scored_least = omega (arith, all.low);
          scored_most = omega (arith, all.high);
          nothing_missed = λ h i j m l out. not_before (scaled_of binary32 query) (vectors_of x) i j (all.nearest (omega arith) i j m l tt out);
        }

    pub answered : (v : View) → Shown x v → Walkable v → AnsweredIn v
    answered v h g =
        let e : v ≡ with_nodes_of x v = same x v h in
        subst AnsweredIn (sym e) (remembered v (subst Walkable e g))
