-- What holds between two calls: after an accepted `new` the store is open and has exactly the nodes added since, and after an accepted build it has
-- these nodes, their lists before repair as rows, and a graph that a search can walk. Each call keeps it, a refused one because it leaves both stores
-- as they were. Assumes nothing.
use mathlib.Core.Path.{◌≡◌, refl, sym, ap, ◌∙◌, subst}
use mathlib.Core.List.{List, [], ◌∷◌, ◌++◌, map-append}
use Prim.Native.Nat.{ℕ, zero, suc, ◌<◌}
use native.Mathlib.Omega.{arith}
use lib.Dec.{eqb, eqb→eq}
use lib.ListN.{length, get_or, length-map}
use lib.Ieee.{Float}
use mir.Facts.{eqb_no, yes_eqb}
use Rattle.basics.specs.Choice.{pick, pick_ind, pick_yes}
use Rattle.basics.specs.Refusals.{first_refusal}
use Rattle.params.specs.declared.PipnnParams.{PipnnParams}
use Rattle.store.specs.Layout.{word, open_state, built_state, state_at, degree_at}
use Rattle.store.specs.View.{params_of, View, view}
use Rattle.store.proofs.Reading.{vectors_read}
use Rattle.def_graph.specs.Rows.{rows_of}
use Rattle.pipnn.specs.Answer.{Answer, unless_refused}
use Rattle.pipnn.specs.New.{new_checks, new_words, new_floats, new_spec}
use Rattle.pipnn.specs.Add.{add_checks, added_words, added_floats, add_spec}
use Rattle.pipnn.proofs.NewLaws.{new_taken}
use Rattle.pipnn.proofs.AddLaws.{add_taken}
use Rattle.pipnn.proofs.Views.{Floats}
use Rattle.pipnn.proofs.Open.{OpenStore, new_open, add_open}
use Rattle.def_calls.specs.Graph.{settings_of, graph_of, graph_for}
use Rattle.def_calls.specs.Build.{build_checks, built_words, build_spec}
use Rattle.def_calls.specs.Search.{search_with_ef_spec, search_spec}
use Rattle.def_calls.proofs.Taken.{BuildTaken, build_taken}
use Rattle.def_calls.proofs.Graph.{Walkable, view_with, graph_walkable}
use Rattle.def_calls.proofs.Views.{build_view}
use Rattle.theorems.specs.Calls.{Typed, Call, new, add, build, search_with_ef, search, outcome, Added, Index, Past, nothing, opened, built, with_node, accepted, then, vectors_of, docs_of}
use Rattle.theorems.specs.Promise.{size, list_before}

-- ---- the invariant

-- what a view shows of an index, open or built
pub record Shown (x : Index) (v : View) : Type 0 where
  pub params : v.params ≡ x.params
  pub dimension : v.dimension ≡ x.dimension
  pub capacity : v.capacity ≡ x.capacity
  pub nodes : v.n ≡ size x
  pub docs : v.docs ≡ docs_of x
  pub vectors : v.vectors ≡ vectors_of x

-- A built store, by its view. Which entry node and which bridges it has is not said: a search can walk it.
pub record BuiltStore (x : Index) (v : View) : Type 0 where
  pub shown : Shown x v
  pub state : v.state ≡ built_state
  -- a node's row is its list before repair
  pub rows : (i : ℕ) → get_or v.rows i [] ≡ list_before x i
  pub graph : Walkable v

abbrev pub Made : Past → List ℕ → List Float → Type 0
Made nothing w f = Unit
Made (opened x) w f = OpenStore x.dimension x.params x.capacity (docs_of x) (vectors_of x) w f
Made (built x) w f = BuiltStore x (view w f)

-- an open store's doc ids are as many as its nodes
many_docs : (x : Index) → length (docs_of x) ≡ size x
unfolding docs_of
many_docs x = length-map x.nodes (λ (a : Added). a.doc)

pub open_shown : (x : Index) (w : List ℕ) (f : List Float) → Made (opened x) w f → Shown x (view w f)
open_shown x w f o = record {
  params = ap (λ (v : View). v.params) o.is;
  dimension = ap (λ (v : View). v.dimension) o.is;
  capacity = ap (λ (v : View). v.capacity) o.is;
  nodes = ap (λ (v : View). v.n) o.is ∙ many_docs x;
  docs = ap (λ (v : View). v.docs) o.is;
  vectors = ap (λ (v : View). v.vectors) o.is;
}

pub shown_degree : (x : Index) (w : List ℕ) (f : List Float) → Shown x (view w f) → word w degree_at ≡ x.params.max_degree
unfolding view params_of
shown_degree x w f h = ap (λ (p : PipnnParams). p.max_degree) h.params

pub open_state_lem : (x : Index) (w : List ℕ) (f : List Float) → Made (opened x) w f → word w state_at ≡ open_state
unfolding view
open_state_lem x w f o = ap (λ (v : View). v.state) o.is

pub built_state_lem : (x : Index) (w : List ℕ) (f : List Float) → Made (built x) w f → word w state_at ≡ built_state
unfolding view
built_state_lem x w f b = b.state

-- ---- a call that changes the stores, accepted or refused

then-refused : (c : Call) (r : ℕ) (past : Past) → (r ≡ 0 → ⊥) → then c r past ≡ past
unfolding then
then-refused c zero past n = absurd (n refl)
then-refused c (suc r) past n = refl

-- what is kept between calls, P, is kept by such a call if an accepted one keeps it
pub changes : (P : Past → List ℕ → List Float → Type 0) (c : Call) (past : Past) (r : ℕ) (w : List ℕ) (f : List Float) (words : List ℕ) (floats : List Float)
    → P past w f → (r ≡ 0 → P (accepted c past) words floats)
    → P (then c (unless_refused r w f words floats).0 past) (unless_refused r w f words floats).1 (unless_refused r w f words floats).2
unfolding unless_refused then
changes P c past r w f words floats m taken =
    pick_ind (λ (a : Answer). P (then c a.0 past) a.1 a.2) (eqb r 0) (λ t. taken (eqb→eq r 0 t))
    (λ t. subst (λ (h : Past). P h w f) (sym (then-refused c r past (eqb_no t))) m)

-- a search changes nothing
pub same_past : (c : Call) (r : ℕ) (past : Past) → accepted c past ≡ past → then c r past ≡ past
unfolding then
same_past c zero past e = e
same_past c (suc r) past e = refl

-- ---- `new`

floats_of : (p : PipnnParams) → Typed p → Floats p
floats_of p t = record { fraction = t.fraction; alpha = t.alpha }

new_made : (d : ℕ) (p : PipnnParams) (t : Typed p) (c : ℕ) (past : Past) (w : List ℕ) (f : List Float) → first_refusal (new_checks d p c w f) ≡ 0
    → Made (accepted (new d p t c) past) (new_words d p c w f) (new_floats d p c w f)
unfolding accepted docs_of vectors_of
new_made d p t c past w f e = new_open d p c w f (new_taken d p c w f e) (floats_of p t)

-- ---- add

-- one node more
docs_with_lem : (x : Index) (doc : ℕ) (u : List Float) → docs_of (with_node doc u x) ≡ docs_of x ++ (doc ∷ [])
unfolding docs_of
docs_with_lem x doc u = map-append (λ (a : Added). a.doc) x.nodes (record { doc = doc; vector = u } ∷ [])

pub vectors_with : (x : Index) (doc : ℕ) (u : List Float) → vectors_of (with_node doc u x) ≡ vectors_of x ++ (u ∷ [])
unfolding vectors_of
vectors_with x doc u = map-append (λ (a : Added). a.vector) x.nodes (record { doc = doc; vector = u } ∷ [])

add_made : (doc : ℕ) (v : List Float) (past : Past) (w : List ℕ) (f : List Float) → Made past w f → first_refusal (add_checks w f v) ≡ 0
    → Made (accepted (add doc v) past) (added_words w doc) (added_floats w f v)
unfolding accepted
add_made doc v nothing w f m e = tt
add_made doc v (opened x) w f m e =
    rw (docs_with_lem, vectors_with) (add_open x.dimension x.params x.capacity (docs_of x) (vectors_of x) w f doc v (add_taken w f v e) m)
add_made doc v (built x) w f m e = absurd ((add_taken w f v e).state (built_state_lem x w f m))

-- ---- build

-- the graph of parts 1 to 7, in a view that shows an index
graph_built : (x : Index) (v : View) → Shown x v → length v.vectors ≡ v.n → 0 < v.n → BuiltStore x (view_with (graph_for v) v)
unfolding graph_of
graph_built x v h many some = record {
  shown = record { params = h.params; dimension = h.dimension; capacity = h.capacity; nodes = h.nodes; docs = h.docs; vectors = h.vectors };
  state = refl;
  rows = λ i j. get_or (rows_of (settings_of (h.dimension j) (h.params j)) (h.vectors j)) i [];
  graph = graph_walkable v many some;
}

-- an open store, built
build_open : (ws fs : ℕ) (x : Index) (w : List ℕ) (f : List Float) → Made (opened x) w f → BuildTaken ws fs w f
    → Made (built x) (built_words (graph_for (view w f)) w) f
unfolding view
build_open ws fs x w f o t =
    subst (BuiltStore x) (sym (build_view ws fs w f t)) (graph_built x (view w f) (open_shown x w f o) (vectors_read w f) t.some)

build_made : (ws fs : ℕ) (past : Past) (w : List ℕ) (f : List Float) → Made past w f → first_refusal (build_checks ws fs w f) ≡ 0
    → Made (accepted (build ws fs) past) (pick (eqb (word w state_at) built_state) w (built_words (graph_for (view w f)) w)) f
unfolding accepted
build_made ws fs nothing w f m e = tt
build_made ws fs (opened x) w f m e =
    pick_ind (λ (words : List ℕ). Made (built x) words f) (eqb (word w state_at) built_state)
    (λ t. absurd (let s = open_state_lem x w f m in let s' = eqb→eq (word w state_at) built_state t in omega arith))
    (λ _. build_open ws fs x w f m (build_taken ws fs w f e))
build_made ws fs (built x) w f m e =
    subst (λ (words : List ℕ). Made (built x) words f)
    (sym (pick_yes (eqb (word w state_at) built_state) w (built_words (graph_for (view w f)) w) (yes_eqb (built_state_lem x w f m)))) m

-- ---- any call

pub call_made : (c : Call) (past : Past) (w : List ℕ) (f : List Float) → Made past w f
    → Made (then c (outcome c w f).0 past) (outcome c w f).1 (outcome c w f).2
unfolding outcome new_spec add_spec build_spec accepted
call_made (new d p t c) past w f m = changes Made (new d p t c) past (first_refusal (new_checks d p c w f)) w f _ _ m (new_made d p t c past w f)
call_made (add doc v) past w f m = changes Made (add doc v) past (first_refusal (add_checks w f v)) w f _ _ m (add_made doc v past w f m)
call_made (build ws fs) past w f m = changes Made (build ws fs) past (first_refusal (build_checks ws fs w f)) w f _ f m (build_made ws fs past w f m)
call_made (search_with_ef ws fs q k ef docs distances) past w f m =
    subst (λ (h : Past). Made h w f) (sym (same_past (search_with_ef ws fs q k ef docs distances) (search_with_ef_spec ws fs w f q k ef docs distances).number past refl)) m
call_made (search ws fs q k docs distances) past w f m =
    subst (λ (h : Past). Made h w f) (sym (same_past (search ws fs q k docs distances) (search_spec ws fs w f q k docs distances).number past refl)) m
