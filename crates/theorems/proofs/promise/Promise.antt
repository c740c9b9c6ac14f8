-- Demand 3: the claim holds of every list of calls, on stores of any first content. By induction over the list: what `Made` says between two
-- calls implies what is claimed there, and every call keeps it. Assumes nothing.
use mathlib.Core.Path.{◌≡◌, refl, sym, ap, ◌∙◌, subst}
use mathlib.Core.List.{List, [], ◌∷◌, ◌++◌}
use Prim.Native.Nat.{ℕ, ◌+◌, ◌*◌}
use native.Mathlib.Omega.{arith}
use lib.Ieee.{Float}
use Rattle.basics.specs.Graph.{other_ends, list_of}
use Rattle.params.specs.declared.PipnnParams.{PipnnParams}
use Rattle.store.specs.Layout.{word, ef_search_at}
use Rattle.store.specs.View.{params_of, View, view}
use Rattle.store.proofs.Reading.{bridges_read}
use Rattle.def_graph.proofs.graph_rows.Laws.{rows_short}
use Rattle.def_walk.specs.Lengths.{total_length, longest_length}
use Rattle.def_calls.specs.Graph.{settings_of}
use Rattle.def_calls.specs.Search.{search_with_ef_spec, search_spec}
use Rattle.def_calls.proofs.Taken.{search_replied}
use Rattle.def_calls.proofs.Graph.{lists_grown}
use Rattle.theorems.specs.Calls.{Call, new, add, build, search_with_ef, search, outcome, Index, Past, nothing, opened, built, then, vectors_of}
use Rattle.theorems.specs.Promise.{size, list_now, Graphed, Answered, AnsweredIf, Stands, Told, Claims}
use Rattle.theorems.proofs.promise.Made.{Made, open_state_lem, call_made}
use Rattle.theorems.proofs.promise.Answers.{answered}

-- ---- what is claimed between two calls

graphed : (x : Index) (w : List ℕ) (f : List Float) → Made (built x) w f → Graphed x w f
unfolding view list_of
graphed x w f b =
    let v : View = view w f in
    let nodes : v.n ≡ size x = b.shown.nodes in
    record {
      reached = λ i h. b.graph.reached i (omega (arith, nodes));
      short = rows_short (settings_of x.dimension x.params) (vectors_of x);
      kept = λ i. (other_ends v.bridges i, ap (λ (row : List ℕ). row ++ other_ends v.bridges i) (b.rows i));
      grown = sym (ap (λ (n : ℕ). total_length n (list_now w f)) nodes) ∙ lists_grown v b.graph
          ∙ (λ j. total_length (nodes j) (λ i. b.rows i j) + 2 * bridges_read w f j);
    }

pub stands : (past : Past) (w : List ℕ) (f : List Float) → Made past w f → Stands past w f
stands nothing w f m = tt
stands (opened x) w f m = tt
stands (built x) w f m = graphed x w f m

-- ---- what a search reports

-- the reply to a search with this ef, which may be the store's own
told : (past : Past) (ws fs : ℕ) (w : List ℕ) (f query : List Float) (k : ℕ) (ef : Index → ℕ) (given : ℕ) (docs : List ℕ) (distances : List Float)
    → Made past w f → ((x : Index) → past ≡ built x → given ≡ ef x)
    → AnsweredIf past w f query k ef docs distances (search_with_ef_spec ws fs w f query k given docs distances)
told nothing ws fs w f query k ef given docs distances m same = tt
told (opened x) ws fs w f query k ef given docs distances m same = λ e.
    let t = search_replied ws fs w f query k given docs distances e in
    omega (arith, t.0.built, open_state_lem x w f m)
told (built x) ws fs w f query k ef given docs distances m same = λ e.
    let t = search_replied ws fs w f query k given docs distances e in
    subst (λ (b : ℕ). Answered x query k b (longest_length (size x) (list_now w f)) docs distances (search_with_ef_spec ws fs w f query k given docs distances)) (same x refl)
    (subst (Answered x query k given (longest_length (size x) (list_now w f)) docs distances) (sym t.1)
    (answered query k given docs distances x (view w f) m.shown m.graph))

-- the store's ef_search is that `new`'s
stored_ef : (past : Past) (w : List ℕ) (f : List Float) → Made past w f → (x : Index) → past ≡ built x → word w ef_search_at ≡ x.params.ef_search
unfolding view params_of
stored_ef past w f m x e = ap (λ (p : PipnnParams). p.ef_search) (subst (λ (h : Past). Made h w f) e m).shown.params

pub call_told : (c : Call) (past : Past) (w : List ℕ) (f : List Float) → Made past w f → Told c past w f
unfolding search_spec
call_told (new d p t c) past w f m = tt
call_told (add doc v) past w f m = tt
call_told (build ws fs) past w f m = tt
call_told (search_with_ef ws fs q k ef docs distances) past w f m = told past ws fs w f q k (λ x. ef) ef docs distances m (λ x e. refl)
call_told (search ws fs q k docs distances) past w f m =
    told past ws fs w f q k (λ x. x.params.ef_search) (word w ef_search_at) docs distances m (stored_ef past w f m)

-- ---- the whole list

claims : (calls : List Call) (past : Past) (w : List ℕ) (f : List Float) → Made past w f → Claims calls past w f
claims [] past w f m = stands past w f m
claims (c ∷ calls) past w f m =
    (stands past w f m, call_told c past w f m, claims calls (then c (outcome c w f).0 past) (outcome c w f).1 (outcome c w f).2 (call_made c past w f m))

-- of any list of calls, from a word store and a float store of any content and length
pub demand_3 : (w : List ℕ) (f : List Float) (calls : List Call) → Claims calls nothing w f
demand_3 w f calls = claims calls nothing w f tt
