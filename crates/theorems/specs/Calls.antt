-- The calls of an index, what each leaves, and what is remembered of a list of them (scope, demand 3). Accepted means that 0 is returned.
use Rattle.std.specs.Prelude.{List, [], ◌∷◌, ◌++◌, map, ℕ, zero, suc, T, Float}
use Rattle.std.specs.Float.{binary32, binary64}
use Rattle.std.specs.Float.Ieee.{fits}
use Rattle.params.specs.declared.PipnnParams.{PipnnParams}
use Rattle.norm.specs.Norm.{scaled_of}
use Rattle.pipnn.specs.Answer.{Answer}
use Rattle.pipnn.specs.New.{new_spec}
use Rattle.pipnn.specs.Add.{add_spec}
use Rattle.def_calls.specs.Build.{build_spec}
use Rattle.def_calls.specs.Search.{search_with_ef_spec, search_spec}

-- ---- a call, with all its arguments but the stores

-- the two floats of the parameters are values of their types, f64 and f32
pub record Typed (p : PipnnParams) : Type 0 where
  pub fraction : T (fits binary64 p.leader_fraction)
  pub alpha : T (fits binary32 p.alpha)

-- Of scratch the lengths alone count, ws words and fs floats. `docs` and `distances` are the outputs as the call finds them.
pub data Call : Type 0 where
  new : (dimension : ℕ) (p : PipnnParams) → Typed p → (capacity : ℕ) → Call
  add : (doc : ℕ) (vector : List Float) → Call
  build : (ws fs : ℕ) → Call
  search_with_ef : (ws fs : ℕ) (query : List Float) (k ef : ℕ) (docs : List ℕ) (distances : List Float) → Call
  search : (ws fs : ℕ) (query : List Float) (k : ℕ) (docs : List ℕ) (distances : List Float) → Call

-- the number that it returns, and both stores as it leaves them
unfoldable pub outcome : Call → List ℕ → List Float → Answer
unfolding new_spec add_spec build_spec search_with_ef_spec search_spec
outcome (new d p typed c) w f = new_spec d p c w f
outcome (add doc v) w f = add_spec w f doc v
outcome (build ws fs) w f = build_spec ws fs w f
outcome (search_with_ef ws fs q k ef docs distances) w f = ((search_with_ef_spec ws fs w f q k ef docs distances).number, w, f)
outcome (search ws fs q k docs distances) w f = ((search_spec ws fs w f q k docs distances).number, w, f)

-- ---- what is remembered: the last accepted `new`, the adds accepted since, and whether a build was

-- a node's doc id and its vector as stored, scaled by part 2
pub record Added : Type 0 where
  pub doc : ℕ
  pub vector : List Float

pub record Index : Type 0 where
  pub dimension : ℕ
  pub params : PipnnParams
  pub capacity : ℕ
  pub nodes : List Added

pub data Past : Type 0 where
  nothing : Past
  opened : Index → Past
  built : Index → Past

-- one node more, with its doc id and its vector as stored
abbrev pub with_node : ℕ → List Float → Index → Index
with_node doc v x = record {
  dimension = x.dimension;
  params = x.params;
  capacity = x.capacity;
  nodes = x.nodes ++ (record { doc = doc; vector = v } ∷ []);
}

-- After an accepted call. An add's vector is scaled here, by part 2, and nowhere later. What is accepted before any `new` is not remembered.
unfoldable pub accepted : Call → Past → Past
unfolding scaled_of
accepted (new d p typed c) past = opened (record { dimension = d; params = p; capacity = c; nodes = [] })
accepted (add doc v) nothing = nothing
accepted (add doc v) (opened x) = opened (with_node doc (scaled_of binary32 v) x)
accepted (add doc v) (built x) = built (with_node doc (scaled_of binary32 v) x)
accepted (build ws fs) nothing = nothing
accepted (build ws fs) (opened x) = built x
accepted (build ws fs) (built x) = built x
accepted (search_with_ef ws fs q k ef docs distances) past = past
accepted (search ws fs q k docs distances) past = past

-- after a call that returned this number
unfoldable pub then : Call → ℕ → Past → Past
unfolding accepted
then c zero past = accepted c past
then c (suc refusal) past = past

-- ---- the nodes, 0 up, in order of adding

unfoldable pub vectors_of : Index → List (List Float)
vectors_of x = map (λ (a : Added). a.vector) x.nodes

unfoldable pub docs_of : Index → List ℕ
docs_of x = map (λ (a : Added). a.doc) x.nodes
