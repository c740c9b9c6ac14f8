-- The calls that C makes on a store (include/pipnn.h), each with its function's arguments but the stores, what it leaves, and what is remembered of
-- a list of them. A further call is a constructor and a clause in `c_outcome` and `c_then`.
use Rattle.std.specs.Prelude.{List, ℕ, Float}
use Rattle.params.specs.declared.PipnnParams.{PipnnParams}
use Rattle.pipnn.specs.Answer.{Answer}
use Rattle.pipnn.specs.Add.{add_spec}
use Rattle.def_calls.specs.Build.{build_spec}
use Rattle.def_calls.specs.Search.{search_with_ef_spec, search_spec}
use Rattle.recognise.specs.Recognise.{recognise_spec}
use Rattle.theorems.specs.Calls.{Typed, new, add, build, Past, then}
use Rattle.drintelbok.specs.declared.PipnnRecognised.{PipnnRecognised}
use Rattle.drintelbok.specs.New.{params_from, new_from}
use Rattle.drintelbok.specs.Given.{recognised_with}

-- ---- a C call

-- the eight parameters of `pipnn_new`, in C's order
pub record CParams : Type 0 where
  pub max_leaf_size : ℕ
  pub min_leaf_size : ℕ
  pub leader_fraction : Float
  pub max_degree : ℕ
  pub num_hash_bits : ℕ
  pub final_prune : ℕ
  pub alpha : Float
  pub ef_search : ℕ

-- as `PipnnParams`, where final_prune is set if it is 1
abbrev pub params_given : CParams → PipnnParams
params_given g =
    params_from g.max_leaf_size g.min_leaf_size g.leader_fraction g.max_degree g.num_hash_bits g.final_prune g.alpha g.ef_search

-- Of scratch the lengths alone count, ws words and fs floats. `docs` and `distances` are the outputs as the call finds them. The two floats of
-- `pipnn_new` are values of their types.
pub data CCall : Type 0 where
  pipnn_new : (dimension : ℕ) (g : CParams) → Typed (params_given g) → (capacity : ℕ) → CCall
  pipnn_add : (doc : ℕ) (vector : List Float) → CCall
  pipnn_build : (ws fs : ℕ) → CCall
  pipnn_search_with_ef : (ws fs : ℕ) (query : List Float) (k ef : ℕ) (docs : List ℕ) (distances : List Float) → CCall
  pipnn_search : (ws fs : ℕ) (query : List Float) (k : ℕ) (docs : List ℕ) (distances : List Float) → CCall
  pipnn_recognise : (ws fs : ℕ) (query : List Float) (ef : ℕ) (limit : Float) → CCall

-- ---- what it leaves

-- the struct that recognising returns
abbrev pub recognised : (ws fs : ℕ) → List ℕ → List Float → List Float → ℕ → Float → PipnnRecognised
recognised ws fs w f query ef limit = recognised_with (recognise_spec ws fs w f query ef limit)

-- the number that it returns, and both stores as it leaves them: the right sides of the C functions' contracts
unfoldable pub c_outcome : CCall → List ℕ → List Float → Answer
unfolding new_from add_spec build_spec search_with_ef_spec search_spec recognise_spec recognised_with
c_outcome (pipnn_new d g typed c) w f = new_from d g.final_prune (params_given g) c w f
c_outcome (pipnn_add doc v) w f = add_spec w f doc v
c_outcome (pipnn_build ws fs) w f = build_spec ws fs w f
c_outcome (pipnn_search_with_ef ws fs q k ef docs distances) w f = ((search_with_ef_spec ws fs w f q k ef docs distances).number, w, f)
c_outcome (pipnn_search ws fs q k docs distances) w f = ((search_spec ws fs w f q k docs distances).number, w, f)
c_outcome (pipnn_recognise ws fs q ef limit) w f = ((recognised ws fs w f q ef limit).number, w, f)

-- ---- what is remembered after a call that returned this number: as after the call behind it, and a call that only reads changes nothing

unfoldable pub c_then : CCall → ℕ → Past → Past
unfolding then
c_then (pipnn_new d g typed c) number past = then (new d (params_given g) typed c) number past
c_then (pipnn_add doc v) number past = then (add doc v) number past
c_then (pipnn_build ws fs) number past = then (build ws fs) number past
c_then (pipnn_search_with_ef ws fs q k ef docs distances) number past = past
c_then (pipnn_search ws fs q k docs distances) number past = past
c_then (pipnn_recognise ws fs q ef limit) number past = past
