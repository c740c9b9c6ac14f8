-- Demand 3 holds of every list of C calls, on stores of any first content. A C call is one of the promise's calls, or refused for its final_prune,
-- or only reads; so it keeps `Made`, and that implies what is claimed. Assumes nothing.
use mathlib.Core.Bool.{◌&&◌}
use mathlib.Core.List.{List, [], ◌∷◌}
use Prim.Native.Nat.{ℕ}
use lib.Dec.{ltb}
use lib.Ieee.{Float}
use Rattle.basics.specs.Choice.{pick_ind}
use Rattle.params.specs.Limits.{dimension_within}
use Rattle.pipnn.specs.Answer.{Answer}
use Rattle.theorems.specs.Calls.{Call, new, add, build, search_with_ef, search, outcome, Past, nothing, then}
use Rattle.theorems.proofs.promise.Made.{Made, call_made}
use Rattle.theorems.proofs.promise.Promise.{stands, call_told}
use Rattle.drintelbok.specs.New.{new_from}
use Rattle.theorems.specs.CCalls.{params_given, CCall, c_outcome, c_then}
use Rattle.theorems.specs.CCalls.{pipnn_new, pipnn_add, pipnn_build, pipnn_search_with_ef, pipnn_search, pipnn_recognise}
use Rattle.theorems.specs.CPromise.{CTold, CClaims}
use Rattle.theorems.proofs.c_calls.Recognised.{recognised_told}

-- what holds between two calls, P, is kept by a C call if every call of the promise keeps it
pub keeps : (P : Past → List ℕ → List Float → Type 0) (c : CCall) (past : Past) (w : List ℕ) (f : List Float) → P past w f
    → ((b : Call) → P (then b (outcome b w f).0 past) (outcome b w f).1 (outcome b w f).2)
    → P (c_then c (c_outcome c w f).0 past) (c_outcome c w f).1 (c_outcome c w f).2
unfolding c_outcome c_then outcome then new_from
keeps P (pipnn_new d g t c) past w f p step =
    pick_ind (λ (a : Answer). P (then (new d (params_given g) t c) a.0 past) a.1 a.2) (dimension_within d && ltb 1 g.final_prune)
    (λ _. p) (λ _. step (new d (params_given g) t c))
keeps P (pipnn_add doc v) past w f p step = step (add doc v)
keeps P (pipnn_build ws fs) past w f p step = step (build ws fs)
keeps P (pipnn_search_with_ef ws fs q k ef docs distances) past w f p step = p
keeps P (pipnn_search ws fs q k docs distances) past w f p step = p
keeps P (pipnn_recognise ws fs q ef limit) past w f p step = p

pub c_made : (c : CCall) (past : Past) (w : List ℕ) (f : List Float) → Made past w f
    → Made (c_then c (c_outcome c w f).0 past) (c_outcome c w f).1 (c_outcome c w f).2
c_made c past w f m = keeps Made c past w f m (λ b. call_made b past w f m)

c_told : (c : CCall) (past : Past) (w : List ℕ) (f : List Float) → Made past w f → CTold c past w f
c_told (pipnn_new d g t c) past w f m = tt
c_told (pipnn_add doc v) past w f m = tt
c_told (pipnn_build ws fs) past w f m = tt
c_told (pipnn_search_with_ef ws fs q k ef docs distances) past w f m = call_told (search_with_ef ws fs q k ef docs distances) past w f m
c_told (pipnn_search ws fs q k docs distances) past w f m = call_told (search ws fs q k docs distances) past w f m
c_told (pipnn_recognise ws fs q ef limit) past w f m = recognised_told ws fs w f q ef limit past m

c_claims : (calls : List CCall) (past : Past) (w : List ℕ) (f : List Float) → Made past w f → CClaims calls past w f
c_claims [] past w f m = stands past w f m
c_claims (c ∷ calls) past w f m =
    (stands past w f m, c_told c past w f m, c_claims calls (c_then c (c_outcome c w f).0 past) (c_outcome c w f).1 (c_outcome c w f).2 (c_made c past w f m))

-- of any list of C calls, from a word store and a float store of any content and length
pub c_demand_3 : (w : List ℕ) (f : List Float) (calls : List CCall) → CClaims calls nothing w f
c_demand_3 w f calls = c_claims calls nothing w f tt
