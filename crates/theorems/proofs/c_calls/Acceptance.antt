-- C calls are accepted exactly if they are valid, over every list of them on stores of any first content. Each is judged as the call behind it;
-- `pipnn_new` and recognising have one check more. Assumes nothing.
use mathlib.Core.Path.{◌≡◌, ap, ap₂, ◌∙◌, subst}
use mathlib.Core.Bool.{Bool, false, not, ◌&&◌}
use mathlib.Core.List.{List, [], ◌∷◌}
use Prim.Native.Nat.{ℕ}
use native.Mathlib.Omega.{arith}
use lib.Dec.{T, ltb, nltb→le}
use lib.Ieee.{Float}
use borrow.Author.Tests.{le-ltb}
use Rattle.basics.specs.Choice.{pick_ind, pick_false}
use Rattle.basics.specs.Sum.{+zero}
use Rattle.params.specs.Limits.{dimension_within}
use Rattle.pipnn.specs.Answer.{Answer}
use Rattle.pipnn.specs.New.{new_spec}
use Rattle.theorems.specs.Calls.{Typed, new, add, build, search_with_ef, search, outcome, Index, Past, nothing, opened, built}
use Rattle.theorems.proofs.promise.Made.{Made}
use Rattle.theorems.specs.Acceptance.{Exactly, Opens, AsksWithEf}
use Rattle.theorems.proofs.acceptance.Sound.{Kept}
use Rattle.theorems.proofs.acceptance.Keeping.{call_kept}
use Rattle.theorems.proofs.acceptance.Acceptance.{call_judged}
use Rattle.drintelbok.specs.New.{new_from}
use Rattle.theorems.specs.CCalls.{CParams, params_given, CCall, c_outcome, c_then}
use Rattle.theorems.specs.CCalls.{pipnn_new, pipnn_add, pipnn_build, pipnn_search_with_ef, pipnn_search, pipnn_recognise}
use Rattle.theorems.specs.CPromise.{search_for_one}
use Rattle.theorems.specs.CAcceptance.{CAccepted, COpens, Recognises, CWelcome, CAccepts}
use Rattle.theorems.proofs.c_calls.Recognised.{search_too, limit_too, from_search}
use Rattle.theorems.proofs.c_calls.Promise.{keeps, c_made}

-- ---- `pipnn_new`

module _ (d : ℕ) (g : CParams) (t : Typed (params_given g)) (c : ℕ) (past : Past) (w : List ℕ) (f : List Float) (m : Made past w f) (s : Kept past w f) where
  judged : Exactly (Opens d (params_given g) c w f) ((new_spec d (params_given g) c w f).0 ≡ 0)
  unfolding outcome
  judged = call_judged (new d (params_given g) t c) past w f m s

  new_welcome : COpens d g c w f → CAccepted (pipnn_new d g t c) w f
  unfolding c_outcome new_from
  new_welcome o =
      let few : ltb 1 g.final_prune ≡ false = le-ltb 1 g.final_prune (omega (arith, o.flag)) in
      let passes : (dimension_within d && ltb 1 g.final_prune) ≡ false = ap₂ ◌&&◌ o.opens.dimension_within_lem few in
      ap (λ (a : Answer). a.0) (pick_false {X = Answer} (2, w, f) (new_spec d (params_given g) c w f) passes) ∙ judged.welcome o.opens

  new_earned : CAccepted (pipnn_new d g t c) w f → COpens d g c w f
  unfolding c_outcome new_from
  new_earned =
      pick_ind (λ (a : Answer). a.0 ≡ 0 → COpens d g c w f) (dimension_within d && ltb 1 g.final_prune) (λ _ e. absurd (omega arith)) (λ passes e.
      let o : Opens d (params_given g) c w f = judged.earned e in
      record { opens = o; flag = nltb→le 1 g.final_prune (subst (λ (b : Bool). T (not (b && ltb 1 g.final_prune))) o.dimension_within_lem passes) })

-- ---- recognising

module _ (ws fs : ℕ) (q : List Float) (ef : ℕ) (limit : Float) (x : Index) (w : List ℕ) (f : List Float) where
  asked : Made (built x) w f → Kept (built x) w f → Exactly (AsksWithEf x ws fs q 1 ef (0 ∷ []) (+zero ∷ [])) ((search_for_one ws fs w f q ef).number ≡ 0)
  unfolding outcome
  asked m s = call_judged (search_with_ef ws fs q 1 ef (0 ∷ []) (+zero ∷ [])) (built x) w f m s

  too_soon : Made (opened x) w f → Kept (opened x) w f → Exactly ⊥ ((search_for_one ws fs w f q ef).number ≡ 0)
  unfolding outcome
  too_soon m s = call_judged (search_with_ef ws fs q 1 ef (0 ∷ []) (+zero ∷ [])) (opened x) w f m s

  recognise_welcome : Made (built x) w f → Kept (built x) w f → Recognises x ws fs q ef limit → CAccepted (pipnn_recognise ws fs q ef limit) w f
  unfolding c_outcome
  recognise_welcome m s r =
      from_search ws fs w f q ef limit ((asked m s).welcome (record {
        asks = record {
          scratch = r.scratch;
          components = r.components;
          numbers = r.numbers;
          few = omega arith;
          docs_room = omega arith;
          distances_room = omega arith;
        };
        beam = r.beam;
      })) r.limit_finite

  recognise_earned : Made (built x) w f → Kept (built x) w f → CAccepted (pipnn_recognise ws fs q ef limit) w f → Recognises x ws fs q ef limit
  unfolding c_outcome
  recognise_earned m s e =
      let a : AsksWithEf x ws fs q 1 ef (0 ∷ []) (+zero ∷ []) = (asked m s).earned (search_too ws fs w f q ef limit e) in
      record {
        scratch = a.asks.scratch;
        components = a.asks.components;
        numbers = a.asks.numbers;
        beam = a.beam;
        limit_finite = limit_too ws fs w f q ef limit e;
      }

-- ---- one call

c_judged : (c : CCall) (past : Past) (w : List ℕ) (f : List Float) → Made past w f → Kept past w f → CWelcome c past w f
unfolding c_outcome outcome
c_judged (pipnn_new d g t c) past w f m s = record { welcome = new_welcome d g t c past w f m s; earned = new_earned d g t c past w f m s }
c_judged (pipnn_add doc v) past w f m s = call_judged (add doc v) past w f m s
c_judged (pipnn_build ws fs) past w f m s = call_judged (build ws fs) past w f m s
c_judged (pipnn_search_with_ef ws fs q k ef docs distances) past w f m s = call_judged (search_with_ef ws fs q k ef docs distances) past w f m s
c_judged (pipnn_search ws fs q k docs distances) past w f m s = call_judged (search ws fs q k docs distances) past w f m s
c_judged (pipnn_recognise ws fs q ef limit) nothing w f m s = tt
c_judged (pipnn_recognise ws fs q ef limit) (opened x) w f m s = record {
  welcome = λ n. absurd n;
  earned = λ e. (too_soon ws fs q ef limit x w f m s).earned (search_too ws fs w f q ef limit e);
}
c_judged (pipnn_recognise ws fs q ef limit) (built x) w f m s = record {
  welcome = recognise_welcome ws fs q ef limit x w f m s;
  earned = recognise_earned ws fs q ef limit x w f m s;
}

-- ---- the whole list

c_all_judged : (calls : List CCall) (past : Past) (w : List ℕ) (f : List Float) → Made past w f → Kept past w f → CAccepts calls past w f
c_all_judged [] past w f m s = tt
c_all_judged (c ∷ calls) past w f m s = (
  c_judged c past w f m s,
  c_all_judged calls (c_then c (c_outcome c w f).0 past) (c_outcome c w f).1 (c_outcome c w f).2 (c_made c past w f m)
      (keeps Kept c past w f s (λ b. call_kept b past w f m s)),
)

-- of any list of C calls, from a word store and a float store of any content and length
pub c_accepts : (calls : List CCall) (w : List ℕ) (f : List Float) → CAccepts calls nothing w f
c_accepts calls w f = c_all_judged calls nothing w f tt tt
