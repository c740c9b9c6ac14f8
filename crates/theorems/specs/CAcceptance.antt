-- Which C calls are accepted, over lists of them: a call returns 0 exactly if the scope's table of refusals does not refuse it. What the calls need
-- is acceptance's; `pipnn_new` needs a final_prune of 0 or 1 too, and recognising a limit that is finite.
use Rattle.std.specs.Prelude.{◌≡◌, true, List, [], ◌∷◌, ℕ, ◌≤◌, length, Float}
use Rattle.std.specs.Float.Ieee.Scale.{finite}
use Rattle.def_calls.specs.Search.{most_beam}
use Rattle.theorems.specs.Calls.{Index, Past}
use Rattle.theorems.specs.Acceptance.{Exactly, Judged, Finite, Scratch, Opens, Adds, Builds, Asks, AsksWithEf}
use Rattle.theorems.specs.CCalls.{CParams, params_given, CCall, c_outcome, c_then}
use Rattle.theorems.specs.CCalls.{pipnn_new, pipnn_add, pipnn_build, pipnn_search_with_ef, pipnn_search, pipnn_recognise}

-- 0 is returned
abbrev pub CAccepted : CCall → List ℕ → List Float → Type 0
CAccepted c w f = (c_outcome c w f).0 ≡ 0

-- `pipnn_new`: what `new` needs, and a final_prune of 0 or 1
pub record COpens (dimension : ℕ) (g : CParams) (capacity : ℕ) (w : List ℕ) (f : List Float) : Type 0 where
  pub opens : Opens dimension (params_given g) capacity w f
  pub flag : g.final_prune ≤ 1

-- `pipnn_recognise`: scratch, a finite query of the index's dimension, an ef within its limit, a limit that is finite
pub record Recognises (x : Index) (ws fs : ℕ) (query : List Float) (ef : ℕ) (limit : Float) : Type 0 where
  pub scratch : Scratch x.capacity ws fs
  pub components : length query ≡ x.dimension
  pub numbers : Finite query
  pub beam : ef ≤ most_beam
  pub limit_finite : finite limit ≡ true

-- of one call, by what is remembered before it
abbrev pub CWelcome : CCall → Past → List ℕ → List Float → Type 0
CWelcome (pipnn_new d g typed c) past w f = Exactly (COpens d g c w f) (CAccepted (pipnn_new d g typed c) w f)
CWelcome (pipnn_add doc v) past w f = Judged (λ x. Adds x v) (λ x. ⊥) past (CAccepted (pipnn_add doc v) w f)
CWelcome (pipnn_build ws fs) past w f = Judged (λ x. Builds x ws fs) (λ x. Scratch x.capacity ws fs) past (CAccepted (pipnn_build ws fs) w f)
CWelcome (pipnn_search_with_ef ws fs q k ef docs distances) past w f =
    Judged (λ x. ⊥) (λ x. AsksWithEf x ws fs q k ef docs distances) past (CAccepted (pipnn_search_with_ef ws fs q k ef docs distances) w f)
CWelcome (pipnn_search ws fs q k docs distances) past w f =
    Judged (λ x. ⊥) (λ x. Asks x ws fs q k docs distances) past (CAccepted (pipnn_search ws fs q k docs distances) w f)
CWelcome (pipnn_recognise ws fs q ef limit) past w f =
    Judged (λ x. ⊥) (λ x. Recognises x ws fs q ef limit) past (CAccepted (pipnn_recognise ws fs q ef limit) w f)

-- of a list of calls: each call gets both stores as the call before left them
abbrev pub CAccepts : List CCall → Past → List ℕ → List Float → Type 0
CAccepts [] past w f = Unit
CAccepts (c ∷ calls) past w f = CWelcome c past w f × CAccepts calls (c_then c (c_outcome c w f).0 past) (c_outcome c w f).1 (c_outcome c w f).2
