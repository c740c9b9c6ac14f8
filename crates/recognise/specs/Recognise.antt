-- Recognising as one call (scope, Recognising and Refusals): a search with k = 1 and the caller's ef; the node that it returns is Known if its
-- distance is at most the limit, otherwise New, each with that distance's score. The stores stay as they are. What is answered are the scope's number
-- and values (score/Recognised); a refusal has only its number.
use Rattle.std.specs.Prelude.{not, List, [], ◌∷◌, ◌++◌, ℕ, eqb, get_or, Float}
use Rattle.std.specs.Float.Ieee.Scale.{finite}
use Rattle.basics.specs.Choice.{pick}
use Rattle.basics.specs.Refusals.{Check, check, first_refusal, Values}
use Rattle.error.specs.Numbers.{limit_not_finite}
use Rattle.store.specs.View.{View, view}
use Rattle.store.specs.Opening.{scratch, opening}
use Rattle.def_walk.specs.Beam.{usual}
use Rattle.def_calls.specs.Search.{asking_checks, far_in, found_in}
use Rattle.recognise.specs.Recognised.{new_as, refused_as, recognised_as}

-- ---- its checks: search's except 12, then 13 for a limit that is not finite

-- scratch of ws words and fs floats is passed in
unfoldable pub recognise_checks : (ws fs : ℕ) → List ℕ → List Float → List Float → ℕ → Float → List Check
unfolding opening
recognise_checks ws fs w f query ef limit = opening (scratch ws fs) w f ++ (asking_checks w query 1 ef ++ (check (not (finite limit)) limit_not_finite ∷ []))

-- ---- what it answers

-- by the nodes that a search returns, nearest first. With none it is New with score 0; today there is always one (`one_Found` of proofs/Laws).
abbrev pub nearest_of : (ℕ → ℕ) → (ℕ → Float) → Float → List ℕ → Values
nearest_of doc far limit [] = new_as 0
nearest_of doc far limit (node ∷ _) = recognised_as (doc node) (far node) limit

-- the doc id of a node
abbrev pub doc_in : View → ℕ → ℕ
doc_in v node = get_or v.docs node 0

-- ---- the call

unfoldable pub recognise_spec : (ws fs : ℕ) → List ℕ → List Float → List Float → ℕ → Float → Values
unfolding pick first_refusal recognise_checks recognised_as view far_in found_in
recognise_spec ws fs w f query ef limit =
    let refusal : ℕ = first_refusal (recognise_checks ws fs w f query ef limit) in
    let v : View = view w f in
    pick {X = Values} (eqb refusal 0) (nearest_of (doc_in v) (far_in v query) limit (found_in usual v query 1 ef)) (refused_as refusal)
