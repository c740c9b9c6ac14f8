-- Demand 3 over lists of C calls: no stored node can be lost to search. What stands between two calls and what a search reports are the promise's;
-- an accepted recognising answers by the node of an accepted search for one.
use Rattle.std.specs.Prelude.{◌≡◌, List, [], ◌∷◌, ℕ, get_or, Float}
use Rattle.basics.specs.Sum.{+zero}
use Rattle.def_walk.specs.Lengths.{longest_length}
use Rattle.def_calls.specs.Search.{Reply, search_with_ef_spec}
use Rattle.recognise.specs.Recognised.{recognised_as}
use Rattle.theorems.specs.Calls.{search_with_ef, search, Index, Past, nothing, opened, built, docs_of}
use Rattle.theorems.specs.Promise.{size, list_now, far_of, Answered, Stands, Told}
use Rattle.drintelbok.specs.Given.{recognised_with}
use Rattle.theorems.specs.CCalls.{CCall, recognised, c_outcome, c_then}
use Rattle.theorems.specs.CCalls.{pipnn_new, pipnn_add, pipnn_build, pipnn_search_with_ef, pipnn_search, pipnn_recognise}

-- ---- what an accepted recognising reports

-- a search for one node, into outputs of one element each
abbrev pub search_for_one : (ws fs : ℕ) → List ℕ → List Float → List Float → ℕ → Reply
search_for_one ws fs w f query ef = search_with_ef_spec ws fs w f query 1 ef (0 ∷ []) (+zero ∷ [])

pub record RecognisedBy (x : Index) (ws fs : ℕ) (w : List ℕ) (f query : List Float) (ef : ℕ) (limit : Float) : Type 0 where
  -- that search is accepted, and answered as demand 3 says, by one node
  pub accepted : (search_for_one ws fs w f query ef).number ≡ 0
  pub answered : Answered x query 1 ef (longest_length (size x) (list_now w f)) (0 ∷ []) (+zero ∷ []) (search_for_one ws fs w f query ef)
  pub node : ℕ
  pub alone : answered.nodes ≡ node ∷ []
  -- Known or New is by this node's doc id and its distance
  pub answer : recognised ws fs w f query ef limit ≡ recognised_with (recognised_as (get_or (docs_of x) node 0) (far_of x query node) limit)

-- ---- the claim

-- of a call that only reads: it is accepted only after a build, and then P says what it reports
abbrev pub OnceBuilt : Past → (accepted : Type 0) → (P : Index → Type 0) → Type 0
OnceBuilt nothing accepted P = Unit
OnceBuilt (opened x) accepted P = accepted → ⊥
OnceBuilt (built x) accepted P = accepted → P x

-- of one call
abbrev pub CTold : CCall → Past → List ℕ → List Float → Type 0
CTold (pipnn_new d g typed c) past w f = Unit
CTold (pipnn_add doc v) past w f = Unit
CTold (pipnn_build ws fs) past w f = Unit
CTold (pipnn_search_with_ef ws fs q k ef docs distances) past w f = Told (search_with_ef ws fs q k ef docs distances) past w f
CTold (pipnn_search ws fs q k docs distances) past w f = Told (search ws fs q k docs distances) past w f
CTold (pipnn_recognise ws fs q ef limit) past w f =
    OnceBuilt past ((recognised ws fs w f q ef limit).number ≡ 0) (λ x. RecognisedBy x ws fs w f q ef limit)

-- of a list of calls: each call gets both stores as the call before left them
abbrev pub CClaims : List CCall → Past → List ℕ → List Float → Type 0
CClaims [] past w f = Stands past w f
CClaims (c ∷ calls) past w f =
    Stands past w f × CTold c past w f × CClaims calls (c_then c (c_outcome c w f).0 past) (c_outcome c w f).1 (c_outcome c w f).2
