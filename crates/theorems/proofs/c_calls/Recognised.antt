-- Recognising is a search for one node: it is accepted exactly if that search is and its limit is finite, and the one node that demand 3 promises
-- of the search determines the answer. Assumes nothing.
use mathlib.Core.Path.{◌≡◌, refl, sym, ap, ap₂, ◌∙◌}
use mathlib.Core.Bool.{true}
use mathlib.Core.List.{List, [], ◌∷◌, map, ◌++◌}
use Prim.Native.Nat.{ℕ, min}
use native.Mathlib.Omega.{arith}
use lib.ListN.{length, get_or, drop}
use lib.Ieee.{Float, nan}
use lib.Ieee.Scale.{finite}
use Rattle.basics.specs.Sum.{+zero}
use Rattle.basics.specs.Refusals.{first_refusal}
use Rattle.def_calls.specs.Search.{Reply}
use Rattle.recognise.specs.Recognised.{recognised_as}
use Rattle.recognise.specs.Recognise.{recognise_checks, recognise_spec}
use Rattle.recognise.proofs.Laws.{number_is}
use Rattle.recognise.proofs.Answers.{limit_accepted, search_accepted, call_accepted, found_one}
use Rattle.def_walk.specs.Lengths.{longest_length}
use Rattle.theorems.specs.Calls.{search_with_ef, Index, Past, nothing, opened, built, docs_of}
use Rattle.theorems.specs.Promise.{size, list_now, far_of, Answered}
use Rattle.theorems.proofs.promise.Made.{Made}
use Rattle.theorems.proofs.promise.Promise.{call_told}
use Rattle.drintelbok.specs.Given.{recognition, recognised_with}
use Rattle.theorems.specs.CCalls.{recognised}
use Rattle.theorems.specs.CPromise.{search_for_one, RecognisedBy, OnceBuilt}

-- C gets the answer's number
number_given : (number : ℕ) (values : List ℕ) → (recognition number values).number ≡ number
number_given number [] = refl
number_given number (score ∷ []) = refl
number_given number (doc ∷ score ∷ more) = refl

-- a list of one node
one_node : (nodes : List ℕ) → length nodes ≡ 1 → (node : ℕ) × (nodes ≡ node ∷ [])
one_node [] e = absurd (omega arith)
one_node (node ∷ []) e = (node, refl)
one_node (node ∷ next ∷ more) e = absurd (omega arith)

module _ (ws fs : ℕ) (w : List ℕ) (f query : List Float) (ef : ℕ) (limit : Float) where
  number_checked : (recognised ws fs w f query ef limit).number ≡ first_refusal (recognise_checks ws fs w f query ef limit)
  unfolding recognised_with
  number_checked = number_given (recognise_spec ws fs w f query ef limit).0 (recognise_spec ws fs w f query ef limit).1 ∙ number_is ws fs w f query ef limit

  pub search_too : (recognised ws fs w f query ef limit).number ≡ 0 → (search_for_one ws fs w f query ef).number ≡ 0
  search_too e = search_accepted ws fs w f query ef limit (0 ∷ []) (+zero ∷ []) refl refl (sym number_checked ∙ e)

  pub limit_too : (recognised ws fs w f query ef limit).number ≡ 0 → finite limit ≡ true
  limit_too e = limit_accepted ws fs w f query ef limit (sym number_checked ∙ e)

  pub from_search : (search_for_one ws fs w f query ef).number ≡ 0 → finite limit ≡ true → (recognised ws fs w f query ef limit).number ≡ 0
  from_search e h = number_checked ∙ call_accepted ws fs w f query ef limit (0 ∷ []) (+zero ∷ []) refl refl e h

  -- demand 3's answer to that search
  abbrev AnsweredOne : Index → Type 0
  AnsweredOne x = Answered x query 1 ef (longest_length (size x) (list_now w f)) (0 ∷ []) (+zero ∷ []) (search_for_one ws fs w f query ef)

  -- its one node's doc id and distance are the first elements of the two outputs
  by_node : (x : Index) (a : AnsweredOne x) (node : ℕ) → a.nodes ≡ node ∷ [] → (recognised ws fs w f query ef limit).number ≡ 0
      → RecognisedBy x ws fs w f query ef limit
  by_node x a node alone e =
      let reply : Reply = search_for_one ws fs w f query ef in
      let doc : get_or reply.docs 0 0 ≡ get_or (docs_of x) node 0 =
      ap (λ (l : List ℕ). get_or l 0 0) a.docs_written ∙ ap (λ (l : List ℕ). get_or (map (λ i. get_or (docs_of x) i 0) l ++ drop (length l) (0 ∷ [])) 0 0) alone in
      let far : get_or reply.distances 0 nan ≡ far_of x query node =
      ap (λ (l : List Float). get_or l 0 nan) a.distances_written
      ∙ ap (λ (l : List ℕ). get_or (map (far_of x query) l ++ drop (length l) (+zero ∷ [])) 0 nan) alone in
      let some : reply.count ≡ 0 → ⊥ = λ z. omega (arith, a.count, ap length alone) in
      let by-reply = found_one ws fs w f query ef limit (0 ∷ []) (+zero ∷ []) refl refl reply refl (search_too e) (limit_too e) some in
      record {
        accepted = search_too e;
        answered = a;
        node = node;
        alone = alone;
        answer = ap recognised_with (sym by-reply ∙ ap₂ (λ (d : ℕ) (r : Float). recognised_as d r limit) doc far);
      }

  recognised-by : (x : Index) → Made (built x) w f → (recognised ws fs w f query ef limit).number ≡ 0 → RecognisedBy x ws fs w f query ef limit
  recognised-by x m e =
      let a : AnsweredOne x = call_told (search_with_ef ws fs query 1 ef (0 ∷ []) (+zero ∷ [])) (built x) w f m (search_too e) in
      let least : min 1 (size x) ≡ 1 = omega (arith, m.graph.entry, m.shown.nodes) in
      let one = one_node a.nodes (a.exactly ∙ least) in
      by_node x a one.0 one.1 e

  pub recognised_told : (past : Past) → Made past w f
      → OnceBuilt past ((recognised ws fs w f query ef limit).number ≡ 0) (λ x. RecognisedBy x ws fs w f query ef limit)
  recognised_told nothing m = tt
  recognised_told (opened x) m = λ e. call_told (search_with_ef ws fs query 1 ef (0 ∷ []) (+zero ∷ [])) (opened x) w f m (search_too e)
  recognised_told (built x) m = recognised-by x m
