-- What a reader expects of the call: the number that it returns is that of the first check that fails, since Known and New return 0; and a call that
-- is not refused has a node to go by. Assumes nothing.
use mathlib.Core.Path.{◌≡◌, refl, sym, ◌∙◌}
use mathlib.Core.Logic.{⊎_elim}
use mathlib.Core.Bool.{not}
use mathlib.Core.List.Memᴰ.{not-nil as in-nil}
use mathlib.Core.List.{List, [], ◌∷◌, ◌++◌, Memᴰ as In}
use Prim.Native.Nat.{ℕ, ◌<◌}
use native.Mathlib.Omega.{arith}
use lib.Dec.{eqb, eqb→eq}
use lib.ListN.{length, length-take}
use lib.Ieee.{Float, le}
use lib.Ieee.Scale.{finite}
use borrow.Author.Tests.{eqb-true, not-false}
use Rattle.basics.specs.Choice.{pick_ind}
use Rattle.basics.specs.Refusals.{Check, check, first_refusal, Values}
use Rattle.error.specs.Numbers.{limit_not_finite}
use Rattle.basics.proofs.Refusals.{passes, both_none}
use Rattle.sorting.specs.Sorting.{sort_by}
use Rattle.sorting.proofs.Laws.{length_sort}
use Rattle.store.specs.Layout.{word, built_state, state_at, entry_at}
use Rattle.store.specs.View.{view}
use Rattle.store.specs.Opening.{scratch, opening}
use Rattle.store.proofs.Header.{Built}
use Rattle.store.proofs.Opened.{Opened, opened, opening_numbered}
use Rattle.def_walk.specs.KeepClosest.{key_at}
use Rattle.def_walk.specs.Beam.{usual, places_for, answer_of}
use Rattle.def_walk.proofs.beam.Laws.{entry_scored}
use Rattle.def_calls.specs.Search.{asking_checks, far_in, network_in, scored_in, found_in}
use Rattle.finding.proofs.Inside.{lists_inside}
use Rattle.recognise.specs.Recognised.{recognised_as}
use Rattle.recognise.specs.Recognise.{recognise_checks, nearest_of, doc_in, recognise_spec}

decided : (doc : ℕ) (d limit : Float) → (recognised_as doc d limit).0 ≡ 0
unfolding recognised_as
decided doc d limit = pick_ind (λ (r : Values). r.0 ≡ 0) (le d limit) (λ _. refl) (λ _. refl)

nearest : (doc : ℕ → ℕ) (far : ℕ → Float) (limit : Float) (found : List ℕ) → (nearest_of doc far limit found).0 ≡ 0
nearest doc far limit [] = refl
nearest doc far limit (node ∷ _) = decided (doc node) (far node) limit

pub number_is : (ws fs : ℕ) (w : List ℕ) (f query : List Float) (ef : ℕ) (limit : Float)
    → (recognise_spec ws fs w f query ef limit).0 ≡ first_refusal (recognise_checks ws fs w f query ef limit)
unfolding recognise_spec
number_is ws fs w f query ef limit =
    let refusal : ℕ = first_refusal (recognise_checks ws fs w f query ef limit) in
    pick_ind (λ (r : Values). r.0 ≡ refusal) (eqb refusal 0) (λ t. nearest (doc_in (view w f)) (far_in (view w f) query) limit (found_in usual (view w f) query 1 ef) ∙ sym (eqb→eq refusal 0 t)) (λ _. refl)

-- ---- a call that is not refused has one node to go by: the entry node is always scored

some : (x : ℕ) (l : List ℕ) → In x l → 0 < length l
some x [] m = absurd (in-nil m)
some x (y ∷ l) m = omega arith

module _ (ws fs : ℕ) (w : List ℕ) (f query : List Float) (ef : ℕ) (limit : Float) (e : first_refusal (recognise_checks ws fs w f query ef limit) ≡ 0) where
  abbrev asking : List Check
  asking = asking_checks w query 1 ef ++ (check (not (finite limit)) limit_not_finite ∷ [])

  lists : (first_refusal (opening (scratch ws fs) w f) ≡ 0) × (first_refusal asking ≡ 0)
  unfolding recognise_checks
  lists = both_none (opening (scratch ws fs) w f) asking (opening_numbered (scratch ws fs) w f) e

  state : word w state_at ≡ built_state
  state = let t = passes asking (omega arith) lists.1 in eqb-true _ _ (not-false _ t.0)

  stores : Opened (scratch ws fs) w f
  stores = opened (scratch ws fs) w f lists.0

  built : Built w
  built = ⊎_elim (λ o. absurd (omega (arith, o.state, state))) (λ b. b) stores.header.state

  abbrev far : ℕ → Float
  far = far_in (view w f) query

  abbrev scored : List ℕ
  scored = scored_in usual (view w f) query 1 ef

  pub one_found : length (found_in usual (view w f) query 1 ef) ≡ 1
  unfolding found_in scored_in answer_of view
  one_found =
      let entry : In (word w entry_at) scored =
      entry_scored usual (network_in (view w f)) built.entry (lists_inside w f stores.rest) far (places_for ef 1) tt in
      omega (arith, length-take 1 (sort_by (key_at far) scored), length_sort (key_at far) scored, some (word w entry_at) scored entry)
