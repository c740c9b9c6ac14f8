-- What a build and a search that are accepted have passed. Assumes nothing.
use mathlib.Core.Path.{◌≡◌, refl}
use mathlib.Core.Bool.{true}
use mathlib.Core.List.{List}
use Prim.Native.Nat.{ℕ, ◌≤◌, ◌<◌, min}
use native.Mathlib.Omega.{arith}
use lib.Dec.{eqb, eqb→eq}
use lib.ListN.{length}
use lib.Ieee.{Float}
use lib.Ieee.Scale.{finite}
use mir.Facts.{eqb_no}
use borrow.Author.Tests.{eqb-true, eqb-false, ltb-false, not-false}
use Rattle.basics.specs.Choice.{pick, pick_ind}
use Rattle.basics.specs.Lists.{every}
use Rattle.basics.specs.Refusals.{first_refusal}
use Rattle.basics.proofs.Refusals.{passes, both_none}
use Rattle.basics.proofs.Tests.{both_false}
use Rattle.store.specs.Layout.{word, built_state, state_at, dimension_at, nodes_at}
use Rattle.store.specs.View.{view}
use Rattle.store.specs.Opening.{scratch, opening}
use Rattle.store.proofs.Opened.{Opened, opened, opening_numbered}
use Rattle.def_walk.specs.Beam.{usual}
use Rattle.def_calls.specs.Build.{own_build_checks, build_checks}
use Rattle.def_calls.specs.Search.{most_nodes, most_beam, own_search_checks, search_checks, Reply, refused, reply_of, search_with_ef_spec}

-- of a reply and a refusal, the one that returns 0 is the reply
replied : (refusal : ℕ) (reply : Reply) (docs : List ℕ) (distances : List Float) → (pick (eqb refusal 0) reply (refused refusal docs distances)).number ≡ 0
    → (refusal ≡ 0) × (pick (eqb refusal 0) reply (refused refusal docs distances) ≡ reply)
replied refusal reply docs distances =
    pick_ind (λ (a : Reply). a.number ≡ 0 → (refusal ≡ 0) × (a ≡ reply)) (eqb refusal 0) (λ t e. (eqb→eq refusal 0 t, refl)) (λ t e. absurd (eqb_no t e))

module _ (ws fs : ℕ) (w : List ℕ) (f : List Float) where
  pub record BuildTaken : Type 0 where
    pub stores : Opened (scratch ws fs) w f
    pub some : 0 < word w nodes_at

  pub build_taken : first_refusal (build_checks ws fs w f) ≡ 0 → BuildTaken
  unfolding build_checks own_build_checks
  build_taken e =
      let lists = both_none (opening (scratch ws fs) w f) (own_build_checks w) (opening_numbered (scratch ws fs) w f) e in
      let t = passes (own_build_checks w) (omega arith) lists.1 in
      let none : word w nodes_at ≡ 0 → ⊥ = eqb-false _ _ t.0 in
      record { stores = opened (scratch ws fs) w f lists.0; some = omega (arith, none) }

  module _ (query : List Float) (k ef : ℕ) (docs : List ℕ) (distances : List Float) where
    pub record SearchTaken : Type 0 where
      pub stores : Opened (scratch ws fs) w f
      pub built : word w state_at ≡ built_state
      pub components : length query ≡ word w dimension_at
      pub numbers : every finite query ≡ true
      pub nodes : k ≤ most_nodes
      pub beam : ef ≤ most_beam
      pub docs_room : min k (word w nodes_at) ≤ length docs
      pub distances_room : min k (word w nodes_at) ≤ length distances

    pub search_taken : first_refusal (search_checks w query k ef docs distances ws fs f) ≡ 0 → SearchTaken
    unfolding search_checks own_search_checks
    search_taken e =
        let lists = both_none (opening (scratch ws fs) w f) (own_search_checks w query k ef docs distances) (opening_numbered (scratch ws fs) w f) e in
        let t = passes (own_search_checks w query k ef docs distances) (omega arith) lists.1 in
        let limits = both_false _ _ t.1.1.1.0 in
        let outputs = both_false _ _ t.1.1.1.1.0 in
        record {
          stores = opened (scratch ws fs) w f lists.0;
          built = eqb-true _ _ (not-false _ t.0);
          components = eqb-true _ _ (not-false _ t.1.0);
          numbers = not-false _ t.1.1.0;
          nodes = ltb-false _ _ limits.0;
          beam = ltb-false _ _ limits.1;
          docs_room = ltb-false _ _ outputs.0;
          distances_room = ltb-false _ _ outputs.1;
        }

    -- a search that returns 0 has passed its checks, and leaves what its walk found
    pub search_replied : (search_with_ef_spec ws fs w f query k ef docs distances).number ≡ 0
        → SearchTaken × (search_with_ef_spec ws fs w f query k ef docs distances ≡ reply_of usual (view w f) query k ef docs distances)
    unfolding search_with_ef_spec
    search_replied e =
        let r = replied (first_refusal (search_checks w query k ef docs distances ws fs f)) (reply_of usual (view w f) query k ef docs distances) docs distances e in
        (search_taken r.0, r.1)
