-- The two cases of what a search leaves, and what a search that is accepted has checked. Assumes nothing.
use mathlib.Core.Path.{◌≡◌, sym, ap, ◌∙◌}
use mathlib.Core.List.{List}
use Prim.Native.Nat.{ℕ}
use lib.ListN.{length}
use lib.Ieee.{Float}
use borrow.Author.Tests.{eq-eqb, ne_eqb}
use Rattle.basics.specs.Choice.{pick_true, pick_false}
use Rattle.basics.specs.Refusals.{first_refusal}
use Rattle.basics.proofs.Refusals.{both_none}
use Rattle.store.specs.View.{view}
use Rattle.store.specs.Opening.{scratch, opening}
use Rattle.store.proofs.Opened.{opening_numbered}
use Rattle.def_walk.specs.Beam.{usual}
use Rattle.def_calls.specs.Search.{own_search_checks, search_checks, Reply, refused, reply_of, search_with_ef_spec}
use Rattle.def_calls.proofs.Taken.{search_taken}
use Rattle.finding.specs.Inside.Finding.{Checked}

module _ (ws fs : ℕ) (w : List ℕ) (f query : List Float) (k ef : ℕ) (docs : List ℕ) (distances : List Float) where
  abbrev refusal : ℕ
  refusal = first_refusal (search_checks w query k ef docs distances ws fs f)

  pub turned_back_lem : (number : ℕ) → number ≡ refusal → (number ≡ 0 → ⊥) → refused number docs distances ≡ search_with_ef_spec ws fs w f query k ef docs distances
  unfolding search_with_ef_spec
  turned_back_lem number e none =
      ap (λ (m : ℕ). refused m docs distances) e
      ∙ sym (pick_false {X = Reply} (reply_of usual (view w f) query k ef docs distances) (refused refusal docs distances) (ne_eqb refusal 0 (λ z. none (e ∙ z))))

  pub accepted : refusal ≡ 0 → reply_of usual (view w f) query k ef docs distances ≡ search_with_ef_spec ws fs w f query k ef docs distances
  unfolding search_with_ef_spec
  accepted e = sym (pick_true {X = Reply} (reply_of usual (view w f) query k ef docs distances) (refused refusal docs distances) (eq-eqb refusal 0 e))

  -- a search that is accepted has checked what a walk relies on
  pub checked : refusal ≡ 0 → Checked ws fs w f query k (length docs) (length distances)
  unfolding search_checks
  checked e =
      let lists = both_none (opening (scratch ws fs) w f) (own_search_checks w query k ef docs distances) (opening_numbered (scratch ws fs) w f) e in
      let t = search_taken ws fs w f query k ef docs distances e in
      record { opens = lists.0; built = t.built; components = t.components; out_room = t.docs_room; distances_room = t.distances_room }
