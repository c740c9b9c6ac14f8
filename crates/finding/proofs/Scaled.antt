-- A query that stands scaled at the front of a longer list. Assumes nothing.
use mathlib.Core.Path.{◌≡◌, ap, ◌∙◌}
use mathlib.Core.List.{List, ◌++◌}
use Prim.Native.Nat.{ℕ, ◌≤◌}
use native.Mathlib.Omega.{arith}
use lib.ListN.{length, take, length-append}
use lib.Seq.{take_at}
use lib.Ieee.{Float, binary32}
use Rattle.norm.specs.Norm.{scaled_of}
use Rattle.norm.proofs.Laws.{length-scaled}
use Rattle.sorting.specs.declared.Keyed.{Keyed}
use Rattle.store.specs.View.{view}
use Rattle.def_walk.specs.declared.Stops.{Stops}
use Rattle.def_walk.specs.Beam.{far_from}
use Rattle.def_calls.specs.Search.{far_in}
use Rattle.finding.specs.Inside.Finding.{Checked, nodes_by, nodes_found}

module _ (front rest query : List Float) (e : front ≡ scaled_of binary32 query) where
  pub room_is : take (length query) (front ++ rest) ≡ scaled_of binary32 query
  room_is = take_at front rest (length query) (ap length e ∙ length-scaled binary32 query) ∙ e

  pub room_long : length query ≤ length (front ++ rest)
  room_long =
      let many : length front ≡ length query = ap length e ∙ length-scaled binary32 query in
      omega (arith, many, length-append front rest)

  pub room_length : length (take (length query) (front ++ rest)) ≡ length query
  room_length = ap length room_is ∙ length-scaled binary32 query

-- what is found for a scaled query is found for the query
module _ (ws fs : ℕ) (w : List ℕ) (f query scaled : List Float) (k out distances : ℕ) (e : scaled ≡ scaled_of binary32 query) where
  pub checked_scaled : Checked ws fs w f query k out distances → Checked ws fs w f scaled k out distances
  checked_scaled checked = record {
    opens = checked.opens;
    built = checked.built;
    components = ap length e ∙ length-scaled binary32 query ∙ checked.components;
    out_room = checked.out_room;
    distances_room = checked.distances_room;
  }

pub found_scaled : (w : List ℕ) (f query scaled : List Float) (k : ℕ) (out : List Keyed) (distances : List Float) → scaled ≡ scaled_of binary32 query
    → (stops : Stops) (places : ℕ)
    → nodes_by stops (far_from scaled (view w f).vectors) (view w f) k places out distances ≡ nodes_found stops (view w f) query k places out distances
unfolding nodes_found far_in
found_scaled w f query scaled k out distances e stops places =
    ap (λ (l : List Float). nodes_by stops (far_from l (view w f).vectors) (view w f) k places out distances) e
