-- Every node of a store is live: a search scores all that its walk sees, as the walk of part 8 does. Assumes nothing.
use mathlib.Core.Path.{◌≡◌}
use mathlib.Core.List.{List, [], ◌∷◌, reverse}
use Prim.Native.Nat.{ℕ}
use lib.Ieee.{Float}
use Rattle.store.specs.View.{View, list_in}
use Rattle.def_walk.specs.declared.Stops.{Stops}
use Rattle.def_walk.specs.Walk.{walk}
use Rattle.def_walk.specs.Beam.{places_for, to_frontier, too_far, too_many}
use Rattle.def_walk.proofs.beam.Laws.{alive, alive_every, all_live}
use Rattle.def_calls.specs.Search.{far_in, network_in, scored_in}

module _ (v : View) where
  pub alive_in : alive (network_in v) ≡ v.n
  alive_in = alive_every (network_in v) (λ i. tt)

  pub scored_walk : (stops : Stops) (query : List Float) (k ef : ℕ)
      → scored_in stops v query k ef
      ≡ reverse (walk (list_in v) (to_frontier (far_in v query)) (too_far stops (far_in v query) (places_for ef k)) (too_many stops (places_for ef k))
      v.n (v.entry ∷ []) (v.entry ∷ []))
  unfolding scored_in
  scored_walk stops query k ef = all_live stops (network_in v) (far_in v query) (places_for ef k) (λ i. tt)
