-- Where keys rise, distances are in part 1's order. Assumes nothing.
use mathlib.Core.List.{List, [], ◌∷◌}
use Prim.Native.Nat.{ℕ}
use lib.Ieee.{Float}
use Rattle.sorting.specs.Inside.Pairs.{Rising}
use Rattle.def_walk.specs.KeepClosest.{key_at}
use Rattle.def_walk.specs.Beam.{far_from}
use Rattle.def_walk.proofs.beam.Nearest.{from_in}
use Rattle.def_walk.proofs.beam.Distances.{not_before}
use Rattle.theorems.specs.Promise.{Nondecreasing}

pub nondecreasing : (query : List Float) (vs : List (List Float)) (nodes : List ℕ) → Rising (key_at (far_from query vs)) nodes → Nondecreasing (far_from query vs) nodes
nondecreasing query vs [] r = tt
nondecreasing query vs (i ∷ is) r =
    let key : ℕ → ℕ = key_at (far_from query vs) in
    ((λ j m. not_before query vs i j (from_in key (key i) is r.0 j m)), nondecreasing query vs is r.1)
