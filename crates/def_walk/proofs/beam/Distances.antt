-- A query's distances are f32, so that their keys have part 1's order. Assumes nothing.
use mathlib.Core.Path.{◌≡◌, ◌∙◌}
use mathlib.Core.Bool.{false}
use mathlib.Core.List.{List}
use Prim.Native.Nat.{ℕ, ◌≤◌}
use lib.Dec.{T, eqb}
use lib.ListN.{length}
use lib.Ieee.{Float, binary32, fits}
use lib.Ieee.Fits.{sub-fits, inf-fits}
use borrow.Author.Tests.{le-ltb}
use Rattle.basics.specs.Choice.{pick_ind}
use Rattle.basics.specs.Sum.{+one}
use Rattle.distance.specs.Order.{before}
use Rattle.distance.proofs.order.Laws.{before_key}
use Rattle.distance.specs.Distance.{distance_of}
use Rattle.distance.specs.Vectors.{vector_of}
use Rattle.def_walk.specs.KeepClosest.{key_at}
use Rattle.def_walk.specs.Beam.{far_from}

module _ (query : List Float) (vs : List (List Float)) where
  abbrev far : ℕ → Float
  far = far_from query vs

  pub far_fits : (i : ℕ) → T (fits binary32 (far i))
  unfolding far_from distance_of
  far_fits i =
      pick_ind (λ (d : Float). T (fits binary32 d)) (eqb (length query) (length (vector_of vs i)))
      (λ _. sub-fits binary32 +one _) (λ _. inf-fits binary32 false)

  -- a node whose key is no smaller does not stand before
  pub not_before : (i j : ℕ) → key_at far i ≤ key_at far j → before (far j) (far i) ≡ false
  not_before i j h = before_key binary32 (far j) (far i) (far_fits j) (far_fits i) ∙ le-ltb (key_at far j) (key_at far i) h
