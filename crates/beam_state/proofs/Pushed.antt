-- Nodes pushed one after the other: in two parts, and what is seen stays seen. Assumes nothing.
use mathlib.Core.Path.{◌≡◌, refl}
use mathlib.Core.List.Memᴰ.{tail as there}
use mathlib.Core.List.{List, [], ◌∷◌, ◌++◌, Memᴰ as In}
use Prim.Native.Nat.{ℕ}
use lib.Ieee.{Float}
use Rattle.basics.specs.Nodes.{NoDup}
use Rattle.def_walk.specs.Walk.{State}
use Rattle.def_walk.specs.Beam.{to_frontier}
use Rattle.beam_state.specs.Inside.State.{pushed}

module _ (far : ℕ → Float) where
  pub pushed_append : (xs ys : List ℕ) (s : State) → pushed far (xs ++ ys) s ≡ pushed far ys (pushed far xs s)
  unfolding pushed
  pushed_append [] ys s = refl
  pushed_append (x ∷ xs) ys s = pushed_append xs ys (record { seen = x ∷ s.seen; front = to_frontier far x s.front })

  pub pushed_keeps : (vs : List ℕ) (s : State) (x : ℕ) → In x s.seen → In x (pushed far vs s).seen
  unfolding pushed
  pushed_keeps [] s x m = m
  pushed_keeps (v ∷ vs) s x m = pushed_keeps vs (record { seen = v ∷ s.seen; front = to_frontier far v s.front }) x (there m)

  pub pushed_once : (vs : List ℕ) (s : State) → NoDup (pushed far vs s).seen → NoDup s.seen
  unfolding pushed
  pushed_once [] s d = d
  pushed_once (v ∷ vs) s d = (pushed_once vs (record { seen = v ∷ s.seen; front = to_frontier far v s.front }) d).1
