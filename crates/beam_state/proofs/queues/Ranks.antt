-- The ranks of the frontier: they say its order, they are below that of an empty slot, and a rank determines its node. Assumes nothing.
use mathlib.Core.Path.{◌≡◌, sym, ap, ◌∙◌}
use mathlib.Core.Bool.{Bool, ◌&&◌, ◌||◌}
use Prim.Native.Nat.{ℕ, ◌≤◌, ◌<◌}
use native.Mathlib.Omega.{arith}
use native.Mathlib.Decide.{ℕ_discrete, dec_lt}
use borrow.Author.Tests.{eq-eqb, ne_eqb, lt-ltb, le-ltb}
use lib.Dec.{T, eqb, ltb}
use lib.Ieee.{Float, binary32, fits}
use Rattle.distance.proofs.order.Laws.{key_below}
use Rattle.beam_state.specs.Inside.Tournament.{rank_of, empty_rank}
use Rattle.def_walk.specs.KeepClosest.{key_at, sooner}
use Rattle.beam_state.specs.Inside.Queues.{front_rank}

-- the order of pairs is that of their ranks
by_rank : (a b v w : ℕ) → v < 4294967296 → w < 4294967296 → (ltb a b || (eqb a b && ltb v w)) ≡ ltb (rank_of a v) (rank_of b w)
by_rank a b v w h k = elim (dec_lt a b) [
  | yes l ↦ ap (λ (t : Bool). t || (eqb a b && ltb v w)) (lt-ltb a b l) ∙ sym (lt-ltb (rank_of a v) (rank_of b w) (omega arith))
  | no l ↦ ap (λ (t : Bool). t || (eqb a b && ltb v w)) (le-ltb a b (omega arith)) ∙ elim (ℕ_discrete a b) [
    | yes e ↦ ap (λ (t : Bool). t && ltb v w) (eq-eqb a b e) ∙ elim (dec_lt v w) [
      | yes m ↦ lt-ltb v w m ∙ sym (lt-ltb (rank_of a v) (rank_of b w) (omega arith))
      | no m ↦ le-ltb v w (omega arith) ∙ sym (le-ltb (rank_of a v) (rank_of b w) (omega arith))
    ]
    | no e ↦ ap (λ (t : Bool). t && ltb v w) (ne_eqb a b e) ∙ sym (le-ltb (rank_of a v) (rank_of b w) (above (omega arith) e))
  ]
]
  where
    above : b ≤ a → (a ≡ b → ⊥) → rank_of b w ≤ rank_of a v
    above l e = elim (dec_lt b a) [ yes m ↦ omega arith | no m ↦ absurd (e (omega arith)) ]

module _ (far : ℕ → Float) (f32s : (v : ℕ) → T (fits binary32 (far v))) where
  small : (v : ℕ) → key_at far v < 4294967296
  small v = key_below (far v) (f32s v)

  pub front_order : (v w : ℕ) → v < 4294967296 → w < 4294967296 → sooner far v w ≡ ltb (front_rank far v) (front_rank far w)
  unfolding sooner
  front_order v w h k = by_rank (key_at far v) (key_at far w) v w h k

  pub front_below : (v : ℕ) → v < 4294967295 → front_rank far v < empty_rank
  front_below v h = omega (arith, small v)

  pub front_one : (v w : ℕ) → v < 4294967296 → w < 4294967296 → front_rank far v ≡ front_rank far w → v ≡ w
  front_one v w h k e = omega (arith, small v, small w)
