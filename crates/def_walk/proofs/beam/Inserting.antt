-- Insertion into frontier and held: one node more, and the others stay. So a frontier that is kept sorted is one that a walk may have, and
-- min b (scored) nodes are held. Assumes nothing.
use mathlib.Core.Path.{◌≡◌, refl, ap}
use mathlib.Core.Logic.{◌⊎◌, inl, inr}
use mathlib.Core.Bool.{Bool}
use mathlib.Core.List.{List, [], ◌∷◌}
use mathlib.Core.List.Memᴰ.{cases_cons as in-cons}
use mathlib.Core.List.Memᴰ.{head as here}
use mathlib.Core.List.Memᴰ.{not-nil as in-nil}
use mathlib.Core.List.Memᴰ.{tail as there}
use mathlib.Core.List.{Memᴰ as In}
use Prim.Native.Nat.{ℕ, suc, min}
use native.Mathlib.Omega.{arith}
use lib.Dec.{ltb, ltb→lt, nltb→le}
use lib.ListN.{length}
use lib.Ieee.{Float, lt}
use Rattle.basics.specs.Choice.{pick_ind}
use Rattle.def_walk.proofs.walk.Laws.{Pushes}
use Rattle.def_walk.specs.KeepClosest.{insert_in, sooner, hold, replace_worst, keep_closest, held_of}
use Rattle.def_walk.specs.Beam.{to_frontier}

module _ (precedes : ℕ → ℕ → Bool) where
  insert_new : (v : ℕ) (l : List ℕ) → In v (insert_in precedes v l)
  unfolding insert_in
  insert_new v [] = here refl
  insert_new v (w ∷ l) = pick_ind (In v) (precedes v w) (λ _. here refl) (λ _. there (insert_new v l))

  insert_old : (x v : ℕ) (l : List ℕ) → In x l → In x (insert_in precedes v l)
  unfolding insert_in
  insert_old x v [] m = absurd (in-nil m)
  insert_old x v (w ∷ l) m = pick_ind (In x) (precedes v w) (λ _. there m) (λ _. elim (in-cons m) [ inl q ↦ here q | inr k ↦ there (insert_old x v l k) ])

  pub insert_only : (x v : ℕ) (l : List ℕ) → In x (insert_in precedes v l) → (x ≡ v) ⊎ In x l
  unfolding insert_in
  insert_only x v [] = λ m. in-cons m
  insert_only x v (w ∷ l) =
      pick_ind (λ (r : List ℕ). In x r → (x ≡ v) ⊎ In x (w ∷ l)) (precedes v w) (λ _ m. in-cons m)
      (λ _ m. elim (in-cons {b = w} {l = insert_in precedes v l} m) [
        | inl q ↦ inr (here q)
        | inr k ↦ elim (insert_only x v l k) [ inl q ↦ inl q | inr j ↦ inr (there j) ]
      ])

  pub insert_one : (v : ℕ) (l : List ℕ) → length (insert_in precedes v l) ≡ suc (length l)
  unfolding insert_in
  insert_one v [] = refl
  insert_one v (w ∷ l) = pick_ind (λ (r : List ℕ). length r ≡ suc (suc (length l))) (precedes v w) (λ _. refl) (λ _. ap suc (insert_one v l))

module _ (far : ℕ → Float) where
  pub frontier_laws : Pushes (to_frontier far)
  unfolding to_frontier
  frontier_laws = record { new = insert_new (sooner far); old = insert_old (sooner far); only = insert_only (sooner far); one = insert_one (sooner far) }

  pub hold_one : (v : ℕ) (held : List ℕ) → length (hold far v held) ≡ suc (length held)
  unfolding hold
  hold_one v held = insert_one (λ x y. sooner far y x) v held

  replace_length : (v : ℕ) (held : List ℕ) → length (replace_worst far v held) ≡ length held
  unfolding replace_worst
  replace_length v [] = refl
  replace_length v (w ∷ held) = pick_ind (λ (r : List ℕ). length r ≡ suc (length held)) (lt (far v) (far w)) (λ _. hold_one v held) (λ _. refl)

  pub held_length : (b : ℕ) (scored : List ℕ) → length (held_of far b scored) ≡ min b (length scored)
  unfolding held_of keep_closest
  held_length b [] = omega arith
  held_length b (v ∷ scored) =
      let held : List ℕ = held_of far b scored in
      let h : length held ≡ min b (length scored) = held_length b scored in
      pick_ind (λ (r : List ℕ). length r ≡ min b (suc (length scored))) (ltb (length held) b)
      (λ t. omega (arith, hold_one v held, ltb→lt (length held) b t))
      (λ t. omega (arith, replace_length v held, nltb→le (length held) b t))
