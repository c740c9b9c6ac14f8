-- How often a number stands in a list, where the list grows, changes at a place, or has a node inserted. Assumes nothing.
use mathlib.Core.Path.{◌≡◌, refl, sym}
use mathlib.Core.Bool.{Bool, true, false}
use mathlib.Core.List.{List, [], ◌∷◌, ◌++◌, map}
use Prim.Native.Nat.{ℕ, zero, suc, ◌+◌, ◌<◌}
use native.Mathlib.Omega.{arith}
use borrow.Author.Tests.{eq-eqb, eqb-true}
use lib.Dec.{eqb}
use lib.ListN.{length, get_or, set}
use Rattle.basics.specs.Choice.{pick, pick_ind, pick_true, pick_false}
use Rattle.def_walk.specs.KeepClosest.{insert_in}
use Rattle.beam_state.specs.Inside.Queues.{times}

-- one for the number itself
abbrev pub once : ℕ → ℕ → ℕ
once x y = pick {X = ℕ} (eqb x y) 1 0

pub times_more : (x y : ℕ) (l : List ℕ) → times x (l ++ (y ∷ [])) ≡ times x l + once x y
unfolding times
times_more x y [] = omega arith
times_more x y (z ∷ l) = let h = times_more x y l in omega arith

pub times-set : (x y : ℕ) (l : List ℕ) (i : ℕ) → i < length l → times x (set l i y) + once x (get_or l i 0) ≡ times x l + once x y
unfolding times
times-set x y [] i h = absurd (omega arith)
times-set x y (z ∷ l) zero h = omega arith
times-set x y (z ∷ l) (suc i) h = let r = times-set x y l i (omega arith) in omega arith

pub times_insert : (x : ℕ) (key : ℕ → ℕ) (precedes : ℕ → ℕ → Bool) (v : ℕ) (l : List ℕ) → times x (map key (insert_in precedes v l)) ≡ once x (key v) + times x (map key l)
unfolding times insert_in
times_insert x key precedes v [] = refl
times_insert x key precedes v (w ∷ l) =
    pick_ind (λ (r : List ℕ). times x (map key r) ≡ once x (key v) + (once x (key w) + times x (map key l))) (precedes v w)
    (λ _. refl) (λ _. let h = times_insert x key precedes v l in omega arith)

-- what stands at a place stands there once at least
pub times_at : (l : List ℕ) (i : ℕ) → i < length l → 0 < times (get_or l i 0) l
unfolding times
times_at [] i h = absurd (omega arith)
times_at (y ∷ l) zero h = let e : once y y ≡ 1 = pick_true 1 0 (eq-eqb y y refl) in omega arith
times_at (y ∷ l) (suc i) h = let r = times_at l i (omega arith) in omega arith

-- and the other way: it stands at some place
pub record Place (x : ℕ) (l : List ℕ) : Type 0 where
  pub at : ℕ
  pub inside : at < length l
  pub is : get_or l at 0 ≡ x

pub place_of : (x : ℕ) (l : List ℕ) → 0 < times x l → Place x l
unfolding times
place_of x [] h = absurd (omega arith)
place_of x (y ∷ l) h = go (place_of x l) (eqb x y) refl
  where
    next : Place x l → Place x (y ∷ l)
    next p = record { at = suc p.at; inside = let i = p.inside in omega arith; is = p.is }

    go : (0 < times x l → Place x l) → (b : Bool) → eqb x y ≡ b → Place x (y ∷ l)
    go rest true e = record { at = 0; inside = omega arith; is = sym (eqb-true x y e) }
    go rest false e = next (rest (let z : once x y ≡ 0 = pick_false 1 0 e in omega arith))

-- a node's key among the keys of some nodes
pub times_key : (key : ℕ → ℕ) (u : ℕ) (l : List ℕ) → 0 < times (key u) (map key (u ∷ l))
unfolding times
times_key key u l = let e : once (key u) (key u) ≡ 1 = pick_true 1 0 (eq-eqb (key u) (key u) refl) in omega arith
