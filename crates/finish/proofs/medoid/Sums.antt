-- One row added to the sums, as a loop over components makes it. Assumes nothing.
use mathlib.Core.Path.{◌≡◌, refl, sym, ap, ap₂, ◌∙◌}
use mathlib.Core.List.{List, [], ◌∷◌, ◌++◌, append-nil}
use Prim.Native.Nat.{ℕ, suc, ◌+◌, ◌≤◌, ◌<◌}
use native.Mathlib.Nat.{le_of_lt}
use native.Mathlib.Numerals.{add-one}
use native.Mathlib.Omega.{arith}
use lib.ListN.{length, get_or, set, take, drop, length-take, drop_of_length-le}
use lib.Seq.{take-suc, take_all, drop-cons, get_or_at, length-take-le}
use lib.Ieee.{Float, Format, binary32, nan, add}
use Rattle.basics.proofs.Loops.{front_set}
use Rattle.def_graph.specs.Centroid.{add_to}

pub length-add_to : (f : Format) (s v : List Float) → length (add_to f s v) ≡ length s
unfolding add_to
length-add_to f [] v = refl
length-add_to f (x ∷ s) [] = refl
length-add_to f (x ∷ s) (y ∷ v) = ap suc (length-add_to f s v)

add_to_snoc : (f : Format) (s v : List Float) (x y : Float) → length s ≡ length v → add_to f (s ++ (x ∷ [])) (v ++ (y ∷ [])) ≡ add_to f s v ++ (add f x y ∷ [])
unfolding add_to
add_to_snoc f [] [] x y e = refl
add_to_snoc f [] (b ∷ v) x y e = absurd (omega arith)
add_to_snoc f (a ∷ s) [] x y e = absurd (omega arith)
add_to_snoc f (a ∷ s) (b ∷ v) x y e = ap (λ (l : List Float). add f a b ∷ l) (add_to_snoc f s v x y (omega arith))

-- ---- over components

-- the first j sums have their component added
abbrev pub added : List Float → List Float → ℕ → List Float
added sums row j = add_to binary32 (take j sums) (take j row) ++ drop j sums

module _ (sums row : List Float) (e : length row ≡ length sums) where
  front_length : (j : ℕ) → j ≤ length sums → length (add_to binary32 (take j sums) (take j row)) ≡ j
  front_length j h = length-add_to binary32 (take j sums) (take j row) ∙ length-take-le j sums h

  pub added_get : (j : ℕ) → j < length sums → get_or (added sums row j) j nan ≡ get_or sums j nan
  added_get j h =
      ap (λ (l : List Float). get_or (add_to binary32 (take j sums) (take j row) ++ l) j nan) (drop-cons sums j nan h)
      ∙ get_or_at (add_to binary32 (take j sums) (take j row)) (get_or sums j nan) (drop (suc j) sums) nan j (front_length j (le_of_lt h))

  pub added_set : (j : ℕ) → j < length sums → set (added sums row j) j (add binary32 (get_or sums j nan) (get_or row j nan)) ≡ added sums row (j + 1)
  added_set j h =
      front_set sums (add_to binary32 (take j sums) (take j row)) j (add binary32 (get_or sums j nan) (get_or row j nan)) (front_length j (le_of_lt h)) h
      ∙ ap (λ (l : List Float). l ++ drop (j + 1) sums)
      (sym (add_to_snoc binary32 (take j sums) (take j row) (get_or sums j nan) (get_or row j nan) (omega (arith, length-take j sums, length-take j row)))
      ∙ ap₂ (add_to binary32) (sym (take-suc sums j nan h)) (sym (take-suc row j nan (omega arith)))
      ∙ ap (λ (k : ℕ). add_to binary32 (take k sums) (take k row)) (sym (add-one j)))

  pub added_end : (j : ℕ) → length sums ≤ j → added sums row j ≡ add_to binary32 sums row
  added_end j h =
      ap₂ (λ (a : List Float) (b : List Float). add_to binary32 a b ++ drop j sums) (take_all j sums h) (take_all j row (omega arith))
      ∙ ap (λ (l : List Float). add_to binary32 sums row ++ l) (drop_of_length-le sums h)
      ∙ append-nil (add_to binary32 sums row)
