-- The first few of a sorted list are the nearest. Assumes nothing.
use mathlib.Core.Path.{ap}
use mathlib.Core.Logic.{inl, inr}
use mathlib.Core.List.{List, [], ◌∷◌}
use mathlib.Core.List.Memᴰ.{cases_cons as in-cons}
use mathlib.Core.List.Memᴰ.{head as here}
use mathlib.Core.List.Memᴰ.{not-nil as in-nil}
use mathlib.Core.List.Memᴰ.{tail as there}
use mathlib.Core.List.{Memᴰ as In}
use Prim.Native.Nat.{ℕ, zero, suc, ◌≤◌}
use native.Mathlib.Omega.{arith}
use lib.ListN.{take}
use Rattle.sorting.specs.Inside.Pairs.{From, Rising}

module _ {A : Type 0} (key : A → ℕ) where
  pub from_in : (k : ℕ) (ys : List A) → From key k ys → (y : A) → In y ys → k ≤ key y
  from_in k [] f y m = absurd (in-nil m)
  from_in k (z ∷ ys) f y m = elim (in-cons m) [ inl e ↦ omega (arith, f.0, ap key e) | inr n ↦ from_in k ys f.1 y n ]

  -- what is left out is no nearer than what is among them
  pub left_out : (m : ℕ) (xs : List A) → Rising key xs → (x y : A) → In x (take m xs) → In y xs → (In y (take m xs) → ⊥) → key x ≤ key y
  left_out zero xs r x y a b out = absurd (in-nil a)
  left_out (suc m) [] r x y a b out = absurd (in-nil a)
  left_out (suc m) (z ∷ xs) r x y a b out = elim (in-cons b) [
    | inl e ↦ absurd (out (here e))
    | inr n ↦ elim (in-cons a) [ inl p ↦ omega (arith, from_in (key z) xs r.0 y n, ap key p) | inr p ↦ left_out m xs r.1 x y p n (λ q. out (there q)) ]
  ]
