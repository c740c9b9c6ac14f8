-- A test of every element of a list, the elements for which a test holds, and a list cut into pieces of one length.
use Rattle.std.specs.Prelude.{Bool, true, ◌&&◌, List, [], ◌∷◌, ℕ, zero, suc, take, drop}
use Rattle.basics.specs.Choice.{pick}

unfoldable pub every {ℓ} : {A : Type ℓ} → (A → Bool) → List A → Bool
every p [] = true
every p (x ∷ xs) = p x && every p xs

-- those for which the test holds, in their order
unfoldable pub keep {ℓ} : {A : Type ℓ} → (A → Bool) → List A → List A
unfolding pick
keep test [] = []
keep test (x ∷ xs) = let kept : List _ = keep test xs in pick (test x) (x ∷ kept) kept

-- the first n pieces, of d elements each
unfoldable pub pieces {ℓ} : {A : Type ℓ} → ℕ → ℕ → List A → List (List A)
pieces d zero xs = []
pieces d (suc n) xs = take d xs ∷ pieces d n (drop d xs)
