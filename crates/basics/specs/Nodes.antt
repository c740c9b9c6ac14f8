-- Lists of node numbers: membership as a test, lists with no repeats, lists of numbers below n.
use Rattle.std.specs.Prelude.{Bool, false, ◌||◌, ℕ, ◌<◌, eqb}
use mathlib.Core.List.{List, [], ◌∷◌, Memᴰ as In}

unfoldable pub has : ℕ → List ℕ → Bool
has x [] = false
has x (y ∷ l) = eqb x y || has x l

abbrev pub NoDup : List ℕ → Type 0
NoDup [] = Unit
NoDup (x ∷ l) = (In x l → ⊥) × NoDup l

abbrev pub Below : ℕ → List ℕ → Type 0
Below n l = (x : ℕ) → In x l → x < n
