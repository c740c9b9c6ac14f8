-- A text that ends in a line feed, and the number that more and more digits make. Assumes nothing.
use mathlib.Core.Path.{◌≡◌, sym, ap, ap₂, ◌∙◌}
use mathlib.Core.Bool.{true, false≢true}
use mathlib.Core.List.{List, [], ◌∷◌, ◌++◌}
use mathlib.Core.Logic.{inr}
use Prim.Native.Nat.{ℕ}
use lib.Dec.{eqb}
use lib.ListN.{take, drop, take-append-drop}
use lib.Pointwise.{pointwise}
use Rattle.std.proofs.lemmas.Bool.{eqb-true}
use Rattle.basics.proofs.Tests.{both_true}
use Rattle.replay.specs.Inside.Text.{WithoutEnd}

one_feed : (xs : List ℕ) → pointwise eqb xs (10 ∷ []) ≡ true → xs ≡ 10 ∷ []
one_feed [] h = absurd (false≢true h)
one_feed (x ∷ []) h = ap (λ (b : ℕ). b ∷ []) (eqb-true x 10 (both_true _ _ h).0)
one_feed (x ∷ y ∷ ys) h = absurd (false≢true (both_true (eqb x 10) _ h).1)

-- what stands before the line feed
pub before_feed : (line rest : List ℕ) (n : ℕ) → pointwise eqb (drop n line) (10 ∷ []) ≡ true → rest ≡ take n line → WithoutEnd line rest
before_feed line rest n h e =
    inr (sym (take-append-drop n line) ∙ ap₂ (λ (xs ys : List ℕ). xs ++ ys) (sym e) (one_feed (drop n line) h))
