-- The fold is the sum of the products of the vector with itself. Assumes nothing.
use mathlib.Core.Path.{◌≡◌, refl, ◌∙◌}
use mathlib.Core.List.{List, [], ◌∷◌}
use lib.Ieee.{Float, binary32, add, mul, of_bits}
use Rattle.std.proofs.Common.{rules, tests}
use Rattle.std.specs.List.{fold}
use Rattle.std.proofs.lemmas.Iterator.{YieldsList-from_slice}
use Rattle.std.proofs.lemmas.Iterator.Consumers.{fold_from_yields_List}
use Rattle.basics.specs.Sum.{+zero, sum_from, products}
use Rattle.norm.specs.Norm.{squares_of}
use Rattle.norm.proofs.sum_of_squares.Goals as goal

fold_of_squares : (s : Float) (xs : List Float) → fold (λ (sum x : Float). add binary32 sum (mul binary32 x x)) s xs ≡ sum_from binary32 s (products binary32 xs xs)
unfolding sum_from products
fold_of_squares s [] = refl
fold_of_squares s (x ∷ xs) = fold_of_squares (add binary32 s (mul binary32 x x)) xs

pub returns : goal.returns
unfolding of_bits squares_of
returns c =
    fold_from_yields_List _ (λ (sum x : Float). add binary32 sum (mul binary32 x x)) +zero c.fold.result c.fold.ensures.ran (YieldsList-from_slice c.args.v.now cc)
    (λ s x r q k. search (rules, tests)) ∙ fold_of_squares +zero c.args.v.now
