-- The fold over pairs is the sum of their products.
use mathlib.Core.Path.{◌≡◌, refl, ◌∙◌}
use mathlib.Core.List.{List, [], ◌∷◌}
use lib.Ieee.{Float, binary32, add, mul}
use Rattle.std.proofs.Common.{rules, tests}
use Rattle.std.proofs.lemmas.Iterator.{YieldsList-from_slice, YieldsList-from_zip}
use Rattle.std.proofs.lemmas.Iterator.Consumers.{fold_from_yields_List}
use Rattle.std.specs.List.{fold, zip}
use Rattle.basics.specs.Sum.{sum_from, products}
use Rattle.simd.proofs.add_products.Goals as goal

fold_of_pairs : (s : Float) (xs ys : List Float) → fold (λ (total : Float) (p : Float × Float). add binary32 total (mul binary32 p.0 p.1)) s (zip xs ys) ≡ sum_from binary32 s (products binary32 xs ys)
unfolding sum_from products
fold_of_pairs s [] ys = refl
fold_of_pairs s (x ∷ xs) [] = refl
fold_of_pairs s (x ∷ xs) (y ∷ ys) = fold_of_pairs (add binary32 s (mul binary32 x y)) xs ys

pub returns : goal.returns
returns c =
    let a = c.args.a.now in
    let b = c.args.b.now in
    fold_from_yields_List _ (λ (total : Float) (p : Float × Float). add binary32 total (mul binary32 p.0 p.1)) c.args.sum c.fold.result c.fold.ensures.ran
    (YieldsList-from_zip (YieldsList-from_slice a cc) (YieldsList-from_slice b cc))
    (λ t x r q k. search (rules, tests)) ∙ fold_of_pairs c.args.sum a b
