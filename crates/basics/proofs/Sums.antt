-- The equations of a sum of products that a loop over components uses: one step, and the end. Assumes nothing.
use mathlib.Core.List.{List, [], ◌∷◌}
use lib.Ieee.{Float, Format, add, mul, nan}
use Rattle.basics.specs.Sum.{sum_from, products}
use mathlib.Core.Path.{◌≡◌, refl, ap}
use Prim.Native.Nat.{ℕ, ◌+◌, ◌≤◌, ◌<◌}
use native.Mathlib.Numerals.{add-one}
use lib.ListN.{length, get_or, take, drop, drop_of_length-le}
use lib.Seq.{drop-cons, take-nil}

-- the sum of products from component i on takes one step
pub sum_step : (f : Format) (total : Float) (xs ys : List Float) (i : ℕ) → i < length xs → i < length ys
    → sum_from f total (products f (drop i xs) (drop i ys))
    ≡ sum_from f (add f total (mul f (get_or xs i nan) (get_or ys i nan))) (products f (drop (i + 1) xs) (drop (i + 1) ys))
unfolding sum_from products
sum_step f total xs ys i hx hy = rw (drop-cons xs i nan, drop-cons ys i nan, add-one i)

-- it ends where one of the two ends
pub sum_end_left : (f : Format) (total : Float) (xs ys : List Float) (i : ℕ) → length xs ≤ i
    → sum_from f total (products f (drop i xs) (drop i ys)) ≡ total
unfolding sum_from products
sum_end_left f total xs ys i h = rw (drop_of_length-le xs h)

-- what lies past the shorter list plays no part
pub products-take : (f : Format) (xs ys : List Float) → products f (take (length ys) xs) ys ≡ products f xs ys
unfolding products
products-take f [] ys = ap (λ (l : List Float). products f l ys) (take-nil (length ys))
products-take f (x ∷ xs) [] = refl
products-take f (x ∷ xs) (y ∷ ys) = ap (λ (l : List Float). mul f x y ∷ l) (products-take f xs ys)
