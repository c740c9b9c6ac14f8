-- Sums of floats (scope, part 1): numbers are added from the first on, each step rounded once, starting at +0. Over any format.
use Rattle.std.specs.Prelude.{false, List, [], ◌∷◌, pos, Float}
use Rattle.std.specs.Float.{Format, fin}
use Rattle.std.specs.Float.Ieee.{add, mul}

abbrev pub +zero : Float
+zero = fin false 0 (pos 0)

abbrev pub +one : Float
+one = fin false 1 (pos 0)

-- `total` with each number added, from the first on
unfoldable pub sum_from : Format → Float → List Float → Float
sum_from f total [] = total
sum_from f total (t ∷ ts) = sum_from f (add f total t) ts

abbrev pub sum_of : Format → List Float → Float
sum_of f ts = sum_from f +zero ts

-- the products of two lists, component by component, as far as the shorter one goes
unfoldable pub products : Format → List Float → List Float → List Float
products f [] ys = []
products f (x ∷ xs) [] = []
products f (x ∷ xs) (y ∷ ys) = mul f x y ∷ products f xs ys
