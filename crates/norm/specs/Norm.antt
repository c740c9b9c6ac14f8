-- The length of a vector, and the vector scaled by it (scope, part 2).
use Rattle.std.specs.Prelude.{false, List, map, ◌^◌, Float}
use Rattle.std.specs.Float.{Format}
use Rattle.std.specs.Float.Ieee.{round, lt, div}
use Rattle.basics.specs.Choice.{pick}
use Rattle.basics.specs.Sum.{sum_from, sum_of, products}
use Rattle.norm.specs.Root.{root_of}

-- 1e-10, rounded to the format
unfoldable pub tiny : Format → Float
unfolding round
tiny f = round f false 1 (10 ^ 10)

-- the squares added from the first component on
unfoldable pub squares_of : Format → List Float → Float
unfolding sum_from products
squares_of f v = sum_of f (products f v v)

unfoldable pub length_of : Format → List Float → Float
unfolding squares_of root_of
length_of f v = root_of f (squares_of f v)

-- each component divided by the length, where that is above 1e-10; otherwise the vector as it is
unfoldable pub scaled_of : Format → List Float → List Float
unfolding pick tiny length_of
scaled_of f v = pick (lt (tiny f) (length_of f v)) (map (λ (x : Float). div f x (length_of f v)) v) v
