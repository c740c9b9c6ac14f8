-- The sum that distances use (scope, part 1): products added from the first component on, each step rounded, starting at +0. Lengths and hashes have
-- their own sums: what is changed here changes distances alone.
use Rattle.std.specs.Prelude.{List, Float}
use Rattle.std.specs.Float.{Format}
use Rattle.basics.specs.Sum.{sum_from, sum_of, products}

unfoldable pub dot_of : Format → List Float → List Float → Float
unfolding sum_from products
dot_of f xs ys = sum_of f (products f xs ys)
