-- The hash of a residual (scope, part 5; `simhash_residual`): a bit for each hyperplane, by which side of it the residual c − p lies on. Over any
-- format.
use Rattle.std.specs.Prelude.{Bool, List, [], ◌∷◌, ℕ, zero, suc, ◌+◌, ◌*◌, ◌^◌, Float}
use Rattle.std.specs.Float.{Format}
use Rattle.std.specs.Float.Ieee.{sub, le}
use Rattle.basics.specs.Choice.{pick}
use Rattle.basics.specs.Sum.{+zero, sum_from, sum_of, products}
use Rattle.random.specs.Hyperplanes.{plane_number}

-- c − p, component by component
unfoldable pub residual : Format → List Float → List Float → List Float
residual f [] p = []
residual f (x ∷ c) [] = []
residual f (x ∷ c) (y ∷ p) = sub f x y ∷ residual f c p

-- numbers of the hyperplanes' stream, from number k on
unfoldable pub numbers_from : Format → ℕ → ℕ → List Float
unfolding plane_number
numbers_from f k zero = []
numbers_from f k (suc count) = plane_number f k ∷ numbers_from f (suc k) count

-- the plane of bit b starts at number b·dimension
abbrev pub plane_of : Format → ℕ → ℕ → List Float
plane_of f dimension b = numbers_from f (b * dimension) dimension

-- bit b is set where the sum is 0, −0 or above, and not where it is a NaN
unfoldable pub bit_set : Format → ℕ → List Float → List Float → ℕ → Bool
unfolding sum_from products residual numbers_from
bit_set f dimension p c b = le +zero (sum_of f (products f (residual f c p) (plane_of f dimension b)))

-- the bits below `bits`, each at its weight
unfoldable pub simhash_residual : Format → ℕ → List Float → List Float → ℕ → ℕ
unfolding pick bit_set
simhash_residual f dimension p c zero = 0
simhash_residual f dimension p c (suc bits) = simhash_residual f dimension p c bits + pick (bit_set f dimension p c bits) (2 ^ bits) 0
