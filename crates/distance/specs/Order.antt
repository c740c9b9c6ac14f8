-- The order of distances (scope, part 1): `total_cmp`, a NaN taken as positive. So −infinity comes first, −0 before +0, a NaN last. Over the values
-- of any format; there is one NaN, which no value follows.
use Rattle.std.specs.Prelude.{ℕ, ◌+◌, ◌-◌, ◌*◌, Bool, true, false, not, ◌&&◌, leb, ltb, Float}
use Rattle.std.specs.Float.{nan, inf, fin, Format}
use Rattle.std.specs.Float.Ieee.{up, down, is_nan, top, to_bits, of_bits}
use Rattle.basics.specs.Choice.{pick}

-- ±a stands before ±b: of two with different signs the negative one, also where both are 0
abbrev pub ahead : Bool → ℕ → Bool → ℕ → Bool
ahead false a false b = ltb a b
ahead false a true b = false
ahead true a false b = true
ahead true a true b = ltb b a

-- x stands before y
unfoldable pub before : Float → Float → Bool
before nan y = false
before (inf s) nan = true
before (inf s) (inf t) = s && not t
before (inf s) (fin t n d) = s
before (fin s m e) nan = true
before (fin s m e) (inf t) = not t
before (fin s m e) (fin t n d) = ahead s (m * up e * down d) t (n * up d * down e)

-- A whole number with the same order: the bit pattern with its sign turned, and all its bits turned under a sign; all ones for a NaN.
unfoldable pub key_of : Format → Float → ℕ
unfolding pick
key_of f x = pick (is_nan x) (2 * top f - 1) (pick (leb (top f) (to_bits f x)) (2 * top f - 1 - to_bits f x) (top f + to_bits f x))

-- the value that has a key: the pattern is restored
unfoldable pub value_of : Format → ℕ → Float
unfolding pick
value_of f k = of_bits f (pick (leb (top f) k) (k - top f) (2 * top f - 1 - k))
