-- The worked example (scope, Checked values), computed: what its `cap` line leaves of stores that held something else. Assumes nothing.
use mathlib.Core.Path.{◌≡◌, refl}
use mathlib.Core.List.{List, [], ◌∷◌, ◌++◌}
use Prim.Native.Nat.{ℕ}
use lib.ListN.{replicate}
use lib.Ieee.{nan, of_bits}
use Rattle.basics.specs.Sum.{+zero}
use Rattle.pipnn.specs.New.{new_spec}
use Rattle.pipnn.specs.Example.{params}

abbrev header : List ℕ
header = 0 ∷ 2 ∷ 0 ∷ 256 ∷ 0 ∷ 1 ∷ 0 ∷ 1 ∷ 3 ∷ 0 ∷ 0 ∷ 8 ∷ 0x3fe0_0000 ∷ 0 ∷ 0x3f99_999a ∷ 0 ∷ []

-- 56 words and 16 floats are its own, and one more of each stays
made : new_spec 2 params 8 (replicate 57 7) (replicate 17 nan) ≡ (0, header ++ (replicate 40 0 ++ 7 ∷ []), replicate 16 +zero ++ nan ∷ [])
unfolding new_spec of_bits
made = refl

-- a word short, and nothing is changed; a dimension beyond its limits comes first
short : new_spec 2 params 8 (replicate 55 7) (replicate 17 nan) ≡ (3, replicate 55 7, replicate 17 nan)
unfolding new_spec of_bits
short = refl

dimension_first : new_spec 0 params 0 [] [] ≡ (1, [], [])
unfolding new_spec
dimension_first = refl

parameters_second : new_spec 2 params 0 [] [] ≡ (2, [], [])
unfolding new_spec of_bits
parameters_second = refl
