-- The checks that calls begin with, in their order, computed: each of these stores has every fault from its own number on. Assumes nothing.
use mathlib.Core.Path.{◌≡◌, refl}
use mathlib.Core.List.{List, [], ◌∷◌, ◌++◌}
use Prim.Native.Nat.{ℕ}
use lib.ListN.{replicate}
use lib.Ieee.{nan, of_bits, lt, le, eq, is_nan}
use Rattle.basics.specs.Choice.{pick}
use Rattle.basics.specs.Refusals.{first_refusal}
use Rattle.std.proofs.Common.{None}
use Rattle.store.specs.Opening.{opening}

-- an open store of one phone with one feature, capacity 1, no degree: 20 words and a float
abbrev header : List ℕ
header = 0 ∷ 1 ∷ 1 ∷ 256 ∷ 0 ∷ 0 ∷ 0 ∷ 1 ∷ 3 ∷ 0 ∷ 0 ∷ 1 ∷ 0x3fe0_0000 ∷ 0 ∷ 0x3f99_999a ∷ 0 ∷ []

no_header : first_refusal (opening None (replicate 15 7) []) ≡ 3
unfolding first_refusal opening pick of_bits lt le eq is_nan
no_header = refl

bad_header : first_refusal (opening None (replicate 16 7) []) ≡ 4
unfolding first_refusal opening pick of_bits lt le eq is_nan
bad_header = refl

-- a word short, and a row with an entry too many
short : first_refusal (opening None (header ++ (10 ∷ 1 ∷ 0 ∷ [])) (nan ∷ [])) ≡ 3
unfolding first_refusal opening pick of_bits lt le eq is_nan
short = refl

bad_row : first_refusal (opening None (header ++ (10 ∷ 1 ∷ 0 ∷ 0 ∷ [])) (nan ∷ [])) ≡ 4
unfolding first_refusal opening pick of_bits lt le eq is_nan
bad_row = refl
