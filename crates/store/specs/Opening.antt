-- The checks with which every call but `new` begins (scope, Refusals): 3, 4, 3, 4.
use Rattle.std.specs.Prelude.{Bool, false, not, ◌||◌, List, [], ◌∷◌, ℕ, ltb, length, Float, Option, Some, None}
use Rattle.basics.specs.Refusals.{Check, check}
use Rattle.error.specs.Numbers.{slice_too_short, not_well_formed}
use Rattle.store.specs.declared.Scratch.{Scratch}
use Rattle.store.specs.Layout.{word, header_size, dimension_at, degree_at, capacity_at, words_size, floats_size, scratch_words, scratch_floats}
use Rattle.store.specs.WellFormed.{header_ok, rest_ok}

-- scratch of these two lengths, passed in
abbrev pub scratch : ℕ → ℕ → Option Scratch
scratch words floats = Some (record { words = words; floats = floats })

-- scratch is passed in, and is too short for a capacity of C
abbrev pub scratch_short : ℕ → Option Scratch → Bool
scratch_short C None = false
scratch_short C (Some lent) = ltb lent.words (scratch_words C) || ltb lent.floats (scratch_floats C)

-- a store is shorter than its shape asks
abbrev pub store_short : ℕ → ℕ → ℕ → List ℕ → List Float → Bool
store_short C D dimension w f = ltb (length w) (words_size C D) || ltb (length f) (floats_size C dimension)

-- what is passed in is shorter than the header's shape asks
abbrev pub too_short : Option Scratch → List ℕ → List Float → Bool
too_short lent w f = store_short (word w capacity_at) (word w degree_at) (word w dimension_at) w f || scratch_short (word w capacity_at) lent

unfoldable pub opening : Option Scratch → List ℕ → List Float → List Check
unfolding header_ok rest_ok
opening lent w f =
    check (ltb (length w) header_size) slice_too_short
    ∷ check (not (header_ok w)) not_well_formed
    ∷ check (too_short lent w f) slice_too_short
    ∷ check (not (rest_ok w f)) not_well_formed
    ∷ []
