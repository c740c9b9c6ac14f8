-- Household counts that compute. Assumes nothing.
use mathlib.Core.Path.{◌≡◌, refl}
use mathlib.Core.List.{List, [], ◌∷◌}
use Prim.Native.Nat.{ℕ}
use lib.ListN.{replicate}
use Rattle.basics.specs.Choice.{pick}
use Rattle.basics.specs.Nodes.{has}
use Rattle.household.specs.Day.{day_of}
use Rattle.household.specs.Household.{docs_on, different, household_of}

-- the last second of day 0 and the first of day 1
last_second : day_of 86399 ≡ 0
unfolding day_of
last_second = refl

first_second : day_of 86400 ≡ 1
unfolding day_of
first_second = refl

-- five sightings: two of phone 7 and one of 8 on day 0, one of 7 and one of 9 on day 1
abbrev seconds : List ℕ
seconds = 0 ∷ 100 ∷ 86399 ∷ 86400 ∷ 90000 ∷ []

abbrev docs : List ℕ
docs = 7 ∷ 8 ∷ 7 ∷ 7 ∷ 9 ∷ []

day_0 : household_of 0 seconds docs ≡ (0, 2 ∷ [])
unfolding household_of docs_on different day_of has pick
day_0 = refl

day_1 : household_of 1 seconds docs ≡ (0, 2 ∷ [])
unfolding household_of docs_on different day_of has pick
day_1 = refl

day_2 : household_of 2 seconds docs ≡ (0, 0 ∷ [])
unfolding household_of docs_on different day_of has pick
day_2 = refl

no_sightings : household_of 0 [] [] ≡ (0, 0 ∷ [])
unfolding household_of docs_on different day_of has pick
no_sightings = refl

unequal : household_of 0 seconds [] ≡ (14, [])
unfolding household_of pick
unequal = refl

-- 512 sightings are taken, 513 are not
most : household_of 0 (replicate 512 60) (replicate 512 7) ≡ (0, 1 ∷ [])
unfolding household_of docs_on different day_of has pick
most = refl

too_many_lem : household_of 0 (replicate 513 60) (replicate 513 7) ≡ (14, [])
unfolding household_of pick
too_many_lem = refl
