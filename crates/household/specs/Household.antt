-- The household count (scope, Recognising and refusal 14): of a day and two lists, the seconds and the doc ids of the sightings, how many different
-- doc ids were sighted on that day.
use Rattle.std.specs.Prelude.{Bool, ◌||◌, not, List, [], ◌∷◌, ℕ, eqb, ltb, length, Result, Ok, Err}
use Rattle.basics.specs.Choice.{pick}
use Rattle.basics.specs.Nodes.{has}
use Rattle.basics.specs.Refusals.{Values}
use Rattle.error.specs.Numbers.{bad_sightings}
use Rattle.error.specs.declared.Refusal.{Refusal}
use Rattle.error.specs.Inside.Refused.{number_of}
use Rattle.household.specs.Day.{day_of}

-- the doc ids of the sightings of a day, in their order
unfoldable pub docs_on : ℕ → List ℕ → List ℕ → List ℕ
unfolding day_of pick
docs_on day [] docs = []
docs_on day (second ∷ seconds) [] = []
docs_on day (second ∷ seconds) (doc ∷ docs) = pick (eqb (day_of second) day) (doc ∷ docs_on day seconds docs) (docs_on day seconds docs)

-- a list without its repeats: of equal numbers the last stays
unfoldable pub different : List ℕ → List ℕ
unfolding pick has
different [] = []
different (x ∷ xs) = pick (has x xs) (different xs) (x ∷ different xs)

-- over 512 sightings, or lists that differ in length
abbrev pub turned_back : List ℕ → List ℕ → Bool
turned_back seconds docs = ltb 512 (length seconds) || not (eqb (length seconds) (length docs))

-- the scope's number and values for what the call returns: a refusal has nothing but its number, success how many phones
unfoldable pub household_values : Result ℕ Refusal → Values
household_values (Ok phones) = (0, phones ∷ [])
household_values (Err refusal) = (number_of refusal, [])

unfoldable pub household_of : ℕ → List ℕ → List ℕ → Values
unfolding pick docs_on different
household_of day seconds docs = pick {X = Values} (turned_back seconds docs) (bad_sightings, []) (0, length (different (docs_on day seconds docs)) ∷ [])
