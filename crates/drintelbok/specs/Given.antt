-- The structs that calls return to C, in terms of what the calls behind them answer.
use Rattle.std.specs.Prelude.{List, [], ◌∷◌, ℕ, get_or, Float, Result, Ok, Err}
use Rattle.def_calls.specs.Search.{Reply}
use Rattle.basics.specs.Refusals.{Values}
use Rattle.error.specs.declared.Refusal.{Refusal}
use Rattle.error.specs.Inside.Refused.{number_of}
use Rattle.beam_search.specs.declared.Walked.{Walked}
use Rattle.drintelbok.specs.declared.PipnnFound.{PipnnFound}
use Rattle.drintelbok.specs.declared.PipnnRecognised.{PipnnRecognised}
use Rattle.drintelbok.specs.declared.PipnnHousehold.{PipnnHousehold}

-- a search: a refusal has its number alone
abbrev pub found_of : Result Walked Refusal → PipnnFound
found_of (Ok r) = record { number = 0; count = r.count; scored = r.scored }
found_of (Err r) = record { number = number_of r; count = 0; scored = 0 }

-- .. the struct and the two outputs
abbrev pub found_with : PipnnFound → List ℕ → List Float → Reply
found_with r docs distances = record { number = r.number; count = r.count; scored = r.scored; docs = docs; distances = distances }

-- recognising: a refusal has its number alone, New no doc id
-- (Recognised `answer_values`)
abbrev pub recognition : (number : ℕ) (values : List ℕ) → PipnnRecognised
recognition number [] = record { number = number; known = 0; doc = 0; score = 0 }
recognition number (score ∷ []) = record { number = number; known = 0; doc = 0; score = score }
recognition number (doc ∷ score ∷ more) = record { number = number; known = 1; doc = doc; score = score }

unfoldable pub recognised_with : Values → PipnnRecognised
recognised_with answer = recognition answer.0 answer.1

-- the household count: a refusal has no phones (household/Household `household_values`)
unfoldable pub counted_as : Values → PipnnHousehold
counted_as answer = record { number = answer.0; phones = get_or answer.1 0 0 }
