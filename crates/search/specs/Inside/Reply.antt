-- What a search returns, as one value with its two outputs (scope, part 8).
use Rattle.std.specs.Prelude.{List, ℕ, Float, Result, Ok, Err}
use Rattle.error.specs.declared.Refusal.{Refusal}
use Rattle.error.specs.Inside.Refused.{number_of}
use Rattle.beam_search.specs.declared.Walked.{Walked}
use Rattle.def_calls.specs.Search.{Reply, refused}

abbrev pub found_with : Result Walked Refusal → List ℕ → List Float → Reply
found_with (Ok r) docs distances = record { number = 0; count = r.count; scored = r.scored; docs = docs; distances = distances }
found_with (Err r) docs distances = refused (number_of r) docs distances
