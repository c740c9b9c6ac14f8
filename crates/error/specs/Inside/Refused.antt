-- The refusals as the code has them, and their numbers.
use Rattle.std.specs.Prelude.{ℕ, Result, Ok, Err}
use Rattle.error.specs.Numbers.{dimension_out_of_range, parameter_out_of_range, slice_too_short, not_well_formed, already_built, dimension_mismatch, non_finite_input}
use Rattle.error.specs.Numbers.{full, empty_index, not_built, k_or_ef_too_large, output_too_short, limit_not_finite, bad_sightings}
use Rattle.error.specs.declared.Refusal.{Refusal}
use Rattle.error.specs.declared.Refusal.TheVariants.{DimensionOutOfRange, ParameterOutOfRange, SliceTooShort, NotWellFormed, AlreadyBuilt, DimensionMismatch, NonFiniteInput}
use Rattle.error.specs.declared.Refusal.TheVariants.{Full, EmptyIndex, NotBuilt, KOrEfTooLarge, OutputTooShort, LimitNotFinite, BadSightings}

-- a refusal's number
abbrev pub number_of : Refusal → ℕ
number_of DimensionOutOfRange = dimension_out_of_range
number_of ParameterOutOfRange = parameter_out_of_range
number_of SliceTooShort = slice_too_short
number_of NotWellFormed = not_well_formed
number_of AlreadyBuilt = already_built
number_of DimensionMismatch = dimension_mismatch
number_of NonFiniteInput = non_finite_input
number_of Full = full
number_of EmptyIndex = empty_index
number_of NotBuilt = not_built
number_of KOrEfTooLarge = k_or_ef_too_large
number_of OutputTooShort = output_too_short
number_of LimitNotFinite = limit_not_finite
number_of BadSightings = bad_sightings

-- what a call answers as a number: 0, or its refusal's
abbrev pub answer_of : {A : Type 0} → Result A Refusal → ℕ
answer_of (Ok a) = 0
answer_of (Err r) = number_of r
