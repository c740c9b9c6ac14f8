-- The refusal numbers by name (docs/SCOPE.md, "Refusals"): those of src/lib.rt, for the definitions.
use Rattle.std.specs.Prelude.{ℕ}

-- the dimension is not 1 to 64
abbrev pub dimension_out_of_range : ℕ
dimension_out_of_range = 1

-- a parameter or the capacity is beyond its limits
abbrev pub parameter_out_of_range : ℕ
parameter_out_of_range = 2

-- a store or scratch is too short
abbrev pub slice_too_short : ℕ
slice_too_short = 3

-- the store's content is not that of an index
abbrev pub not_well_formed : ℕ
not_well_formed = 4

-- add to a store that is built
abbrev pub already_built : ℕ
already_built = 5

-- the vector's length differs from the dimension
abbrev pub dimension_mismatch : ℕ
dimension_mismatch = 6

-- a component is infinite or not a number
abbrev pub non_finite_input : ℕ
non_finite_input = 7

-- add to a store that holds as many nodes as its capacity
abbrev pub full : ℕ
full = 8

-- build of a store with no nodes
abbrev pub empty_index : ℕ
empty_index = 9

-- search in a store that is not built
abbrev pub not_built : ℕ
not_built = 10

-- k or ef is above 1024
abbrev pub k_or_ef_too_large : ℕ
k_or_ef_too_large = 11

-- an output is shorter than min(k, n)
abbrev pub output_too_short : ℕ
output_too_short = 12

-- the limit is infinite or not a number
abbrev pub limit_not_finite : ℕ
limit_not_finite = 13

-- more than 512 sightings, or their two lists differ in length
abbrev pub bad_sightings : ℕ
bad_sightings = 14
