-- `new` (scope, Records and Refusals): an open store with no nodes, made of words and floats of any content.
use Rattle.std.specs.Prelude.{not, ◌&&◌, ℕ, ◌-◌, replicate, Float}
use mathlib.Core.List.{List, [], ◌∷◌, ◌++◌}
use Rattle.std.proofs.Math.ListN.{drop}
use Rattle.basics.specs.Refusals.{Check, check, first_refusal}
use Rattle.error.specs.Numbers.{dimension_out_of_range, parameter_out_of_range, slice_too_short}
use Rattle.basics.specs.Sum.{+zero}
use Rattle.params.specs.declared.PipnnParams.{PipnnParams}
use Rattle.params.specs.Limits.{dimension_within, capacity_within, within_limits}
use Rattle.store.specs.Layout.{header_size, words_size, floats_size}
use Rattle.store.specs.View.{empty_header}
use Rattle.store.specs.Opening.{store_short}
use Rattle.pipnn.specs.Answer.{Answer, unless_refused}

module _ (dimension : ℕ) (p : PipnnParams) (capacity : ℕ) (w : List ℕ) (f : List Float) where
  unfoldable pub new_checks : List Check
  unfolding within_limits
  new_checks =
      check (not (dimension_within dimension)) dimension_out_of_range
      ∷ check (not (within_limits p && capacity_within capacity)) parameter_out_of_range
      ∷ check (store_short capacity p.max_degree dimension w f) slice_too_short
      ∷ []

  -- the header, then zeros up to the size; what lies past it stays
  unfoldable pub new_words : List ℕ
  unfolding empty_header
  new_words =
      empty_header dimension p capacity
      ++ (replicate (words_size capacity p.max_degree - header_size) 0 ++ drop (words_size capacity p.max_degree) w)

  unfoldable pub new_floats : List Float
  new_floats = replicate (floats_size capacity dimension) +zero ++ drop (floats_size capacity dimension) f

  unfoldable pub new_spec : Answer
  unfolding first_refusal new_checks new_words new_floats unless_refused
  new_spec = unless_refused (first_refusal new_checks) w f new_words new_floats
