-- `new` behind C: the parameters are numbers, final_prune one of 0 and 1. Any other final_prune is a parameter beyond its limits, so 2 is returned
-- where the dimension has not led to 1 before.
use Rattle.std.specs.Prelude.{◌&&◌, List, ℕ, eqb, ltb, Float}
use Rattle.basics.specs.Choice.{pick}
use Rattle.error.specs.Numbers.{parameter_out_of_range}
use Rattle.params.specs.declared.PipnnParams.{PipnnParams}
use Rattle.params.specs.Limits.{dimension_within}
use Rattle.pipnn.specs.Answer.{Answer}
use Rattle.pipnn.specs.New.{new_spec}

abbrev pub params_from : (max_leaf_size min_leaf_size : ℕ) (leader_fraction : Float) (max_degree num_hash_bits final_prune : ℕ) (alpha : Float) (ef_search : ℕ) → PipnnParams
params_from max_leaf_size min_leaf_size leader_fraction max_degree num_hash_bits final_prune alpha ef_search = record {
  max_leaf_size = max_leaf_size;
  min_leaf_size = min_leaf_size;
  leader_fraction = leader_fraction;
  max_degree = max_degree;
  num_hash_bits = num_hash_bits;
  final_prune = eqb final_prune 1;
  alpha = alpha;
  ef_search = ef_search;
}

unfoldable pub new_from : (dimension final_prune : ℕ) → PipnnParams → (capacity : ℕ) → List ℕ → List Float → Answer
unfolding pick new_spec
new_from dimension final_prune p capacity w f = pick (dimension_within dimension && ltb 1 final_prune) (parameter_out_of_range, w, f) (new_spec dimension p capacity w f)
