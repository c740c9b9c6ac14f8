-- The parameters of the worked example (scope, Checked values).
use Rattle.std.specs.Prelude.{true}
use Rattle.std.specs.Float.{binary32, binary64}
use Rattle.std.specs.Float.Ieee.{of_bits}
use Rattle.params.specs.declared.PipnnParams.{PipnnParams}

abbrev pub params : PipnnParams
params = record {
  max_leaf_size = 256;
  min_leaf_size = 0;
  leader_fraction = of_bits binary64 0x3fe0_0000_0000_0000;
  max_degree = 1;
  num_hash_bits = 0;
  final_prune = true;
  alpha = of_bits binary32 0x3f99_999a;
  ef_search = 3;
}
