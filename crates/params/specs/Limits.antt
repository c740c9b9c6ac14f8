-- The limits of dimension, capacity and parameters (scope, Records), both ends inclusive. Each limit is defined here and nowhere else.
use Rattle.std.specs.Prelude.{Bool, ◌&&◌, ℕ, leb}
use Rattle.std.specs.Float.Ieee.{le}
use Rattle.std.specs.Float.Ieee.Scale.{finite}
use Rattle.basics.specs.Sum.{+zero, +one}
use Rattle.params.specs.declared.PipnnParams.{PipnnParams}

abbrev pub most_dimension : ℕ
most_dimension = 64

abbrev pub most_capacity : ℕ
most_capacity = 1024

abbrev pub most_leaf_size : ℕ
most_leaf_size = 2048

abbrev pub most_min_leaf_size : ℕ
most_min_leaf_size = 1024

abbrev pub most_degree : ℕ
most_degree = 32

abbrev pub most_hash_bits : ℕ
most_hash_bits = 16

abbrev pub most_ef : ℕ
most_ef = 1024

abbrev pub dimension_within : ℕ → Bool
dimension_within d = leb 1 d && leb d most_dimension

abbrev pub capacity_within : ℕ → Bool
capacity_within c = leb 1 c && leb c most_capacity

-- The fraction is compared as a number: −0 is 0, and a NaN lies nowhere. Alpha is any finite number, final_prune either bool.
unfoldable pub within_limits : PipnnParams → Bool
unfolding le
within_limits p =
    leb 1 p.max_leaf_size && leb p.max_leaf_size most_leaf_size && leb p.min_leaf_size most_min_leaf_size
    && le +zero p.leader_fraction && le p.leader_fraction +one
    && leb p.max_degree most_degree && leb p.num_hash_bits most_hash_bits
    && finite p.alpha
    && leb p.ef_search most_ef
