-- The one view of the two stores (scope, Records): what every later definition and contract reads. It has a value on words and floats of any content
-- and length; what lies past n, past a row's count, past the bridges counted and past the sizes is not in it.
use Rattle.std.specs.Prelude.{List, [], ◌∷◌, ◌++◌, map, ℕ, ◌+◌, ◌-◌, ◌*◌, ◌/◌, ◌%◌, ◌^◌, eqb, length, get_or, take, drop, replicate, Float}
use Rattle.std.specs.Float.{binary32, binary64}
use Rattle.std.specs.Float.Ieee.{of_bits, to_bits}
use Rattle.basics.specs.Choice.{pick}
use Rattle.basics.specs.Lists.{pieces}
use Rattle.basics.specs.Graph.{Bridge, list_of}
use Rattle.params.specs.declared.PipnnParams.{PipnnParams}
use Rattle.store.specs.Layout.{word, open_state, state_at, dimension_at, nodes_at, max_leaf_size_at, min_leaf_size_at, degree_at, hash_bits_at, final_prune_at, ef_search_at, entry_at, bridge_count_at, capacity_at, fraction_high_at, fraction_low_at, alpha_at, docs_at, rows_at, row_size, bridges_at, bridge_size}

-- the parameters as the header has them, the two floats from their bits
unfoldable pub params_of : List ℕ → PipnnParams
unfolding of_bits
params_of w = record {
  max_leaf_size = word w max_leaf_size_at;
  min_leaf_size = word w min_leaf_size_at;
  leader_fraction = of_bits binary64 (word w fraction_high_at * 2 ^ 32 + word w fraction_low_at);
  max_degree = word w degree_at;
  num_hash_bits = word w hash_bits_at;
  final_prune = eqb (word w final_prune_at) 1;
  alpha = of_bits binary32 (word w alpha_at);
  ef_search = word w ef_search_at;
}

-- the other way: the header of an open store with no nodes
unfoldable pub empty_header : ℕ → PipnnParams → ℕ → List ℕ
unfolding to_bits
empty_header dimension p capacity =
    open_state ∷ dimension ∷ 0 ∷ p.max_leaf_size ∷ p.min_leaf_size ∷ p.max_degree ∷ p.num_hash_bits
    ∷ pick p.final_prune 1 0 ∷ p.ef_search ∷ 0 ∷ 0 ∷ capacity
    ∷ to_bits binary64 p.leader_fraction / 2 ^ 32 ∷ to_bits binary64 p.leader_fraction % 2 ^ 32 ∷ to_bits binary32 p.alpha ∷ 0 ∷ []

-- the words of the first n rows, and of the bridges counted
unfoldable pub row_words : List ℕ → List (List ℕ)
unfolding pieces
row_words w = pieces (row_size (word w degree_at)) (word w nodes_at) (drop (rows_at (word w capacity_at)) w)

unfoldable pub bridge_words : List ℕ → List (List ℕ)
unfolding pieces
bridge_words w = pieces bridge_size (word w bridge_count_at) (drop (bridges_at (word w capacity_at) (word w degree_at)) w)

-- a row's entries are as many as its first word counts
abbrev pub entries_in : List ℕ → List ℕ
entries_in row = take (get_or row 0 0) (drop 1 row)

abbrev pub bridge_in : List ℕ → Bridge
bridge_in pair = record { near = get_or pair 0 0; far = get_or pair 1 0 }

-- the other way: a row as words, zero past its count, and a bridge
abbrev pub row_block : ℕ → List ℕ → List ℕ
row_block D row = length row ∷ (row ++ replicate (D - length row) 0)

abbrev pub bridge_block : Bridge → List ℕ
bridge_block b = b.near ∷ b.far ∷ []

pub record View : Type 0 where
  pub params : PipnnParams
  pub dimension : ℕ
  pub capacity : ℕ
  pub state : ℕ
  pub n : ℕ
  pub entry : ℕ
  pub docs : List ℕ
  pub rows : List (List ℕ)
  pub bridges : List Bridge
  pub vectors : List (List Float)

unfoldable pub view : List ℕ → List Float → View
unfolding params_of row_words bridge_words pieces
view w f = record {
  params = params_of w;
  dimension = word w dimension_at;
  capacity = word w capacity_at;
  state = word w state_at;
  n = word w nodes_at;
  entry = word w entry_at;
  docs = take (word w nodes_at) (drop docs_at w);
  rows = map entries_in (row_words w);
  bridges = map bridge_in (bridge_words w);
  vectors = pieces (word w dimension_at) (word w nodes_at) f;
}

-- a node's list
abbrev pub list_in : View → ℕ → List ℕ
list_in v i = list_of v.rows v.bridges i
