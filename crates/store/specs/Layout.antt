-- Where everything is in the two stores, and how large they are (scope, Records). Each offset and each size is defined here and nowhere else. A
-- store's shape is its capacity C, its degree D and its dimension.
use Rattle.std.specs.Prelude.{List, ℕ, ◌+◌, ◌*◌, get_or}

-- ---- the word store: a header of 16 words

abbrev pub header_size : ℕ
header_size = 16

abbrev pub state_at : ℕ
state_at = 0

abbrev pub dimension_at : ℕ
dimension_at = 1

abbrev pub nodes_at : ℕ
nodes_at = 2

abbrev pub max_leaf_size_at : ℕ
max_leaf_size_at = 3

abbrev pub min_leaf_size_at : ℕ
min_leaf_size_at = 4

abbrev pub degree_at : ℕ
degree_at = 5

abbrev pub hash_bits_at : ℕ
hash_bits_at = 6

abbrev pub final_prune_at : ℕ
final_prune_at = 7

abbrev pub ef_search_at : ℕ
ef_search_at = 8

abbrev pub entry_at : ℕ
entry_at = 9

abbrev pub bridge_count_at : ℕ
bridge_count_at = 10

abbrev pub capacity_at : ℕ
capacity_at = 11

abbrev pub fraction_high_at : ℕ
fraction_high_at = 12

abbrev pub fraction_low_at : ℕ
fraction_low_at = 13

abbrev pub alpha_at : ℕ
alpha_at = 14

abbrev pub zero_at : ℕ
zero_at = 15

-- what the state word says
abbrev pub open_state : ℕ
open_state = 0

abbrev pub built_state : ℕ
built_state = 1

-- a word; one that is missing counts as 0
abbrev pub word : List ℕ → ℕ → ℕ
word w i = get_or w i 0

-- ---- then C doc ids, C rows of a count and D entries, C bridges of two words

abbrev pub docs_at : ℕ
docs_at = header_size

abbrev pub rows_at : ℕ → ℕ
rows_at C = docs_at + C

abbrev pub row_size : ℕ → ℕ
row_size D = 1 + D

abbrev pub row_at : ℕ → ℕ → ℕ → ℕ
row_at C D i = rows_at C + i * row_size D

abbrev pub bridges_at : ℕ → ℕ → ℕ
bridges_at C D = rows_at C + C * row_size D

abbrev pub bridge_size : ℕ
bridge_size = 2

abbrev pub bridge_at : ℕ → ℕ → ℕ → ℕ
bridge_at C D j = bridges_at C D + j * bridge_size

abbrev pub words_size : ℕ → ℕ → ℕ
words_size C D = header_size + C * (4 + D)

-- ---- the float store: C vectors, node by node

abbrev pub floats_size : ℕ → ℕ → ℕ
floats_size C dimension = C * dimension

-- ---- scratch

abbrev pub scratch_words : ℕ → ℕ
scratch_words C = 64 * C

abbrev pub scratch_floats : ℕ → ℕ
scratch_floats C = 16 * C + 256
