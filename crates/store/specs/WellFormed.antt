-- Which stores are well formed (scope, Records): first the header's 16 words, then the rest. Words of any content are judged. What lies past the
-- counts, past n, past the bridges counted and past the sizes is not.
use Rattle.std.specs.Prelude.{Bool, not, ◌&&◌, ◌||◌, List, ℕ, ◌*◌, leb, ltb, eqb, get_or, take, Float}
use Rattle.std.specs.Float.Ieee.Scale.{finite}
use Rattle.basics.specs.Lists.{every}
use Rattle.params.specs.Limits.{dimension_within, capacity_within, within_limits}
use Rattle.store.specs.Layout.{word, open_state, built_state, state_at, dimension_at, nodes_at, degree_at, final_prune_at, entry_at, bridge_count_at, capacity_at, zero_at}
use Rattle.store.specs.View.{params_of, row_words, bridge_words, entries_in}

-- while open, no entry node and no bridges
abbrev pub open_ok : List ℕ → Bool
open_ok w = eqb (word w state_at) open_state && eqb (word w entry_at) 0 && eqb (word w bridge_count_at) 0

-- if built, one node at least, an entry below n, and at most n − 1 bridges
abbrev pub built_ok : List ℕ → Bool
built_ok w =
    eqb (word w state_at) built_state && leb 1 (word w nodes_at) && ltb (word w entry_at) (word w nodes_at) && ltb (word w bridge_count_at) (word w nodes_at)

-- A parameter's pattern that is no number, or infinite, is judged as such: `within_limits` refuses it.
unfoldable pub header_ok : List ℕ → Bool
unfolding within_limits params_of
header_ok w =
    within_limits (params_of w) && dimension_within (word w dimension_at) && capacity_within (word w capacity_at)
    && leb (word w final_prune_at) 1 && eqb (word w zero_at) 0
    && leb (word w nodes_at) (word w capacity_at)
    && (open_ok w || built_ok w)

abbrev pub is_node : ℕ → ℕ → Bool
is_node n e = ltb e n

-- a row counts at most D entries, each a node
abbrev pub count_ok : ℕ → List ℕ → Bool
count_ok D row = leb (get_or row 0 0) D

unfoldable pub row_ok : ℕ → ℕ → List ℕ → Bool
unfolding every
row_ok D n row = count_ok D row && every (is_node n) (entries_in row)

-- a bridge has two different nodes for its ends
abbrev pub bridge_ok : ℕ → List ℕ → Bool
bridge_ok n pair = is_node n (get_or pair 0 0) && is_node n (get_or pair 1 0) && not (eqb (get_or pair 0 0) (get_or pair 1 0))

unfoldable pub rest_ok : List ℕ → List Float → Bool
unfolding every row_ok row_words bridge_words
rest_ok w f =
    every (row_ok (word w degree_at) (word w nodes_at)) (row_words w)
    && every (bridge_ok (word w nodes_at)) (bridge_words w)
    && every finite (take (word w nodes_at * word w dimension_at) f)
