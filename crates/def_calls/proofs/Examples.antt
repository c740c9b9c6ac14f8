-- The worked example, computed from `new` on by the definitions of the calls: every word that build leaves, the lists, the finds, a query that is scaled, and
-- refusals in their order. Assumes nothing.
use mathlib.Core.Path.{◌≡◌, refl, ap}
use mathlib.Core.List.{List, [], ◌∷◌, ◌++◌, map}
use Prim.Native.Nat.{ℕ}
use lib.IntN.{pos}
use lib.ListN.{replicate}
use lib.Ieee.{nan, fin, of_bits, to_bits, add, sub, mul, div, lt, le, eq, is_nan, of_int, to_unsigned, round}
use mathlib.Core.Bool.{false}
use Rattle.basics.specs.Sum.{+zero, +one}
use Rattle.basics.specs.Graph.{list_of}
use Rattle.store.specs.View.{view, list_in}
use Rattle.pipnn.specs.New.{new_spec}
use Rattle.pipnn.specs.Add.{add_spec}
use Rattle.def_calls.specs.Graph.{Graph, settings_of, graph_of}
use Rattle.def_calls.specs.Build.{build_spec}
use Rattle.def_calls.specs.Search.{refused, search_with_ef_spec, search_spec}
use Rattle.def_calls.specs.Example.{minus_one, example_opened, added, example_built, lists, asked, printed}
use Rattle.def_calls.proofs.Graph.{list_for}

-- ---- build: entry 1, one bridge, from 1 to 2; its rows and bridge are written, words 0, 9 and 10, and nothing else

abbrev pub worked_words : List ℕ
worked_words =
    1 ∷ 2 ∷ 3 ∷ 256 ∷ 0 ∷ 1 ∷ 0 ∷ 1 ∷ 3 ∷ 1 ∷ 1 ∷ 8 ∷ 0x3fe0_0000 ∷ 0 ∷ 0x3f99_999a ∷ 0
    ∷ 10 ∷ 20 ∷ 30 ∷ 0 ∷ 0 ∷ 0 ∷ 0 ∷ 0
    ∷ 1 ∷ 1 ∷ 1 ∷ 0 ∷ 1 ∷ 1 ∷ (replicate 10 0 ++ (1 ∷ 2 ∷ replicate 14 0))

pub worked_words_lem : example_built.1 ≡ worked_words
unfolding new_spec add_spec build_spec of_bits to_bits add sub mul div lt le eq is_nan of_int to_unsigned round
worked_words_lem = refl

-- a second build is success, and leaves all as it is
worked_again : build_spec 512 384 worked_words (replicate 16 +one) ≡ (0, worked_words, replicate 16 +one)
unfolding build_spec of_bits lt le eq
worked_again = refl

-- ---- search

pub worked_find : printed (asked 3 3 (+one ∷ +zero ∷ [])) ≡ (0, 3, 3, 10 ∷ 20 ∷ 30 ∷ 7 ∷ [], 0x0000_0000 ∷ 0x3f80_0000 ∷ 0x4000_0000 ∷ 0xbf80_0000 ∷ [])
unfolding search_with_ef_spec new_spec add_spec build_spec of_bits to_bits add sub mul div lt le eq is_nan of_int to_unsigned round
worked_find = refl

pub worked_one : printed (asked 1 1 (+one ∷ +zero ∷ [])) ≡ (0, 1, 3, 10 ∷ 7 ∷ 7 ∷ 7 ∷ [], 0x0000_0000 ∷ 0xbf80_0000 ∷ 0xbf80_0000 ∷ 0xbf80_0000 ∷ [])
unfolding search_with_ef_spec new_spec add_spec build_spec of_bits to_bits add sub mul div lt le eq is_nan of_int to_unsigned round
worked_one = refl

pub worked_none : printed (asked 0 0 (+one ∷ +zero ∷ [])) ≡ (0, 0, 3, replicate 4 7, replicate 4 0xbf80_0000)
unfolding search_with_ef_spec new_spec add_spec build_spec of_bits to_bits add sub mul div lt le eq is_nan of_int to_unsigned round
worked_none = refl

pub three_components : asked 3 3 (+one ∷ +zero ∷ +zero ∷ []) ≡ refused 6 (replicate 4 7) (replicate 4 minus_one)
unfolding search_with_ef_spec new_spec add_spec build_spec of_bits to_bits add sub mul div lt le eq is_nan of_int to_unsigned round
three_components = refl

-- from the words that build leaves
pub worked_lists : lists ≡ (1 ∷ []) ∷ (0 ∷ 2 ∷ []) ∷ (1 ∷ 1 ∷ []) ∷ []
unfolding view list_of
worked_lists = ap (λ (w : List ℕ). map (list_in (view w example_built.2)) (0 ∷ 1 ∷ 2 ∷ [])) worked_words_lem

-- a query of twice that length is scaled
scaled_find : printed (asked 3 3 (fin false 1 (pos 1) ∷ +zero ∷ []))
    ≡ (0, 3, 3, 10 ∷ 20 ∷ 30 ∷ 7 ∷ [], 0x0000_0000 ∷ 0x3f80_0000 ∷ 0x4000_0000 ∷ 0xbf80_0000 ∷ [])
unfolding search_with_ef_spec new_spec add_spec build_spec of_bits to_bits add sub mul div lt le eq is_nan of_int to_unsigned round
scaled_find = refl

-- `search` is the same, with ef_search, 3
worked_search : search_spec 512 384 example_built.1 example_built.2 (+one ∷ +zero ∷ []) 3 (replicate 4 7) (replicate 4 minus_one) ≡ asked 3 3 (+one ∷ +zero ∷ [])
unfolding search_spec search_with_ef_spec new_spec add_spec build_spec of_bits to_bits add sub mul div lt le eq is_nan of_int to_unsigned round
worked_search = refl

open_refused : search_with_ef_spec 512 384 added.1 added.2 (+one ∷ []) 1025 3 [] [] ≡ refused 10 [] []
unfolding search_with_ef_spec new_spec add_spec of_bits to_bits add sub mul div lt le eq is_nan round
open_refused = refl

-- a build of no nodes; and with scratch a word short, which comes first
empty_refused : build_spec 512 384 example_opened.1 example_opened.2 ≡ (9, example_opened.1, example_opened.2)
unfolding new_spec build_spec of_bits to_bits lt le eq is_nan
empty_refused = refl

scratch_refused : build_spec 511 384 example_opened.1 example_opened.2 ≡ (3, example_opened.1, example_opened.2)
unfolding new_spec build_spec of_bits to_bits lt le eq is_nan
scratch_refused = refl

-- ---- refusals of a search in their order: each of these calls has every fault from its own number on

every_fault : search_with_ef_spec 512 384 example_built.1 example_built.2 (nan ∷ []) 1025 3 [] [] ≡ refused 6 [] []
unfolding search_with_ef_spec new_spec add_spec build_spec of_bits to_bits add sub mul div lt le eq is_nan of_int to_unsigned round
every_fault = refl

not_finite : search_with_ef_spec 512 384 example_built.1 example_built.2 (nan ∷ +zero ∷ []) 1025 3 [] [] ≡ refused 7 [] []
unfolding search_with_ef_spec new_spec add_spec build_spec of_bits to_bits add sub mul div lt le eq is_nan of_int to_unsigned round
not_finite = refl

too_many_asked : search_with_ef_spec 512 384 example_built.1 example_built.2 (+one ∷ +zero ∷ []) 1025 3 [] [] ≡ refused 11 [] []
unfolding search_with_ef_spec new_spec add_spec build_spec of_bits to_bits add sub mul div lt le eq is_nan of_int to_unsigned round
too_many_asked = refl

no_room : search_with_ef_spec 512 384 example_built.1 example_built.2 (+one ∷ +zero ∷ []) 4 3 (7 ∷ 7 ∷ []) (replicate 3 minus_one) ≡ refused 12 (7 ∷ 7 ∷ []) (replicate 3 minus_one)
unfolding search_with_ef_spec new_spec add_spec build_spec of_bits to_bits add sub mul div lt le eq is_nan of_int to_unsigned round
no_room = refl

-- room for min(k, n) is enough: k 4 among three nodes
room_for_all : printed (search_with_ef_spec 512 384 example_built.1 example_built.2 (+one ∷ +zero ∷ []) 4 3 (replicate 3 7) (replicate 3 minus_one))
    ≡ (0, 3, 3, 10 ∷ 20 ∷ 30 ∷ [], 0x0000_0000 ∷ 0x3f80_0000 ∷ 0x4000_0000 ∷ [])
unfolding search_with_ef_spec new_spec add_spec build_spec of_bits to_bits add sub mul div lt le eq is_nan of_int to_unsigned round
room_for_all = refl

-- ---- after repair a list can have more than 2·D entries

-- two nodes with D = 0: both rows are empty, and the one bridge adds an entry for each node
abbrev flat : Graph
flat = graph_of (settings_of 1 (record {
  max_leaf_size = 256;
  min_leaf_size = 0;
  leader_fraction = +zero;
  max_degree = 0;
  num_hash_bits = 0;
  final_prune = false;
  alpha = +one;
  ef_search = 0;
})) ((+one ∷ []) ∷ (minus_one ∷ []) ∷ [])

above_twice_the_degree : map (list_for flat) (0 ∷ 1 ∷ []) ≡ (1 ∷ []) ∷ (0 ∷ []) ∷ []
unfolding graph_of list_of add sub mul div lt le is_nan to_bits of_int to_unsigned round
above_twice_the_degree = refl
