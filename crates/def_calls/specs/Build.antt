-- `build` (scope, Records and Refusals): the graph of parts 1 to 7 goes into the word store, and the store is built. On a built store it is success,
-- and nothing changes.
use mathlib.Core.List.{List, [], ◌∷◌, ◌++◌, map, flatten}
use Rattle.std.specs.Prelude.{ℕ, ◌+◌, eqb, length, take, drop, set, Float}
use Rattle.basics.specs.Choice.{pick}
use Rattle.basics.specs.Refusals.{Check, check, first_refusal}
use Rattle.error.specs.Numbers.{empty_index}
use Rattle.store.specs.Layout.{word, built_state, state_at, nodes_at, degree_at, entry_at, bridge_count_at, capacity_at, rows_at, bridges_at}
use Rattle.store.specs.View.{row_block, bridge_block, view}
use Rattle.store.specs.Opening.{scratch, opening}
use Rattle.pipnn.specs.Answer.{Answer, unless_refused}
use Rattle.def_calls.specs.Graph.{Graph, graph_of, graph_for}

-- ---- its checks: 3, 4, 3 with scratch, 4, then 9

unfoldable pub own_build_checks : List ℕ → List Check
own_build_checks w = check (eqb (word w nodes_at) 0) empty_index ∷ []

-- scratch of ws words and fs floats is passed in
unfoldable pub build_checks : (ws fs : ℕ) → List ℕ → List Float → List Check
unfolding opening own_build_checks
build_checks ws fs w f = opening (scratch ws fs) w f ++ own_build_checks w

-- ---- what it writes

-- words xs over those of w from place `at` on
abbrev pub laid : ℕ → List ℕ → List ℕ → List ℕ
laid at xs w = take at w ++ (xs ++ drop (at + length xs) w)

-- words 0, 9 and 10
unfoldable pub built_header : Graph → List ℕ → List ℕ
built_header g w = set (set (set w state_at built_state) entry_at g.entry) bridge_count_at (length g.bridges)

-- the first n rows, zero past their counts, and the bridges counted; nothing else
unfoldable pub built_words : Graph → List ℕ → List ℕ
unfolding built_header flatten
built_words g w =
    laid (bridges_at (word w capacity_at) (word w degree_at)) (flatten (map bridge_block g.bridges))
    (laid (rows_at (word w capacity_at)) (flatten (map (row_block (word w degree_at)) g.rows)) (built_header g w))

-- ---- the call

unfoldable pub build_spec : (ws fs : ℕ) → List ℕ → List Float → Answer
unfolding pick first_refusal build_checks built_words graph_of view unless_refused
build_spec ws fs w f =
    let words : List ℕ = built_words (graph_for (view w f)) w in
    unless_refused (first_refusal (build_checks ws fs w f)) w f (pick (eqb (word w state_at) built_state) w words) f
