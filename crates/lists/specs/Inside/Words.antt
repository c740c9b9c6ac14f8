-- Lists in words (scope, Records): the rows one after the other in a slice of words, each a count and D entries, and its bridges. A build writes rows
-- whole, zero past their counts; a reader takes the entries that a row's first word counts.
use Rattle.std.specs.Prelude.{◌≡◌, ℕ, ◌*◌, ◌/◌, ◌≤◌, length, get_or, take, drop}
use mathlib.Core.List.{List, map, flatten, []}
use Rattle.basics.specs.Graph.{Bridge}
use Rattle.basics.specs.Lists.{pieces}
use Rattle.store.specs.Layout.{row_size, bridge_size}
use Rattle.store.specs.View.{entries_in, bridge_in, row_block}

-- what stands of block i, where a block takes `size` words
abbrev pub block_at : ℕ → ℕ → List ℕ → List ℕ
block_at size i ws = take size (drop (i * size) ws)

-- the rows that stand whole in some words, each with room for D entries
abbrev pub row_lists : ℕ → List ℕ → List (List ℕ)
row_lists D ws = map entries_in (pieces (row_size D) (length ws / row_size D) ws)

-- the bridges that do
abbrev pub bridge_list : List ℕ → List Bridge
bridge_list ws = map bridge_in (pieces bridge_size (length ws / bridge_size) ws)

-- some words are the given rows as a build leaves them: each with at most D entries, zero past its count
pub record Blocks (D : ℕ) (rows : List (List ℕ)) (ws : List ℕ) : Type 0 where
  pub words_are : ws ≡ flatten (map (row_block D) rows)
  pub short : (u : ℕ) → length (get_or rows u []) ≤ D
