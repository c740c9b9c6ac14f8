-- What `ensure_connectivity` leaves behind (scope, part 7): the bridges that repair builds are at the front of the words passed in, in order, and the
-- rest of them stays.
use Rattle.std.specs.Prelude.{◌≡◌, ℕ, ◌*◌, ◌≤◌, ◌<◌, length, get_or, drop, Float}
use mathlib.Core.List.{List, [], ◌++◌, map, flatten}
use Rattle.basics.specs.Graph.{Bridge}
use Rattle.basics.specs.Nodes.{Below}
use Rattle.store.specs.View.{bridge_block}
use Rattle.def_walk.specs.Repair.{ensure_connectivity}

-- what a caller prepares: at most 1,024 rows, entries and entry node among them, and room
pub record Repairable (rows : List (List ℕ)) (entry : ℕ) (bridges words : List ℕ) : Type 0 where
  pub many : length rows ≤ 1024
  pub entry_below : entry < length rows
  pub inside : (u : ℕ) → Below (length rows) (get_or rows u [])
  pub bridge_room : 2 * length rows ≤ length bridges
  pub word_room : 4 * length rows ≤ length words

-- some words that begin with the given bridges, and go on as before
abbrev pub with_bridges : List Bridge → List ℕ → List ℕ
with_bridges bs words = flatten (map bridge_block bs) ++ drop (2 * length bs) words

-- of what was prepared, the number and the words are those of the definition
abbrev pub Repairs : List (List ℕ) → ℕ → List (List Float) → List ℕ → List ℕ → ℕ → List ℕ → Type 0
Repairs rows entry vs bridges words count bridges' =
    Repairable rows entry bridges words
    → (count ≡ length (ensure_connectivity rows entry vs)) × (bridges' ≡ with_bridges (ensure_connectivity rows entry vs) bridges)
