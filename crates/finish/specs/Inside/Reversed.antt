-- Reverse edges in words (scope, part 6): what the code leaves of rows as a build makes them, each a count and D entries, zero past the count. Each
-- says: whatever rows the words were, the words are now those that the definition makes of them.
use Rattle.std.specs.Prelude.{◌≡◌, List, [], ◌∷◌, ◌++◌, ℕ, ◌<◌, ◌≤◌, length, get_or}
use Rattle.basics.specs.Choice.{pick}
use Rattle.basics.specs.Nodes.{Below}
use Rattle.store.specs.View.{row_block}
use Rattle.lists.specs.Inside.Words.{Blocks}
use Rattle.def_graph.specs.Refine.{takes, add_back, add_backs, add_reverse_edges}

-- all turns, where every entry is a node
abbrev pub Reversed : ℕ → List ℕ → List ℕ → Type 0
Reversed D before after =
    (rs : List (List ℕ)) → Blocks D rs before → length rs ≤ 1024 → ((u : ℕ) → Below (length rs) (get_or rs u [])) → Blocks D (add_reverse_edges D rs) after

-- the turn of one node
abbrev pub Turned : ℕ → ℕ → List ℕ → List ℕ → Type 0
Turned D node before after =
    (rs : List (List ℕ)) → Blocks D rs before → node < length rs → Below (length rs) (get_or rs node []) → Blocks D (add_backs D node (get_or rs node []) rs) after

-- one neighbour of that turn
abbrev pub BackAdded : ℕ → ℕ → ℕ → List ℕ → List ℕ → Type 0
BackAdded D node nb before after = (rs : List (List ℕ)) → Blocks D rs before → nb < length rs → Blocks D (add_back D node nb rs) after

-- one row takes the node, or stays
abbrev pub EntryAdded : ℕ → List ℕ → List ℕ → Type 0
EntryAdded node before after =
    (D : ℕ) (row : List ℕ) → length row ≤ D → before ≡ row_block D row → after ≡ row_block D (pick (takes D node row) (row ++ (node ∷ [])) row)
