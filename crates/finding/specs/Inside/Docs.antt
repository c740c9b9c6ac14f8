-- The doc id of a node, in the doc id words of the store (scope, Records).
use Rattle.std.specs.Prelude.{List, ℕ, ◌+◌}
use Rattle.sorting.specs.declared.Keyed.{Keyed}
use Rattle.store.specs.Layout.{word, docs_at}

abbrev pub doc_at : List ℕ → ℕ → ℕ
doc_at w node = word w (docs_at + node)

-- of a node with its key
abbrev pub doc_of : List ℕ → Keyed → ℕ
doc_of w node = doc_at w node.id
