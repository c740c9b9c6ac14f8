-- The entry is read from the row. Assumes nothing.
use mathlib.Core.Path.{ap, ◌∙◌}
use mathlib.Core.List.{List}
use Prim.Native.Nat.{ℕ}
use Rattle.store.specs.Layout.{word}
use Rattle.lists.proofs.entry_of.Goals as goal

pub returns : goal.returns
returns c = c.word_at.ensures ∙ ap (λ (row : List ℕ). word row c.args.e) c.row_of.ensures
