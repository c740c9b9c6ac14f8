-- A node's list (scope, Records): its row, then for each bridge in order the other end, if the node is one end.
use Rattle.std.specs.Prelude.{List, [], ◌∷◌, ◌++◌, ℕ, eqb, get_or}
use Rattle.basics.specs.Choice.{pick}

-- near was reached before the bridge was built, far by it
pub record Bridge : Type 0 where
  pub near : ℕ
  pub far : ℕ

unfoldable pub other_end : Bridge → ℕ → List ℕ
unfolding pick
other_end b i = pick (eqb i b.near) (b.far ∷ []) (pick (eqb i b.far) (b.near ∷ []) [])

unfoldable pub other_ends : List Bridge → ℕ → List ℕ
unfolding other_end
other_ends [] i = []
other_ends (b ∷ bs) i = other_end b i ++ other_ends bs i

unfoldable pub list_of : List (List ℕ) → List Bridge → ℕ → List ℕ
unfolding other_ends
list_of rows bridges i = get_or rows i [] ++ other_ends bridges i
