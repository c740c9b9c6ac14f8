-- What the laws of carving count: a weight summed over a list of nodes, and over all leaves. With weight 1 for one node and 0 for the others
-- it is how often that node occurs, with weight 1 for every node how many entries there are.
use Rattle.std.specs.Prelude.{List, [], ◌∷◌, ℕ, ◌+◌, eqb}
use Rattle.basics.specs.Choice.{pick}

abbrev pub weigh : (ℕ → ℕ) → List ℕ → ℕ
weigh weight [] = 0
weigh weight (x ∷ xs) = weight x + weigh weight xs

abbrev pub weigh_all : (ℕ → ℕ) → List (List ℕ) → ℕ
weigh_all weight [] = 0
weigh_all weight (xs ∷ rest) = weigh weight xs + weigh_all weight rest

-- how often node x occurs over all leaves
abbrev pub occurrences : ℕ → List (List ℕ) → ℕ
occurrences x leaves = weigh_all (λ (y : ℕ). pick (eqb x y) 1 0) leaves

-- how many entries all leaves have together
abbrev pub entries : List (List ℕ) → ℕ
entries leaves = weigh_all (λ (y : ℕ). 1) leaves
