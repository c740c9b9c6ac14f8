-- What every step of a build keeps of its rows: there are n of them, each has at most d entries, and every entry is a node below n.
use Rattle.std.specs.Prelude.{◌≡◌, List, [], ℕ, ◌≤◌, length, get_or}
use Rattle.basics.specs.Nodes.{Below}

pub record Rows (n d : ℕ) (rows : List (List ℕ)) : Type 0 where
  pub many : length rows ≡ n
  pub short : (u : ℕ) → length (get_or rows u []) ≤ d
  pub inside : (u : ℕ) → Below n (get_or rows u [])
