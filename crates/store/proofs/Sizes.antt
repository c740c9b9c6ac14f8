-- Laws of the sizes: products that fit a usize, and what lies within stores that are as long as their shape asks. Assumes nothing.
use mathlib.Core.Path.{◌≡◌}
use mathlib.Core.List.{List}
use Prim.Native.Nat.{ℕ, ◌+◌, ◌*◌, ◌≤◌, ◌<◌}
use native.Mathlib.Nat.{mul-le-mul}
use native.Mathlib.Omega.{arith}
use lib.ListN.{length}
use lib.Ieee.{Float}
use Rattle.store.specs.Layout.{word, dimension_at, nodes_at, degree_at, bridge_count_at, capacity_at, rows_at, row_size, bridges_at, bridge_size, words_size, floats_size}
use Rattle.store.proofs.Header.{Header}

pub product_le : (a b x y : ℕ) → a ≤ x → b ≤ y → a * b ≤ x * y
product_le a b x y h k = mul-le-mul h k

-- of n rows from `from` on, the i-th, which starts at `at`, lies within
pub row_within : (from n D i at size room : ℕ) → i < n → at ≡ from + i * row_size D → size ≡ row_size D → from + n * row_size D ≤ room → at + size ≤ room
row_within from n D i at size room below start is all = omega (arith, product_le (i + 1) (row_size D) n (row_size D) (omega arith) (omega arith))

pub record Room (w : List ℕ) (f : List Float) : Type 0 where
  pub docs : rows_at (word w capacity_at) ≤ length w
  pub rows : rows_at (word w capacity_at) + word w nodes_at * row_size (word w degree_at) ≤ length w
  pub bridges : bridges_at (word w capacity_at) (word w degree_at) + word w bridge_count_at * bridge_size ≤ length w
  pub vectors : word w nodes_at * word w dimension_at ≤ length f

pub room : (w : List ℕ) (f : List Float) → Header w → words_size (word w capacity_at) (word w degree_at) ≤ length w
    → floats_size (word w capacity_at) (word w dimension_at) ≤ length f → Room w f
room w f h words floats = record {
  docs = omega arith;
  rows = omega (arith, product_le (word w nodes_at) (word w degree_at) (word w capacity_at) (word w degree_at) h.nodes (omega arith));
  bridges = omega arith;
  vectors = omega (arith, product_le (word w nodes_at) (word w dimension_at) (word w capacity_at) (word w dimension_at) h.nodes (omega arith));
}
