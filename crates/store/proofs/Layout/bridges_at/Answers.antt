-- `Layout::bridges_at` meets its contract: a capacity of 32 bits and a degree of 16 keep it below 2^49. Assumes nothing.
use Prim.Native.Nat.{◌*◌, ◌≤◌}
use native.Mathlib.Omega.{arith}
use Rattle.store.proofs.Sizes.{product_le}
use Rattle.store.proofs.Layout.bridges_at.Goals as goal
use Rattle.store.proofs.Layout.bridges_at.Goals.{After-row_size}

most : (c : After-row_size) → c.args.self.capacity * c.row_size.result ≤ 4294967295 * 65536
most c = product_le c.args.self.capacity c.row_size.result 4294967295 65536 (omega arith) (omega arith)

pub overflow_mul-result : goal.overflow_mul-result
overflow_mul-result c = omega (arith, most (goal.at.overflow_mul-result c).After-row_size)

pub overflow_add-result : goal.overflow_add-result
overflow_add-result c = omega (arith, most (goal.at.overflow_add-result c).After-row_size)

pub returns : goal.returns
returns c = cc
