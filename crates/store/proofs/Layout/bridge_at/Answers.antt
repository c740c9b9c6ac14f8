-- `Layout::bridge_at` meets its contract: the bridges start below 2^49, and two words a bridge stay below 2^34. Assumes nothing.
use native.Mathlib.Omega.{arith}
use Rattle.store.specs.Layout.{row_size}
use Rattle.store.proofs.Sizes.{product_le}
use Rattle.store.proofs.Layout.bridge_at.Goals as goal

pub overflow_add-result : goal.overflow_add-result
overflow_add-result c = omega (arith, product_le c.args.self.capacity (row_size c.args.self.degree) 4294967295 65536 (omega arith) (omega arith))
