-- `Layout::words_size` meets its contract: a capacity of 32 bits and a degree of 16 keep it below 2^49. Assumes nothing.
use Prim.Native.Nat.{◌+◌}
use native.Mathlib.Omega.{arith}
use Rattle.store.proofs.Sizes.{product_le}
use Rattle.store.proofs.Layout.words_size.Goals as goal

pub overflow_mul-result : goal.overflow_mul-result
overflow_mul-result c = omega (arith, product_le c.args.self.capacity (4 + c.args.self.degree) 4294967295 65539 (omega arith) (omega arith))

pub overflow_add-result-2 : goal.overflow_add-result-2
overflow_add-result-2 c = omega (arith, product_le c.args.self.capacity (4 + c.args.self.degree) 4294967295 65539 (omega arith) (omega arith))
