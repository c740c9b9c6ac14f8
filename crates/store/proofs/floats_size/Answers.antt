-- `store::floats_size` meets its contract: a product of two u32 fits a usize. Assumes nothing.
use native.Mathlib.Omega.{arith}
use Rattle.store.proofs.Sizes.{product_le}
use Rattle.store.proofs.floats_size.Goals as goal

pub overflow_mul-result : goal.overflow_mul-result
overflow_mul-result c = omega (arith, product_le c.args.capacity c.args.dimension 4294967295 4294967295 (omega arith) (omega arith))
