-- `ends_after` meets its contract, which is what it computes: a product of two numbers below 2^32 fits 64 bits. Assumes nothing.
use Rattle.store.proofs.Sizes.{product_le}
use native.Mathlib.Omega.{arith}
use Prim.Native.Nat.{◌*◌, ◌≤◌}
use Rattle.beam_search.proofs.Sizes.ends_after.Goals as goal

pub overflow_mul-result : goal.overflow_mul-result
overflow_mul-result c =
    let a = c.args in
    let most : a.self.stops.multiplier * a.self.places ≤ 4294967295 * 4294967295 =
    product_le _ _ 4294967295 4294967295 (omega arith) (omega arith) in
    omega arith
