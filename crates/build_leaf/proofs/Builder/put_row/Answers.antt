-- The node's block is passed on, and what comes back is put in its place (`row_put`). Assumes nothing.
use native.Mathlib.Omega.{arith}
use mathlib.Core.Path.{refl}
use Prim.Native.Nat.{ℕ, ◌+◌, ◌-◌, ◌*◌}
use Rattle.build_leaf.proofs.Rows.{place_fits, row_none, row_put}
use Rattle.build_leaf.proofs.Builder.put_row.Goals as goal

pub overflow_mul-at : goal.overflow_mul-at
overflow_mul-at c = let x = c.args in omega (arith, place_fits x.node.0 (1 + x.self.params.degree) (omega arith) (omega arith))

pub overflow_add-end : goal.overflow_add-end
overflow_add-end c = let x = c.args in omega (arith, place_fits x.node.0 (1 + x.self.params.degree) (omega arith) (omega arith))

pub returns-then-rows-end : goal.returns-then-rows-end
returns-then-rows-end c = let x = c.args in row_none x.self x.node.0 x.candidates.now x.rows.now c.if-rows-end.true

pub returns : goal.returns
returns c =
    let x = c.args in
    let at : ℕ = x.node.0 * (1 + x.self.params.degree) in
    let size : ℕ = (at + (1 + x.self.params.degree)) - at in
    row_put x.self x.node.0 x.candidates.now x.rows.now at size _ refl (omega arith) c.hashprune_insert.ensures
