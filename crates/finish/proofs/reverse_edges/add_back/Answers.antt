-- The neighbour's block is passed on, and what comes back is put in its place (`back_put`). Assumes nothing.
use native.Mathlib.Omega.{arith}
use Prim.Native.Nat.{ℕ, ◌+◌, ◌-◌, ◌*◌}
use lib.ListN.{length-take, length-drop}
use mathlib.Core.Path.{refl}
use Rattle.finish.proofs.reverse_edges.Laws.{place_fits, back_none, back_put}
use Rattle.finish.proofs.reverse_edges.add_back.Goals as goal

pub overflow_mul-at : goal.overflow_mul-at
overflow_mul-at c = omega (arith, place_fits c.args.nb.0 (1 + c.args.degree) (omega arith) (omega arith))

pub overflow_add-end : goal.overflow_add-end
overflow_add-end c = omega (arith, place_fits c.args.nb.0 (1 + c.args.degree) (omega arith) (omega arith))

pub returns-then-rows-end : goal.returns-then-rows-end
returns-then-rows-end c = let x = c.args in back_none x.degree x.node.0 x.nb.0 x.rows.now c.if-rows-end.true

pub returns : goal.returns
returns c =
    let x = c.args in
    let at : ℕ = x.nb.0 * (1 + x.degree) in
    let size : ℕ = (at + (1 + x.degree)) - at in
    back_put x.degree x.node.0 x.nb.0 x.rows.now at size _ refl (omega arith) c.add_entry.ensures

pub add_entry-requires : goal.add_entry-requires
add_entry-requires c = simp (length-take, length-drop) (omega arith)
