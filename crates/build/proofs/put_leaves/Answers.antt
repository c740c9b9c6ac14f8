-- The nodes and sizes that are passed on are those of the leaves (proofs/Leaves). Assumes nothing.
use mathlib.Core.Path.{◌≡◌, sym, ap}
use Prim.Native.Nat.{ℕ, ◌+◌, ◌-◌, ◌*◌}
use lib.ListN.{take, drop}
use lib.Seq.{length-take-le}
use Rattle.build.proofs.Leaves.{entries_most, built_from}
use native.Mathlib.Omega.{arith}
use Rattle.build.proofs.put_leaves.Goals as goal

pub slice_bounds-build_leaves-end : goal.slice_bounds-build_leaves-end
slice_bounds-build_leaves-end c =
    let few = entries_most c.args.stored.n c.args.max_leaf_size in
    sym (length-take-le _ _ (omega (arith, c.leaf_entries-nodes_end.ensures, few, c.requires.words_room)))

pub returns : goal.returns
returns c =
    let a = c.args in
    let build = c.build_leaves in
    let end = c.leaf_entries-nodes_end in
    let size : 2 * a.stored.n + a.count - 2 * a.stored.n ≡ a.count = omega arith in
    built_from a.stored.n a.max_leaf_size a.leaf a.count _ a.stored.vectors a.carved.now _ _ _ _
    (ap (λ (k : ℕ). take k a.carved.now) end.ensures) (ap (λ (k : ℕ). take k (drop (2 * a.stored.n) a.carved.now)) size) build.ensures

pub slice_bounds-build_leaves-end-2 : goal.slice_bounds-build_leaves-end-2
slice_bounds-build_leaves-end-2 c = omega (arith, c.requires.counted, c.requires.words_room)
