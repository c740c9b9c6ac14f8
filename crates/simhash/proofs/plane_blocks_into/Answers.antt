-- The first k numbers of the blocks stand at the front, what was there follows. Assumes nothing.
use native.Mathlib.Omega.{arith}
use mathlib.Core.Path.{◌≡◌, refl, ◌∙◌}
use mathlib.Core.List.{append-nil}
use lib.ListN.{length, length-set}
use lib.Seq.{drop-length}
use Rattle.simhash.specs.Inside.Blocks.{plane_blocks}
use Rattle.simhash.proofs.Blocks.{blocks_set}
use Rattle.simhash.proofs.plane_blocks_into.Goals as goal

pub loop-k-init : goal.loop-k-init
unfolding plane_blocks
loop-k-init c = (refl, refl)

pub loop-k-preserved : goal.loop-k-preserved
loop-k-preserved c =
    let l = c.loop-k in
    let a = c.args in
    let v = c.block_number.result in (
      length-set l.out l.k v ∙ l.invariant.0,
      blocks_set a.planes.now a.dimension a.bits a.out.now l.out l.k v l.invariant.1 (omega arith) c.block_number.ensures,
    )

pub returns : goal.returns
returns c =
    let l = c.loop-k in
    let a = c.args in
    let whole : l.k ≡ length a.out.now = omega arith in
    l.invariant.1 ∙ rw (whole, drop-length a.out.now) (append-nil (plane_blocks a.planes.now a.dimension a.bits (length a.out.now)))
