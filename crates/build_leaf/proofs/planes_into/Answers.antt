-- The table holds the first 1,024 numbers of the stream, and the blocks are made of them (`planes_made`). Assumes nothing.
use lib.ListN.{length}
use Rattle.build_leaf.proofs.Leaves.{planes_made}
use Rattle.build_leaf.proofs.planes_into.Goals as goal

pub returns : goal.returns
returns c =
    let x = c.args in
    planes_made x.dimension x.bits (length x.out.now) _ _ _ c.planes_into.ensures c.plane_blocks_into.ensures
