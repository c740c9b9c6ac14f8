-- `pipnn::put_vector` meets its contract: the part holds the vector after the copy, and the scaled vector after that. Assumes nothing.
use mathlib.Core.Path.{◌≡◌}
use Prim.Native.Nat.{◌+◌, ◌-◌}
use native.Mathlib.Omega.{arith}
use lib.ListN.{length}
use Rattle.pipnn.proofs.AddLaws.{scaled_put}
use Rattle.pipnn.proofs.put_vector.Goals as goal

pub returns : goal.returns
returns c =
    let many : c.args.at + length c.args.vector.now - c.args.at ≡ length c.args.vector.now = omega arith in
    let copy = c.copy in
    let scale = c.normalize in
    scaled_put c.args.floats.now c.args.vector.now c.args.at _ copy.new.to scale.new.v many c.requires (copy.ensures.after (omega arith)) scale.ensures
