-- The planes are made once, and every leaf is built with them. Assumes nothing.
use mathlib.Core.Path.{refl}
use Rattle.build_leaf.proofs.build_leaves.Goals as goal

pub returns : goal.returns
returns c =
    λ rs leaves sizes held b. c.build_each.ensures (lib.ListN.length rs) rs leaves
    (record { sizes = sizes; planes_are = c.planes_into.ensures refl sizes.dimension_most sizes.bits_most }) refl held b
