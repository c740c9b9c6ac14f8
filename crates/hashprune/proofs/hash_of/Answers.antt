-- The part of the array that the residual fills is the residual, or its first 64 components. Assumes nothing.
use mathlib.Core.Path.{ap, ◌∙◌}
use mathlib.Core.List.{List}
use Prim.Native.Nat.{min}
use lib.Ieee.{Float, binary32}
use Rattle.def_graph.specs.Simhash.{residual}
use Rattle.simhash.specs.Inside.Blocks.{blocks_hash}
use Rattle.simhash.proofs.Residual.{length-residual}
use Rattle.hashprune.proofs.Lists.{residual_cut}
use native.Mathlib.Omega.{arith}
use Rattle.hashprune.proofs.hash_of.Goals as goal

pub returns : goal.returns
returns c =
    let a = c.args in
    let r = c.residual_into in
    let n = c.min-n.result in
    let long = length-residual binary32 a.c.now a.p.now in
    c.simhash_residual.ensures
    ∙ ap (λ (l : List Float). blocks_hash l a.planes.now (min a.bits 16))
    (residual_cut (residual binary32 a.c.now a.p.now) _ r.new.out n (omega (arith, c.min.ensures, c.min-n.ensures)) (omega arith) r.ensures)
