-- `finite::add_to` meets its contract: the first k sums have their components. Assumes nothing.
use native.Mathlib.Omega.{arith}
use Rattle.params.proofs.finite.Sums.{adding_none, adding_more}
use Rattle.params.proofs.finite.add_to.Goals as goal

pub loop-k-init : goal.loop-k-init
loop-k-init c = adding_none c.args.sums.now c.args.components.now (omega (arith, c.well_formed))

pub loop-k-preserved : goal.loop-k-preserved
loop-k-preserved c =
    let l = c.loop-k in
    adding_more c.args.sums.now c.args.components.now l.sums l.k (omega arith) l.invariant

pub returns : goal.returns
returns c = λ k h. c.loop-k.invariant.done k (omega arith)
