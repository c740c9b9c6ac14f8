-- A number that stands again further on adds nothing to the count, another adds one. Assumes nothing.
use Rattle.std.proofs.Common.{arith}
use mathlib.Core.Bool.{not}
use Rattle.household.proofs.Steps.{at_most_one, count_one, none_different}
use Rattle.household.proofs.count_different.Goals as goal

pub loop-i-preserved : goal.loop-i-preserved
loop-i-preserved c =
    let l = c.loop-i in
    let b = at_most_one (not c.occurs.result) in
    let e = count_one c.args.docs.now l.i c.occurs.result (omega arith) c.occurs.ensures in
    (omega (arith, c.from-count.ensures, l.invariant.0), omega (arith, c.from-count.ensures))

pub returns : goal.returns
returns c =
    let l = c.loop-i in
    omega (arith, none_different c.args.docs.now l.i (omega arith), l.invariant.0)
