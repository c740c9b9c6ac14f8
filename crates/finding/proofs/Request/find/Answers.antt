-- Either array has room for the nodes that are wanted. Assumes nothing.
use Rattle.std.proofs.Common.{arith}
use Rattle.finding.proofs.Replying.{few}
use Rattle.finding.proofs.Request.find.Goals as goal

pub returns : goal.returns
returns c checked =
    let a = c.args in
    c.find_in-2.ensures (omega (arith, few _ _ a.self.words.now a.self.floats.now a.self.query.now a.self.k _ _ checked)) checked
