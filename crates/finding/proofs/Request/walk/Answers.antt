-- What the walk over the parts leaves is what is found (proofs/Replying). Assumes nothing.
use Rattle.std.proofs.Common.{refl}
use Rattle.finding.proofs.Replying.{nodes_are}
use Rattle.finding.proofs.Request.walk.Goals as goal

pub returns : goal.returns
returns c k at checked =
    let a = c.args in
    nodes_are _ _ a.self.words.now a.self.floats.now a.self.query.now k _ _ checked a.self.stops a.places a.parts at
    a.answer.now c.beam_search.new.answer a.distances.now c.beam_search.new.distances c.beam_search.result refl refl c.beam_search.ensures
