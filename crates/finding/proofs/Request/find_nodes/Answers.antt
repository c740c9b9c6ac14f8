-- The query stands scaled at the front of the room. On a checked store the query is short and the parts lie in the stores, so neither test fails.
-- Assumes nothing.
use mathlib.Core.Path.{sym, ◌∙◌}
use native.Mathlib.Omega.{arith}
use Rattle.finding.proofs.Replying.{stores, query_short, lies}
use Rattle.finding.proofs.Scaled.{room_is, checked_scaled, found_scaled}
use Rattle.finding.proofs.Request.find_nodes.Goals as goal
use Rattle.finding.proofs.Request.find_nodes.Goals.{Else-components}

pub returns-then-components : goal.returns-then-components
returns-then-components c checked =
    let a = c.args in
    let few = query_short _ _ a.self.words.now a.self.floats.now a.self.query.now a.self.k _ _ checked in
    absurd (omega (arith, c.if-components.true, few))

pub returns-then-not-lies : goal.returns-then-not-lies
returns-then-not-lies c checked =
    let a = c.args in
    let opened = stores _ _ a.self.words.now a.self.floats.now a.self.query.now a.self.k _ _ checked in
    let all =
    lies _ _ a.self.words.now a.self.floats.now a.self.query.now a.self.k _ _ checked c.parts_of-parts.result
    (c.parts_of-parts.ensures opened.header.degree) in
    absurd (mathlib.Core.Bool.false≢true (sym (c.if-not-lies.true) ∙ c.lies_in-lies.ensures ∙ all))

pub returns : goal.returns
returns c checked =
    let a = c.args in
    let opened = stores _ _ a.self.words.now a.self.floats.now a.self.query.now a.self.k _ _ checked in
    let scaled = room_is _ _ a.self.query.now c.scale_into.ensures in
    c.walk.ensures a.self.k (c.parts_of-parts.ensures opened.header.degree)
    (checked_scaled _ _ a.self.words.now a.self.floats.now a.self.query.now _ a.self.k _ _ scaled checked)
    ∙ found_scaled a.self.words.now a.self.floats.now a.self.query.now _ a.self.k a.answer.now a.distances.now scaled a.self.stops a.places
