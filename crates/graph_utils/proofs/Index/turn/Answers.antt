-- The two outcomes of the choice, by the test that led to each. Assumes nothing.
use Rattle.distance.specs.Vectors.{vectors_of}
use Rattle.graph_utils.proofs.Steps.{turn_passed, turn_bridged}
use Rattle.graph_utils.proofs.Index.turn.Goals as goal

pub returns-then-mark-gt0 : goal.returns-then-mark-gt0
returns-then-mark-gt0 c =
    let a = c.args in
    let x = a.self in
    let w = c.word_at-mark in
    turn_passed x.shape x.rows.now (vectors_of x.vectors) x.entry.0 a.i a.count w.result a.bridges.now a.links.now a.state.now w.ensures c.if-mark-gt0.true

pub returns : goal.returns
returns c =
    let a = c.args in
    let x = a.self in
    let w = c.word_at-mark in
    let near = c.bridge_start-near in
    turn_bridged x.shape x.rows.now (vectors_of x.vectors) x.entry.0 a.i a.count w.result a.bridges.now a.links.now a.state.now w.ensures near.result.0 c.put_bridge.new.bridges c.chain_bridge.new.links
    c.mark_reachable.new.state c.if-mark-gt0.false near.ensures c.put_bridge.ensures c.chain_bridge.ensures c.mark_reachable.ensures
