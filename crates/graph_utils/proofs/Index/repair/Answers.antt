-- One turn more, and the end. Assumes nothing.
use Rattle.std.proofs.Common.{◌≡◌, List, ap, ◌∙◌, arith}
use lib.Ieee.{Float}
use Rattle.distance.specs.Vectors.{vectors_of}
use Rattle.graph_utils.specs.Inside.Turns.{Work, work, turned_to}
use Rattle.graph_utils.proofs.Steps.{turned_count, no_turn, one_turn, begin_is}
use Rattle.graph_utils.proofs.Index.repair.Goals as goal

pub loop-i-init : goal.loop-i-init
loop-i-init c =
    let a = c.args in
    let x = a.self in
    (omega arith, no_turn x.shape x.rows.now (vectors_of x.vectors) x.entry.0 (work 0 _ _ _))

pub loop-i-preserved : goal.loop-i-preserved
loop-i-preserved c =
    let l = c.loop-i in
    let a = c.args in
    let x = a.self in
    let vs : List (List Float) = vectors_of x.vectors in
    let before : Work = work l.count l.bridges l.links l.state in
    let t = c.turn-count in (
      omega (arith, ap (λ (w : Work). w.count) t.ensures, turned_count x.shape x.rows.now vs x.entry.0 l.i before),
      one_turn x.shape x.rows.now vs x.entry.0 _ before _ l.i l.invariant.1 t.ensures,
    )

pub returns : goal.returns
returns c =
    let l = c.loop-i in
    let a = c.args in
    let x = a.self in
    let e : l.i ≡ x.shape.n = omega arith in
    let clear = c.clear_links in
    let mark = c.mark_reachable in
    let vs : List (List Float) = vectors_of x.vectors in
    let first = begin_is x.shape x.rows.now vs x.entry.0 a.bridges.now a.links.now a.state.now clear.new.links mark.new.state
    clear.ensures mark.ensures in
    l.invariant.1 ∙ ap (turned_to x.shape x.rows.now vs x.entry.0 (work 0 a.bridges.now clear.new.links mark.new.state)) e
    ∙ ap (λ (w : Work). turned_to x.shape x.rows.now vs x.entry.0 w x.shape.n) first
