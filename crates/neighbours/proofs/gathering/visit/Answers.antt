-- `gathering::visit` meets its contract, by its cases: no node, no room (the node is seen then), and marked, which makes it fresh or not. Assumes nothing.
use lib.Dec.{eqb}
use lib.ListN.{get_or, length-set}
use Rattle.neighbours.proofs.gathering.Steps.{at_most_one, visit_past, visit_full, visit_here}
use native.Mathlib.Omega.{arith}
use Rattle.neighbours.proofs.gathering.visit.Goals as goal

pub returns-then-at-size : goal.returns-then-at-size
returns-then-at-size c = let a = c.args in visit_past a.size a.count a.node a.words.now c.if-at-size.true

pub returns-then-count-size : goal.returns-then-count-size
returns-then-count-size c = let a = c.args in visit_full a.size a.count a.node a.words.now (omega (arith, c.if-at-size.false)) c.if-count-size.true

pub overflow_add-result : goal.overflow_add-result
overflow_add-result c = let a = c.args in omega (arith, at_most_one (eqb (get_or a.words.now a.node 0) 0))

pub returns : goal.returns
returns c = let a = c.args in visit_here a.size a.count a.node a.words.now c.requires (omega (arith, c.if-at-size.false)) (omega (arith, c.if-count-size.false))

pub bounds-words-size : goal.bounds-words-size
bounds-words-size c = simp length-set (omega arith)
