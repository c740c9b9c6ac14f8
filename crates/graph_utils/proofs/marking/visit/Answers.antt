-- A node that is not marked is written twice, as its mark and on the stack. Assumes nothing.
use native.Mathlib.Omega.{arith}
use mathlib.Core.Path.{ap, ◌∙◌}
use mathlib.Core.List.{List}
use Prim.Native.Nat.{ℕ, ◌+◌, ◌<◌}
use lib.ListN.{set}
use Rattle.lists.proofs.Places.{set_capped}
use Rattle.graph_utils.proofs.marking.Steps.{visit_new, visit_old, visit_room}
use Rattle.graph_utils.proofs.marking.visit.Goals as goal

pub overflow_add-result : goal.overflow_add-result
overflow_add-result c =
    let t = c.if-v-n.true in
    let a = c.args in
    let h : a.top < a.n = visit_room a.n a.v a.top c.word_at-mark.result t in
    omega arith

pub returns-then-v-n : goal.returns-then-v-n
returns-then-v-n c =
    let a = c.args in
    let w = c.word_at-mark in
    visit_new a.n a.v a.top w.result a.state.now _ w.ensures c.if-v-n.true
    (c.put-then-v-n.ensures
    ∙ ap (λ (p : ℕ). set c.put.new.items p a.v) c.saturating_add.ensures
    ∙ set_capped c.put.new.items (omega arith) (a.n + a.top) a.v
    ∙ ap (λ (l : List ℕ). set l (a.n + a.top) a.v) c.put.ensures)

pub returns : goal.returns
returns c =
    let a = c.args in
    let w = c.word_at-mark in
    visit_old a.n a.v a.top w.result a.state.now w.ensures c.if-v-n.false
