-- One turn more, and the two ends: no node is left, or no turn. Assumes nothing.
use Rattle.std.proofs.Common.{◌≡◌, ℕ, ◌+◌, ◌-◌, get_or, ap, ◌∙◌, arith}
use Rattle.lists.proofs.Places.{get_capped}
use Rattle.lists.specs.Inside.Lists.{list_in}
use Rattle.graph_utils.specs.Inside.Marking.{Marks, marked_from, marked}
use Rattle.graph_utils.proofs.marking.Steps.{walk_step, walk_end, walk_end_fuel}
use Rattle.graph_utils.proofs.marking.mark_reachable.Goals as goal

pub turns-init : goal.turns-init
unfolding marked
turns-init c =
    let n = c.args.lists.shape.n in
    let all : n - 0 ≡ n = omega arith in
    rw all (ap (λ (r : Marks). marked_from n (list_in c.args.lists) n r.words r.top) c.visit-top.ensures)

pub turns-preserved : goal.turns-preserved
turns-preserved c =
    let l = c.turns in
    let n = c.args.lists.shape.n in
    let fewer : n - (l.counter + 1) ≡ n - l.counter - 1 = omega arith in
    let top = c.word_at.ensures ∙ ap (λ (p : ℕ). get_or l.state p 0) c.saturating_add.ensures ∙ get_capped l.state (omega arith) (n + (l.top - 1)) in
    rw fewer
    (walk_step n (list_in c.args.lists) (n - l.counter) l.top _ l.state _ _ (omega arith) (omega arith) top c.visit_list-top.ensures ∙ l.invariant)

pub returns-then-top-eq0 : goal.returns-then-top-eq0
returns-then-top-eq0 c = let l = c.turns in walk_end c.args.lists.shape.n (list_in c.args.lists) _ l.top l.state c.if-top-eq0.true ∙ l.invariant

pub returns : goal.returns
returns c = let l = c.turns in walk_end_fuel c.args.lists.shape.n (list_in c.args.lists) _ l.top l.state (omega arith) ∙ l.invariant
