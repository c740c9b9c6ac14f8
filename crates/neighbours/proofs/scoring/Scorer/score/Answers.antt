-- Some nodes more, and the end. Assumes nothing.
use Rattle.std.proofs.Common.{◌≡◌, ℕ, List, sym, ap, ◌∙◌, arith}
use lib.Ieee.{Float}
use Rattle.std.specs.declared.slice.Chunks.{Chunks}
use Rattle.neighbours.specs.Inside.Scoring.{far_by, scored_at}
use Rattle.neighbours.proofs.scoring.Laws.{scored_append, scored_none}
use Rattle.neighbours.proofs.scoring.Scorer.score.Goals as goal
use Rattle.neighbours.proofs.scoring.Scorer.score.Goals.{In-Some}

-- some nodes of those that are left scored: then the others
turn : (c : In-Some) (floats' : List Float) → floats' ≡ scored_at (far_by c.args.self) c.in-Some.some.now c.loop-some.floats
    → (c.next.new.self.size ≡ c.into_iter-some-iterator.result.size)
    × (scored_at (far_by c.args.self) c.next.new.self.rest.now floats' ≡ scored_at (far_by c.args.self) c.args.nodes.now c.args.floats.now)
turn c floats' s =
    let far : ℕ → Float = far_by c.args.self in
    let rest = c.next.new.self.rest.now in
    let steps = c.in-Some.ensures.steps in
    let l = c.loop-some in (
      steps.0 ∙ l.invariant.0,
      ap (scored_at far rest) s ∙ sym (scored_append far c.in-Some.some.now rest l.floats) ∙ sym (ap (λ (nodes : List ℕ). scored_at far nodes l.floats) steps.1.0) ∙ l.invariant.1,
    )

pub loop-some-preserved-then-some-gt-FEW : goal.loop-some-preserved-then-some-gt-FEW
loop-some-preserved-then-some-gt-FEW c = turn (goal.at.loop-some-preserved-then-some-gt-FEW c).In-Some _ c.score_eight.ensures

pub loop-some-preserved : goal.loop-some-preserved
loop-some-preserved c = turn (goal.at.loop-some-preserved c).In-Some _ c.score_each.ensures

pub score_eight-requires : goal.score_eight-requires
score_eight-requires c =
    let steps = c.in-Some.ensures.steps in
    let whole = ap (λ (i : Chunks ℕ). i.size) c.into_iter-some-iterator.ensures.into_iter_gives in
    (omega arith, omega (arith, steps.1.1, c.loop-some.invariant.0, whole, c.chunks-some-items.ensures.size))

pub returns : goal.returns
returns c =
    let l = c.loop-some in
    sym (scored_none (far_by c.args.self) l.some-iterator.rest.now l.floats c.in-None.ensures.steps.1.0) ∙ l.invariant.1
