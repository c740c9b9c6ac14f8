-- One step more, and the two ends. Assumes nothing.
use Rattle.std.proofs.Common.{◌≡◌, ◌+◌, ◌-◌, refl, arith}
use Rattle.beam_search.proofs.Walking.{onward_none, onward_more, onward_ends, onward_all}
use Rattle.beam_search.proofs.Walker.walk_on.Goals as goal

pub steps-init : goal.steps-init
steps-init c =
    let a = c.args in
    let all : a.self.now.reads.sizes.shape.n - 0 ≡ a.self.now.reads.sizes.shape.n = omega arith in
    rw all (onward_none a.self.now.reads a.self.now.links.now _)

pub returns-in-Break : goal.returns-in-Break
returns-in-Break c = onward_ends c.steps.invariant _ _ (omega arith) c.in-Break.ensures refl

pub steps-preserved : goal.steps-preserved
steps-preserved c =
    let fewer : c.args.self.now.reads.sizes.shape.n - (c.steps.counter + 1) ≡ c.args.self.now.reads.sizes.shape.n - c.steps.counter - 1 = omega arith in
    rw fewer (onward_more c.steps.invariant _ _ (omega arith) c.in-Continue.ensures refl c.step.auto.words c.step.auto.floats c.step.auto.answer)

pub returns : goal.returns
returns c = onward_all c.steps.invariant (omega arith)
