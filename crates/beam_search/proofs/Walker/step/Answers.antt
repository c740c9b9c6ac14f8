-- Where it ends: an empty frontier, too far, or a node expanded. Assumes nothing.
use Rattle.std.proofs.Common.{◌≡◌, Bool, true, false, ◌||◌, ◌*◌, leb, ltb, sym, ◌∙◌}
use Rattle.beam_state.specs.Inside.State.{Memory}
use Rattle.beam_search.specs.Inside.Steps.{Stepping}
use Rattle.beam_search.proofs.Taking.{expanding}
use Rattle.beam_search.proofs.Walking.{popped_to, popped_long, step_empty, step_far, step_on}
use Rattle.beam_search.proofs.Walker.step.Goals as goal
use Rattle.beam_search.proofs.Walker.step.Goals.{Start, After-ends_after}

abbrev memory : Start → Memory
memory s = let a = s.args in record { words = a.words.now; floats = a.floats.now; answer = a.answer.now; walk = a.walk }

pub returns-in_default : goal.returns-in_default
returns-in_default c =
    let a = c.args in
    step_empty a.self.now.reads a.self.now.links.now (memory (goal.at.returns-in_default c).Start) c.pop.new.tree c.requires c.pop.auto.tree c.pop.result c.pop.ensures c.in_default.is

pub returns-then-too_far : goal.returns-then-too_far
returns-then-too_far c =
    let a = c.args in
    step_far a.self.now.reads a.self.now.links.now (memory (goal.at.returns-then-too_far c).Start) c.pop.new.tree c.requires c.pop.auto.tree c.pop.result c.pop.ensures
    c.in-At.distance c.in-At.node c.in-At.is c.too_far.result c.too_far.ensures c.if-too_far.true

-- a node expanded
module _ (c : After-ends_after) where
  abbrev after : Memory
  after = let take = c.take_in-next in record { words = take.new.words; floats = take.new.floats; answer = take.new.answer; walk = take.result }

  expanded : (done : Bool) → done ≡ (ltb (c.args.self.now.reads.sizes.stops.multiplier * c.args.self.now.reads.sizes.places) c.take_in-next.result.scored || leb c.args.self.now.reads.sizes.shape.n c.take_in-next.result.scored)
      → Stepping c.args.self.now.reads c.args.self.now.links.now (record { words = c.args.words.now; floats = c.args.floats.now; answer = c.args.answer.now; walk = c.args.walk }) after done
  expanded done d =
      let a = c.args in
      let m : Memory = record { words = a.words.now; floats = a.floats.now; answer = a.answer.now; walk = a.walk } in
      let gather = c.gather-count in
      let take = c.take_in-next in
      step_on a.self.now.reads a.self.now.links.now m c.pop.new.tree c.requires c.pop.auto.tree c.pop.result c.pop.ensures c.in-At.distance c.in-At.node c.in-At.is
      c.too_far.result c.too_far.ensures after done c.if-too_far.false
      (expanding a.self.now.reads a.self.now.links c.in-At.node.0 gather.result gather.new.words
      (popped_to a.self.now.reads a.self.now.links.now m c.pop.new.tree c.requires c.pop.auto.tree) after
      (popped_long a.self.now.reads a.self.now.links.now m c.pop.new.tree c.requires c.pop.auto.tree) gather.ensures take.ensures.pushed take.ensures.marks)
      d

pub returns-then-ends_after : goal.returns-then-ends_after
returns-then-ends_after c = expanded (goal.at.returns-then-ends_after c).After-ends_after true (sym c.if-ends_after.true ∙ c.ends_after.ensures)

pub returns : goal.returns
returns c = expanded (goal.at.returns c).After-ends_after false (sym c.if-ends_after.false ∙ c.ends_after.ensures)
