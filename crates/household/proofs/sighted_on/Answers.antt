-- A sighting of the day adds its doc id to what is gathered, another adds nothing. Assumes nothing.
use Rattle.std.proofs.Common.{arith, ap, inl, inr, length, ◌≡◌, ◌∷◌, ◌++◌, ◌∙◌, ℕ, List}
use mathlib.Core.Logic.{◌⊎◌}
use Rattle.household.specs.Household.{docs_on}
use Rattle.household.proofs.Steps.{gathered, passed_over, gather_end}
use Rattle.household.proofs.sighted_on.Goals as goal
use Rattle.household.proofs.sighted_on.Goals.{After-day_of}

seconds_are : (c : After-day_of) → c.loop-second.second-iterator.a.rest.now ≡ c.in-Some.second.now ∷ c.next.new.self.a.rest.now
seconds_are c = c.in-Some.ensures.steps.0

docs_are : (c : After-day_of) → c.loop-second.second-iterator.b.rest.now ≡ c.in-Some.doc.now ∷ c.next.new.self.b.rest.now
docs_are c = c.in-Some.ensures.steps.1

pub loop-second-preserved-then-day_of-day : goal.loop-second-preserved-then-day_of-day
loop-second-preserved-then-day_of-day c =
    let p = (goal.at.loop-second-preserved-then-day_of-day c).After-day_of in
    let l = c.loop-second in
    let step = gathered c.args.day c.in-Some.second.now c.in-Some.doc.now c.day_of.result l.today.items _ _ _ _ _ c.day_of.ensures (seconds_are p) (docs_are p) l.invariant.2 c.if-day_of-day.true in
    ((tt, tt), tt, ap (λ (items : List ℕ). items ++ docs_on c.args.day c.next.new.self.a.rest.now c.next.new.self.b.rest.now) c.push.ensures.items ∙ step, omega (arith, ap length (docs_are p), c.push.ensures.len))

pub loop-second-preserved : goal.loop-second-preserved
loop-second-preserved c =
    let p = (goal.at.loop-second-preserved c).After-day_of in
    let l = c.loop-second in
    let step = passed_over c.args.day c.in-Some.second.now c.in-Some.doc.now c.day_of.result l.today.items _ _ _ _ _ c.day_of.ensures (seconds_are p) (docs_are p) l.invariant.2 c.if-day_of-day.false in
    ((tt, tt), tt, step, omega (arith, ap length (docs_are p), l.invariant))

pub returns : goal.returns
returns c =
    let l = c.loop-second in
    let left : (length l.second-iterator.a.rest.now ≡ 0) ⊎ (length l.second-iterator.b.rest.now ≡ 0) = elim c.in-None.ensures.steps [ inl w ↦ inl w.1.0 | inr w ↦ inr w.1.0 ] in
    gather_end c.args.day l.today.items _ _ _ left l.invariant.2
