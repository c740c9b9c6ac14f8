-- What is left from a link on is its other end, and what is left from the next link on. Assumes nothing.
use Rattle.std.proofs.Common.{◌≡◌, ℕ, List, ◌∷◌, sym, ap, ap₂, ◌∙◌, length, arith}
use Rattle.lists.specs.Inside.Chains.{ends_after, next_link}
use Rattle.lists.specs.Inside.Lists.{ends_left}
use Rattle.lists.proofs.chains.Reading.{as_after}
use Rattle.lists.proofs.chains.EndsIterator.next.Goals as goal
use Rattle.lists.proofs.chains.EndsIterator.next.Goals.{After-other_end}

one_more : (c : After-other_end) → let self = c.args.self.now in
    ends_left self ≡ c.other_end.result.0 ∷ ends_after self.bridges.now self.nexts.now c.next_link-self.result
one_more c =
    let self = c.args.self.now in
    let rest = ap (ends_after self.bridges.now self.nexts.now) c.next_link-self.ensures ∙ as_after self.bridges.now self.nexts.now (next_link 0 self.nexts.now c.in_ok-link.link) in
    ap (ends_after self.bridges.now self.nexts.now) c.in_ok-link.was ∙ ap₂ (λ (x : ℕ) (l : List ℕ). x ∷ l) (sym c.other_end.ensures) (sym rest)

pub returns-clause-steps : goal.returns-clause-steps
returns-clause-steps c = one_more (goal.at.returns-clause-steps c).After-other_end

pub returns-clause-goes : goal.returns-clause-goes
returns-clause-goes c =
    let more = ap length (one_more (goal.at.returns-clause-goes c).After-other_end) in
    record { on = λ _. (tt, tt, omega (arith, more)); keeps = tt; rests = λ _. tt }
