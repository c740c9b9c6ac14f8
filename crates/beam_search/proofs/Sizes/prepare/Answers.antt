-- Three parts are cleared one after the other. Assumes nothing.
use Rattle.std.proofs.Common.{ℕ, ◌+◌, ◌*◌, ap}
use Rattle.beam_state.specs.Inside.State.{held_at}
use Rattle.beam_search.proofs.Ending.{prepared}
use Rattle.beam_search.proofs.Sizes.prepare.Goals as goal

pub returns : goal.returns
returns c =
    let a = c.args in
    let marks = c.fill in
    let front = c.clear in
    let held = c.clear-2 in
    prepared a.self.shape.n a.self.places a.words.now marks.new.self front.new.tree held.new.tree c.requires (marks.ensures.after (λ _ e. e)) front.auto.tree _
    (ap (λ (m : ℕ). held_at a.self.shape.n + 4 * m) c.min.ensures) held.auto.tree front.ensures held.ensures
