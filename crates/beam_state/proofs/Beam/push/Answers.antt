-- `push` meets its contract: the frontier's part of the words is written, and for a live node the held's, and the answer, each by its own function.
-- Assumes nothing.
use mathlib.Core.Path.{sym, ap, ◌∙◌}
use Prim.Native.Nat.{ℕ, ◌+◌, ◌*◌}
use Rattle.beam_state.specs.Inside.State.{held_at}
use Rattle.beam_state.proofs.Pushing.{enter_frame, push_not, push_frame, push_is}
use Rattle.beam_state.proofs.Beam.push.Goals as goal

pub returns-then-not-is_live : goal.returns-then-not-is_live
returns-then-not-is_live c =
    let a = c.args in
    let enter = c.enter in
    let far = c.distance_of-distance in record {
      marks = enter_frame a.self.size a.self.places a.node.0 a.self.floats.now a.walk a.words.now a.answer.now a.self.withdrawn.now c.requires enter.new.tree enter.auto.tree;
      pushed = push_not a.self.size a.self.places a.node.0 a.self.floats.now a.walk a.words.now a.answer.now a.self.withdrawn.now c.requires enter.new.tree enter.auto.tree
          far.result c.key-key.result enter.ensures far.ensures c.key-key.ensures (sym c.is_live.ensures ∙ c.if-not-is_live.true);
    }

pub returns : goal.returns
returns c =
    let a = c.args in
    let enter = c.enter in
    let keep = c.keep_closest-closest in
    let far = c.distance_of-distance in
    let first = c.keep_first-kept in
    let end = ap (λ (m : ℕ). held_at a.self.size + 4 * m) c.min.ensures in record {
      marks = push_frame a.self.size a.self.places a.node.0 a.self.floats.now a.walk a.words.now a.answer.now a.self.withdrawn.now c.requires enter.new.tree enter.auto.tree
          _ end keep.new.tree first.new.pairs keep.auto.tree;
      pushed = push_is a.self.size a.self.places a.node.0 a.self.floats.now a.walk a.words.now a.answer.now a.self.withdrawn.now c.requires enter.new.tree enter.auto.tree
          _ end keep.new.tree first.new.pairs keep.auto.tree
          keep.result far.result c.key-key.result first.result c.saturating_add.result
          enter.ensures keep.ensures far.ensures c.key-key.ensures first.ensures first.auto.pairs c.saturating_add.ensures
          (sym c.is_live.ensures ∙ c.if-not-is_live.false);
    }
