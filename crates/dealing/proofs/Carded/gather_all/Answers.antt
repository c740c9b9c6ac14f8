-- One bucket more. Assumes nothing.
use mathlib.Core.Path.{sym, ◌∙◌}
use Rattle.dealing.proofs.Gathering.{so_far_none, so_far_room, so_far_more}
use native.Mathlib.Omega.{arith}
use Rattle.dealing.proofs.Carded.gather_all.Goals as goal

pub loop-l-init : goal.loop-l-init
loop-l-init c = let x = c.args in so_far_none x.self.ids.now x.self.cards.now x.self.min_leaf x.small.now x.nodes.now x.marks.now

pub gather_one-g-requires : goal.gather_one-g-requires
gather_one-g-requires c =
    let l = c.loop-l in
    let x = c.args in
    let d = c.requires.dealt in
    let room = so_far_room x.self.ids.now x.self.cards.now x.self.min_leaf l.l l.invariant x.self.leaders c.loop-l-test.true in
    record {
      cards_size = d.cards_size;
      marks_size = l.auto.marks ∙ d.marks_size ∙ sym l.auto.nodes;
      small_room = omega (arith, room, d.all_entries, l.auto.small, c.requires.nodes_in_bounds);
      nodes_room = omega (arith, room, d.all_entries, l.auto.nodes);
    }

pub loop-l-preserved : goal.loop-l-preserved
loop-l-preserved c =
    let x = c.args in
    so_far_more x.self.ids.now x.self.cards.now x.self.min_leaf c.loop-l.l c.loop-l.invariant c.gather_one-g.ensures
