-- It reads pair 1 where there is one. Assumes nothing.
use Rattle.std.proofs.Common.{sym}
use borrow.Author.Tests.{lt-ltb, le-ltb}
use Rattle.basics.specs.Choice.{pick_true, pick_false}
use Rattle.beam_state.specs.Inside.Tournament.{first_of}
use Rattle.beam_state.proofs.tournament.first.Goals as goal

pub returns-then-tree-lt4 : goal.returns-then-tree-lt4
unfolding first_of
returns-then-tree-lt4 c = sym (pick_true _ _ (lt-ltb _ _ c.if-tree-lt4.true))

pub returns : goal.returns
unfolding first_of
returns c = sym (pick_false _ _ (le-ltb _ _ c.if-tree-lt4.false))
