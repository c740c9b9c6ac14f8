-- `build::leaf_entries` meets its contract, by its test. Assumes nothing.
use mathlib.Core.Path.{sym}
use borrow.Author.Tests.{le-leb, lt-leb}
use Rattle.basics.specs.Choice.{pick_true, pick_false}
use Rattle.build.proofs.leaf_entries.Goals as goal

pub returns-then-n-max_leaf_size : goal.returns-then-n-max_leaf_size
returns-then-n-max_leaf_size c = sym (pick_true _ _ (le-leb _ _ c.if-n-max_leaf_size.true))

pub returns : goal.returns
returns c = sym (pick_false _ _ (lt-leb _ _ c.if-n-max_leaf_size.false))
