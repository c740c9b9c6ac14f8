-- The invariant: what is kept stands in the text. Assumes nothing.
use Rattle.std.proofs.Common.{◌≤◌}
use Rattle.replay.proofs.lines.replay_all.Given as goal

abbrev pub invariant-pieces : goal.invariant-pieces
invariant-pieces g l = l.kept ≤ 65536
