-- The invariant: what is kept stands in the text. Assumes nothing.
use Rattle.std.proofs.Common.{◌≤◌}
use Rattle.probe.proofs.tell_all.Given as goal

abbrev pub invariant-turns : goal.invariant-turns
invariant-turns g l = l.kept ≤ 65536
