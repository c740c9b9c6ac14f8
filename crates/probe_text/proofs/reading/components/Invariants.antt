-- The invariant: there was room for the components that were kept. Assumes nothing.
use Rattle.std.proofs.Common.{◌≤◌, length}
use Rattle.probe_text.proofs.reading.components.Given as goal

abbrev pub invariant-loop-piece : goal.invariant-loop-piece
invariant-loop-piece l = l.count ≤ length l.room
