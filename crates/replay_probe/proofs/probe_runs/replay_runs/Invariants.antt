-- The measure is what is left of the text, which each run takes from. Assumes nothing.
use Rattle.std.proofs.Common.{length}
use Rattle.replay_probe.proofs.probe_runs.replay_runs.Given as goal

abbrev pub decreases-loop-rest : goal.decreases-loop-rest
decreases-loop-rest l = length l.rest
