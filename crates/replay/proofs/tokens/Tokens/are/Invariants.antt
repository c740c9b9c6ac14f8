-- As many tokens are read as numbers were compared. Assumes nothing.
use Rattle.std.proofs.Common.{◌≡◌}
use Rattle.replay.specs.Inside.Reading.{moved}
use Rattle.replay.proofs.tokens.Tokens.are.Given as goal

abbrev pub invariant-loop-x : goal.invariant-loop-x
invariant-loop-x g l = l.self ≡ moved l.x-index l.initial.self
