-- One more case, and one more that differs where it is not the same. Assumes nothing.
use Rattle.std.proofs.Common.{◌≡◌, ℕ, ◌+◌, ◌%◌, Bool, true, false, not, refl, ap, ◌∙◌}
use mir.Val.{bool_byte}
use Rattle.basics.specs.Choice.{pick}
use Rattle.replay.proofs.tallies.Tally.count.Goals as goal

counted : (same : Bool) → bool_byte (not same) ≡ pick same 0 1
unfolding pick
counted true = refl
counted false = refl

pub returns : goal.returns
returns c = (refl, ap (λ (n : ℕ). (c.args.self.now.differ + n) % 18446744073709551616) (c.from.ensures ∙ counted c.args.same))
