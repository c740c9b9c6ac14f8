-- The arithmetic on the sign bit is the two cases of `value_of` (`value_turned`). Assumes nothing.
use mathlib.Core.Path.{ap, ◌∙◌}
use native.Mathlib.Omega.{arith}
use lib.Ieee.{binary32, of_bits}
use Rattle.distance.specs.Order.{value_of}
use Rattle.distance.proofs.order.Turning.{value_turned}
use Rattle.distance.proofs.order.value.Goals as goal

pub returns : goal.returns
unfolding value_of
returns c = c.f32_from_bits_with_nan.ensures ∙ ap (of_bits binary32) (value_turned binary32 c.args.key (omega arith))
