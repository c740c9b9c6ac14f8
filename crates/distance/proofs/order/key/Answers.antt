-- `order::key` meets its contract: a NaN's key is the last, and of a number the arithmetic on the sign bit is the two cases of `key_of` (`number_key`).
-- What the format holds has its bits below twice the sign's weight, so that no step wraps.
use mathlib.Core.Path.{◌≡◌, sym, subst}
use mathlib.Core.Bool.{Bool, true, not}
use native.Mathlib.Omega.{arith}
use lib.Dec.{T}
use lib.Ieee.{Float, nan, inf, fin, binary32, fits, is_nan}
use Rattle.std.proofs.lemmas.Bool.{false≢true}
use lib.Ieee.Bits.{to_bits-lt}
use Rattle.distance.specs.Order.{key_of}
use Rattle.distance.proofs.order.Laws.{key_nan}
use Rattle.distance.proofs.order.Turning.{number_key}
use Rattle.distance.proofs.order.key.Goals as goal

at_nan : (x : Float) → is_nan x ≡ true → 0xffff_ffff ≡ key_of binary32 x
unfolding is_nan
at_nan nan e = sym (key_nan binary32)
at_nan (inf s) e = absurd (false≢true e)
at_nan (fin s m d) e = absurd (false≢true e)

held : (x : Float) → fits binary32 x ≡ true → T (fits binary32 x)
held x e = subst T (sym e) tt

pub returns-then-is_nan : goal.returns-then-is_nan
returns-then-is_nan c = at_nan c.args.x (sym c.if-is_nan.ensures.value)

pub overflow_mul-result : goal.overflow_mul-result
overflow_mul-result c = omega (arith, to_bits-lt binary32 c.args.x (held c.args.x c.well_formed.0.1))

pub overflow_add-result : goal.overflow_add-result
overflow_add-result c = omega (arith, to_bits-lt binary32 c.args.x (held c.args.x c.well_formed.0.1))

pub returns : goal.returns
returns c = sym (number_key binary32 c.args.x (held c.args.x c.well_formed.0.1) (subst (λ (b : Bool). T (not b)) c.if-is_nan.ensures.value tt))
