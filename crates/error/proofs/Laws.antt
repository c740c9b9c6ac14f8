-- No refusal has the number 0, which is for a call that is not refused. Assumes nothing.
use Rattle.std.proofs.Common.{◌≡◌, arith}
use Rattle.error.specs.declared.Refusal.{Refusal}
use Rattle.error.specs.declared.Refusal.TheVariants.{DimensionOutOfRange, ParameterOutOfRange, SliceTooShort, NotWellFormed, AlreadyBuilt, DimensionMismatch, NonFiniteInput}
use Rattle.error.specs.declared.Refusal.TheVariants.{Full, EmptyIndex, NotBuilt, KOrEfTooLarge, OutputTooShort, LimitNotFinite, BadSightings}
use Rattle.error.specs.Inside.Refused.{number_of}

pub never_zero : (r : Refusal) → number_of r ≡ 0 → ⊥
never_zero DimensionOutOfRange e = absurd (omega arith)
never_zero ParameterOutOfRange e = absurd (omega arith)
never_zero SliceTooShort e = absurd (omega arith)
never_zero NotWellFormed e = absurd (omega arith)
never_zero AlreadyBuilt e = absurd (omega arith)
never_zero DimensionMismatch e = absurd (omega arith)
never_zero NonFiniteInput e = absurd (omega arith)
never_zero Full e = absurd (omega arith)
never_zero EmptyIndex e = absurd (omega arith)
never_zero NotBuilt e = absurd (omega arith)
never_zero KOrEfTooLarge e = absurd (omega arith)
never_zero OutputTooShort e = absurd (omega arith)
never_zero LimitNotFinite e = absurd (omega arith)
never_zero BadSightings e = absurd (omega arith)
