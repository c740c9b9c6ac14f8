-- What is not refused has at most 512 sightings, so the day's doc ids have room; `sighted_on` says which they are and `count_different` how many
-- different ones, which is the definition's count. Assumes nothing.
use native.Mathlib.Omega.{arith}
use mathlib.Core.Path.{sym, ap, ◌∙◌}
use mathlib.Core.List.{List, [], ◌∷◌}
use Prim.Native.Nat.{ℕ}
use lib.ListN.{length}
use Rattle.basics.specs.Choice.{pick_true, pick_false}
use Rattle.basics.specs.Refusals.{Values}
use Rattle.household.specs.Household.{different, household_values, household_of}
use Rattle.household.proofs.Laws.{accepted, different_short}
use Rattle.household.proofs.household_count.Goals as goal

pub returns-then-seconds-docs : goal.returns-then-seconds-docs
unfolding household_values household_of
returns-then-seconds-docs c = sym (pick_true {X = Values} _ _ c.if-seconds-docs.true)

pub sighted_on-today-requires : goal.sighted_on-today-requires
sighted_on-today-requires c =
    let a = c.args in
    accepted a.seconds.now a.docs.now c.if-seconds-docs.false

pub overflow_cast-result : goal.overflow_cast-result
overflow_cast-result c = omega (arith, c.count_different.ensures, different_short c.as_slice.result.now, c.as_slice.ensures.fits)

pub returns : goal.returns
unfolding household_values household_of
returns c =
    ap {B = Values} (λ (n : ℕ). (0, n ∷ []))
    (c.count_different.ensures ∙ ap (λ (l : List ℕ). length (different l)) (c.as_slice.ensures.value ∙ c.sighted_on-today.ensures))
    ∙ sym (pick_false {X = Values} _ _ c.if-seconds-docs.false)
