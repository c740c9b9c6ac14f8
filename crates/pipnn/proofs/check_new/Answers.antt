-- `pipnn::check_new` meets its contract: at each place the checks before it have passed. Assumes nothing.
use mathlib.Core.Path.{◌≡◌, sym, ap, ◌∙◌}
use mathlib.Core.Bool.{true, not, ◌&&◌}
use mathlib.Core.List.{List}
use native.Mathlib.Omega.{arith}
use lib.ListN.{take}
use Rattle.basics.specs.Refusals.{Check}
use Rattle.basics.proofs.Refusals.{Pass, turned_at, none_turned}
use Rattle.basics.proofs.Tests.{both_true}
use Rattle.params.specs.Limits.{within_limits, capacity_within}
use Rattle.params.proofs.Laws.{within}
use Rattle.pipnn.specs.New.{new_checks}
use Rattle.pipnn.proofs.check_new.Goals as goal
use Rattle.pipnn.proofs.check_new.Goals.{After-capacity_within, Else-not-dimension_within, Else-not-within_limits-capacity_within, Start}

abbrev K : Start → List Check
K s = new_checks s.args.dimension s.args.p s.args.capacity s.args.words.now s.args.floats.now

-- what has passed at each place
passed_1 : (c : Else-not-dimension_within) → Pass (take 1 (new_checks c.args.dimension c.args.p c.args.capacity c.args.words.now c.args.floats.now))
unfolding new_checks
passed_1 c = (ap not (sym c.dimension_within.ensures ∙ c.if-not-dimension_within.false), tt)

-- the second check's two halves, as the code joins them
second : (c : After-capacity_within)
    → (c.within_limits.result && c.capacity_within.result)
    ≡ (within_limits c.args.p && capacity_within c.args.capacity)
second c = λ i. c.within_limits.ensures i && c.capacity_within.ensures i

taken : (c : Else-not-within_limits-capacity_within) → (within_limits c.args.p && capacity_within c.args.capacity) ≡ true
taken c = sym (λ i. c.within_limits.ensures i && c.capacity_within.ensures i) ∙ c.if-not-within_limits-capacity_within.false

passed_2 : (c : Else-not-within_limits-capacity_within) → Pass (take 2 (new_checks c.args.dimension c.args.p c.args.capacity c.args.words.now c.args.floats.now))
unfolding new_checks
passed_2 c = (
  ap not (sym c.dimension_within.ensures ∙ c.if-not-dimension_within.false),
  (ap not (sym (λ i. c.within_limits.ensures i && c.capacity_within.ensures i) ∙ c.if-not-within_limits-capacity_within.false), tt),
)

pub returns-then-not-dimension_within : goal.returns-then-not-dimension_within
unfolding new_checks
returns-then-not-dimension_within c = turned_at 0 (K (goal.at.returns-then-not-dimension_within c).Start) tt (ap not (sym c.dimension_within.ensures ∙ c.if-not-dimension_within.true))

pub returns-then-not-within_limits-capacity_within : goal.returns-then-not-within_limits-capacity_within
unfolding new_checks
returns-then-not-within_limits-capacity_within c =
    turned_at 1 (K (goal.at.returns-then-not-within_limits-capacity_within c).Start) (passed_1 (goal.at.returns-then-not-within_limits-capacity_within c).Else-not-dimension_within)
    (ap not (sym (second (goal.at.returns-then-not-within_limits-capacity_within c).After-capacity_within) ∙ c.if-not-within_limits-capacity_within.true))

pub returns-then-store_short : goal.returns-then-store_short
unfolding new_checks
returns-then-store_short c =
    turned_at 2 (K (goal.at.returns-then-store_short c).Start) (passed_2 (goal.at.returns-then-store_short c).Else-not-within_limits-capacity_within) (sym c.store_short.ensures ∙ c.if-store_short.true)

pub returns : goal.returns
unfolding new_checks
returns c =
    let t = passed_2 (goal.at.returns c).Else-not-within_limits-capacity_within in
    none_turned (K (goal.at.returns c).Start) (t.0, (t.1.0, (sym c.store_short.ensures ∙ c.if-store_short.false, tt)))

pub overflow_cast-degree : goal.overflow_cast-degree
overflow_cast-degree c = let limits = within _ (both_true _ _ (taken (goal.at.overflow_cast-degree c).Else-not-within_limits-capacity_within)).0 in omega arith
