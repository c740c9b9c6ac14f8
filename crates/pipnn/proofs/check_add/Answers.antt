-- The checks that every call begins with, then at each place those before it have passed. Assumes nothing.
use mathlib.Core.Path.{◌≡◌, sym, ap, ◌∙◌}
use mathlib.Core.Bool.{not}
use mathlib.Core.List.{List}
use lib.ListN.{take}
use borrow.Author.Tests.{eq-eqb, ne_eqb}
use Rattle.std.proofs.Common.{None, ℕ}
use lib.Ieee.{Float}
use Rattle.std.proofs.lemmas.Result.{err_from_is_err_and}
use Rattle.basics.specs.Refusals.{Check, first_refusal}
use Rattle.basics.proofs.Refusals.{Pass, turned_at, none_turned}
use Rattle.store.specs.Opening.{opening}
use Rattle.store.proofs.Opened.{own_decide, first_decide}
use Rattle.pipnn.specs.Add.{own_checks, add_checks}
use Rattle.pipnn.proofs.check_add.Goals as goal
use Rattle.pipnn.proofs.check_add.Goals.{Else-not-all_finite, Else-vector-word_at, Else-word_at-eq-BUILT, Start}

abbrev Own : Start → List Check
Own s = own_checks s.args.words.now s.args.vector.now

-- where the first checks pass, its own decide
own : (w : List ℕ) (f v : List Float) → 0 ≡ first_refusal (opening None w f) → first_refusal (own_checks w v) ≡ first_refusal (add_checks w f v)
unfolding add_checks
own w f v e = own_decide None w f (own_checks w v) e

-- what has passed at each place
passed_1 : (c : Else-word_at-eq-BUILT) → Pass (take 1 (own_checks c.args.words.now c.args.vector.now))
unfolding own_checks
passed_1 c = (ne_eqb _ _ (λ e. c.if-word_at-eq-BUILT.false (c.word_at.ensures ∙ e)), tt)

passed_2 : (c : Else-vector-word_at) → Pass (take 2 (own_checks c.args.words.now c.args.vector.now))
unfolding own_checks
passed_2 c =
    (ne_eqb _ _ (λ e. c.if-word_at-eq-BUILT.false (c.word_at.ensures ∙ e)), (ap not (eq-eqb _ _ (c.if-vector-word_at.false ∙ c.word_at-2.ensures)), tt))

passed_3 : (c : Else-not-all_finite) → Pass (take 3 (own_checks c.args.words.now c.args.vector.now))
unfolding own_checks
passed_3 c = (
  ne_eqb _ _ (λ e. c.if-word_at-eq-BUILT.false (c.word_at.ensures ∙ e)),
  (ap not (eq-eqb _ _ (c.if-vector-word_at.false ∙ c.word_at-2.ensures)), (ap not (sym c.all_finite.ensures ∙ c.if-not-all_finite.false), tt)),
)

pub returns-in_err-check_opening : goal.returns-in_err-check_opening
unfolding add_checks
returns-in_err-check_opening c =
    let a = c.args in
    let p = err_from_is_err_and c.from_residual.result c.from_residual.ensures.1 in
    rw (p.1, p.2) (first_decide None a.words.now a.floats.now (own_checks a.words.now a.vector.now) _ c.in_err-check_opening.ensures)

pub returns-then-word_at-eq-BUILT : goal.returns-then-word_at-eq-BUILT
unfolding own_checks
returns-then-word_at-eq-BUILT c =
    turned_at 0 (Own (goal.at.returns-then-word_at-eq-BUILT c).Start) tt (eq-eqb _ _ (sym c.word_at.ensures ∙ c.if-word_at-eq-BUILT.true)) ∙ own c.args.words.now c.args.floats.now c.args.vector.now c.in_ok-check_opening.ensures

pub returns-then-vector-word_at : goal.returns-then-vector-word_at
unfolding own_checks
returns-then-vector-word_at c =
    turned_at 1 (Own (goal.at.returns-then-vector-word_at c).Start) (passed_1 (goal.at.returns-then-vector-word_at c).Else-word_at-eq-BUILT)
    (ap not (ne_eqb _ _ (λ e. c.if-vector-word_at.true (e ∙ sym c.word_at-2.ensures))))
    ∙ own c.args.words.now c.args.floats.now c.args.vector.now c.in_ok-check_opening.ensures

pub returns-then-not-all_finite : goal.returns-then-not-all_finite
unfolding own_checks
returns-then-not-all_finite c =
    turned_at 2 (Own (goal.at.returns-then-not-all_finite c).Start) (passed_2 (goal.at.returns-then-not-all_finite c).Else-vector-word_at) (ap not (sym c.all_finite.ensures ∙ c.if-not-all_finite.true)) ∙ own c.args.words.now c.args.floats.now c.args.vector.now c.in_ok-check_opening.ensures

pub returns-then-word_at : goal.returns-then-word_at
unfolding own_checks
returns-then-word_at c =
    turned_at 3 (Own (goal.at.returns-then-word_at c).Start) (passed_3 (goal.at.returns-then-word_at c).Else-not-all_finite)
    (eq-eqb _ _ (sym c.word_at-3.ensures ∙ c.if-word_at.true ∙ c.word_at-4.ensures))
    ∙ own c.args.words.now c.args.floats.now c.args.vector.now c.in_ok-check_opening.ensures

pub returns : goal.returns
unfolding own_checks
returns c =
    let t = passed_3 (goal.at.returns c).Else-not-all_finite in
    none_turned (Own (goal.at.returns c).Start)
    (t.0, (t.1.0, (t.1.1.0, (ne_eqb _ _ (λ e. c.if-word_at.false (c.word_at-3.ensures ∙ e ∙ sym c.word_at-4.ensures)), tt))))
    ∙ own c.args.words.now c.args.floats.now c.args.vector.now c.in_ok-check_opening.ensures
