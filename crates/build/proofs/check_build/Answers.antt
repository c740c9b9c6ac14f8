-- The checks that every call begins with, then its own. Assumes nothing.
use mathlib.Core.Path.{◌≡◌, ◌∙◌}
use mathlib.Core.List.{List}
use native.Mathlib.Omega.{arith}
use borrow.Author.Tests.{eq-eqb, ne_eqb}
use Rattle.std.proofs.lemmas.Result.{err_from_is_err_and}
use Rattle.basics.specs.Refusals.{Check, first_refusal}
use Rattle.basics.proofs.Refusals.{turned_at, none_turned}
use Rattle.store.specs.Opening.{scratch, opening}
use Rattle.store.proofs.Opened.{own_decide, first_decide}
use Rattle.def_calls.specs.Build.{own_build_checks, build_checks}
use Rattle.build.proofs.check_build.Goals as goal
use Rattle.build.proofs.check_build.Goals.{Start}

abbrev First : Start → List Check
First s = opening (scratch s.args.lent.words s.args.lent.floats) s.args.words.now s.args.floats.now

abbrev Own : Start → List Check
Own s = own_build_checks s.args.words.now

-- where the first checks pass, its own decide
own : (s : Start) → 0 ≡ first_refusal (First s) → first_refusal (Own s) ≡ first_refusal (build_checks s.args.lent.words s.args.lent.floats s.args.words.now s.args.floats.now)
unfolding build_checks
own s e = own_decide (scratch s.args.lent.words s.args.lent.floats) s.args.words.now s.args.floats.now (Own s) e

pub returns-in_err-check_opening : goal.returns-in_err-check_opening
unfolding build_checks
returns-in_err-check_opening c =
    let p = err_from_is_err_and c.from_residual.result c.from_residual.ensures.1 in
    let s = (goal.at.returns-in_err-check_opening c).Start in
    rw (p.1, p.2) (first_decide (scratch s.args.lent.words s.args.lent.floats) s.args.words.now s.args.floats.now (Own s) _ c.in_err-check_opening.ensures)

pub returns-then-word_at-eq0 : goal.returns-then-word_at-eq0
unfolding own_build_checks
returns-then-word_at-eq0 c =
    let s = (goal.at.returns-then-word_at-eq0 c).Start in
    turned_at 0 (Own s) tt (eq-eqb _ _ (omega (arith, c.word_at.ensures))) ∙ own s c.in_ok-check_opening.ensures

pub returns : goal.returns
unfolding own_build_checks
returns c =
    let s = (goal.at.returns c).Start in
    none_turned (Own s) (ne_eqb _ _ (λ e. omega (arith, c.word_at.ensures, e)), tt) ∙ own s c.in_ok-check_opening.ensures
