-- Each return is one of the four answers of proofs/Answers, by what the search has left. Assumes nothing.
use mathlib.Core.Path.{refl, sym, ◌∙◌}
use Rattle.std.proofs.lemmas.Result.{err_from_is_err_and}
use Rattle.error.proofs.Laws.{never_zero}
use Rattle.recognise.specs.Recognised.{answer_values}
use Rattle.recognise.proofs.Answers.{search_refused, limit_refused, found_none, found_one}
use Rattle.recognise.proofs.recognise.Goals as goal

pub returns-in_err-found : goal.returns-in_err-found
unfolding answer_values
returns-in_err-found c =
    let a = c.args in
    let p = err_from_is_err_and c.from_residual.result c.from_residual.ensures.1 in
    rw (p.1, p.2) (search_refused _ _ a.words.now a.floats.now a.query.now a.ef a.limit _ _ refl refl _ c.in_err-found.ensures (never_zero _))

pub returns-then-not-is_finite : goal.returns-then-not-is_finite
unfolding answer_values
returns-then-not-is_finite c =
    let a = c.args in
    limit_refused _ _ a.words.now a.floats.now a.query.now a.ef a.limit _ _ refl refl _ c.in_ok-found.ensures refl (sym c.is_finite.ensures ∙ c.if-not-is_finite.true)

pub returns-then-found-eq0 : goal.returns-then-found-eq0
unfolding answer_values
returns-then-found-eq0 c =
    let a = c.args in
    found_none _ _ a.words.now a.floats.now a.query.now a.ef a.limit _ _ refl refl _ c.in_ok-found.ensures refl (sym c.is_finite.ensures ∙ c.if-not-is_finite.false) c.if-found-eq0.true

pub returns : goal.returns
unfolding answer_values
returns c =
    let a = c.args in
    c.decide.ensures
    ∙ found_one _ _ a.words.now a.floats.now a.query.now a.ef a.limit _ _ refl refl _ c.in_ok-found.ensures refl (sym c.is_finite.ensures ∙ c.if-not-is_finite.false) c.if-found-eq0.false
