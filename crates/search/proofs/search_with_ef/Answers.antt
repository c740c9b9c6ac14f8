-- A refusal has written nothing; accepted, it is the reply. Assumes nothing.
use mathlib.Core.Path.{sym, ◌∙◌}
use lib.Ieee.{of_bits}
use Rattle.std.proofs.lemmas.Result.{err_from_is_err_and}
use Rattle.error.proofs.Laws.{never_zero}
use Rattle.search.proofs.Replies.{turned_back_lem, accepted, checked}
use Rattle.search.proofs.search_with_ef.Goals as goal

pub returns-in_err-check_search : goal.returns-in_err-check_search
returns-in_err-check_search c =
    let a = c.args in
    let p = err_from_is_err_and c.from_residual.result c.from_residual.ensures.1 in
    rw (p.1, p.2) (turned_back_lem _ _ a.words.now a.floats.now a.query.now a.k a.ef a.docs.now a.distances.now _ c.in_err-check_search.ensures (never_zero _))

pub returns : goal.returns
unfolding of_bits
returns c =
    let a = c.args in
    let none = sym c.in_ok-check_search.ensures in
    c.find.ensures (checked _ _ a.words.now a.floats.now a.query.now a.k a.ef a.docs.now a.distances.now none)
    ∙ accepted _ _ a.words.now a.floats.now a.query.now a.k a.ef a.docs.now a.distances.now none
