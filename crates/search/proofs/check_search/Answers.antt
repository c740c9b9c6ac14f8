-- The checks that every call begins with, then at each place those before it have passed. Assumes nothing.
use mathlib.Core.Path.{◌≡◌, sym, ap, ◌∙◌}
use mathlib.Core.Bool.{Bool, not, ◌||◌}
use mathlib.Core.List.{List}
use Prim.Native.Nat.{ℕ}
use lib.Dec.{ltb}
use lib.ListN.{length, take}
use borrow.Author.Tests.{eq-eqb, ne_eqb}
use Rattle.std.proofs.lemmas.Result.{err_from_is_err_and}
use Rattle.basics.specs.Refusals.{Check, first_refusal}
use Rattle.basics.proofs.Refusals.{Pass, turned_at, none_turned}
use Rattle.store.specs.Opening.{scratch, opening}
use Rattle.store.proofs.Opened.{own_decide, first_decide}
use Rattle.def_calls.specs.Search.{own_search_checks, search_checks}
use Rattle.search.proofs.check_search.Goals as goal
use Rattle.search.proofs.check_search.Goals.{Else-k-ef, Else-not-all_finite, Else-query-word_at, Else-word_at-ne-BUILT, Start}

abbrev First : Start → List Check
First s = opening (scratch s.args.lent.words s.args.lent.floats) s.args.request.words.now s.args.request.floats.now

abbrev Own : Start → List Check
Own s = own_search_checks s.args.request.words.now s.args.request.query.now s.args.request.k s.args.ef s.args.docs.now s.args.distances.now

-- where the first checks pass, its own decide
own : (s : Start) → 0 ≡ first_refusal (First s) → first_refusal (Own s) ≡ first_refusal (search_checks s.args.request.words.now s.args.request.query.now s.args.request.k s.args.ef s.args.docs.now s.args.distances.now s.args.lent.words s.args.lent.floats s.args.request.floats.now)
unfolding search_checks
own s e = own_decide (scratch s.args.lent.words s.args.lent.floats) s.args.request.words.now s.args.request.floats.now (Own s) e

-- what has passed at each place
passed_1 : (c : Else-word_at-ne-BUILT) → Pass (take 1 (own_search_checks c.args.request.words.now c.args.request.query.now c.args.request.k c.args.ef c.args.docs.now c.args.distances.now))
unfolding own_search_checks
passed_1 c = (ap not (eq-eqb _ _ (sym c.word_at.ensures ∙ c.if-word_at-ne-BUILT.false)), tt)

passed_2 : (c : Else-query-word_at) → Pass (take 2 (own_search_checks c.args.request.words.now c.args.request.query.now c.args.request.k c.args.ef c.args.docs.now c.args.distances.now))
unfolding own_search_checks
passed_2 c = (ap not (eq-eqb _ _ (sym c.word_at.ensures ∙ c.if-word_at-ne-BUILT.false)), (ap not (eq-eqb _ _ (c.if-query-word_at.false ∙ c.word_at-2.ensures)), tt))

passed_3 : (c : Else-not-all_finite) → Pass (take 3 (own_search_checks c.args.request.words.now c.args.request.query.now c.args.request.k c.args.ef c.args.docs.now c.args.distances.now))
unfolding own_search_checks
passed_3 c = (ap not (eq-eqb _ _ (sym c.word_at.ensures ∙ c.if-word_at-ne-BUILT.false)), (ap not (eq-eqb _ _ (c.if-query-word_at.false ∙ c.word_at-2.ensures)), (ap not (sym c.all_finite.ensures ∙ c.if-not-all_finite.false), tt)))

passed_4 : (c : Else-k-ef) → Pass (take 4 (own_search_checks c.args.request.words.now c.args.request.query.now c.args.request.k c.args.ef c.args.docs.now c.args.distances.now))
unfolding own_search_checks
passed_4 c = (ap not (eq-eqb _ _ (sym c.word_at.ensures ∙ c.if-word_at-ne-BUILT.false)), (ap not (eq-eqb _ _ (c.if-query-word_at.false ∙ c.word_at-2.ensures)), (ap not (sym c.all_finite.ensures ∙ c.if-not-all_finite.false), (c.if-k-ef.false, tt))))

-- the outputs' room, by the number that was computed
rooms : (docs : List ℕ) (n : ℕ) (k k' : ℕ) (b : Bool) → k ≡ k' → (ltb (length docs) k || ltb n k) ≡ b → (ltb (length docs) k' || ltb n k') ≡ b
rooms docs n k k' b e h = ap (λ (m : ℕ). ltb (length docs) m || ltb n m) (sym e) ∙ h

pub returns-in_err-check_opening : goal.returns-in_err-check_opening
unfolding search_checks
returns-in_err-check_opening c =
    let p = err_from_is_err_and c.from_residual.result c.from_residual.ensures.1 in
    let s = (goal.at.returns-in_err-check_opening c).Start in
    rw (p.1, p.2) (first_decide (scratch s.args.lent.words s.args.lent.floats) s.args.request.words.now s.args.request.floats.now (Own s) _ c.in_err-check_opening.ensures)

pub returns-then-word_at-ne-BUILT : goal.returns-then-word_at-ne-BUILT
unfolding own_search_checks
returns-then-word_at-ne-BUILT c =
    turned_at 0 (Own (goal.at.returns-then-word_at-ne-BUILT c).Start) tt (ap not (ne_eqb _ _ (λ e. c.if-word_at-ne-BUILT.true (c.word_at.ensures ∙ e)))) ∙ own (goal.at.returns-then-word_at-ne-BUILT c).Start c.in_ok-check_opening.ensures

pub returns-then-query-word_at : goal.returns-then-query-word_at
unfolding own_search_checks
returns-then-query-word_at c =
    turned_at 1 (Own (goal.at.returns-then-query-word_at c).Start) (passed_1 (goal.at.returns-then-query-word_at c).Else-word_at-ne-BUILT)
    (ap not (ne_eqb _ _ (λ e. c.if-query-word_at.true (e ∙ sym c.word_at-2.ensures)))) ∙ own (goal.at.returns-then-query-word_at c).Start c.in_ok-check_opening.ensures

pub returns-then-not-all_finite : goal.returns-then-not-all_finite
unfolding own_search_checks
returns-then-not-all_finite c =
    turned_at 2 (Own (goal.at.returns-then-not-all_finite c).Start) (passed_2 (goal.at.returns-then-not-all_finite c).Else-query-word_at) (ap not (sym c.all_finite.ensures ∙ c.if-not-all_finite.true)) ∙ own (goal.at.returns-then-not-all_finite c).Start c.in_ok-check_opening.ensures

pub returns-then-k-ef : goal.returns-then-k-ef
unfolding own_search_checks
returns-then-k-ef c =
    turned_at 3 (Own (goal.at.returns-then-k-ef c).Start) (passed_3 (goal.at.returns-then-k-ef c).Else-not-all_finite) c.if-k-ef.true ∙ own (goal.at.returns-then-k-ef c).Start c.in_ok-check_opening.ensures

pub returns-then-docs-room : goal.returns-then-docs-room
unfolding own_search_checks
returns-then-docs-room c =
    let a = c.args in
    turned_at 4 (Own (goal.at.returns-then-docs-room c).Start) (passed_4 (goal.at.returns-then-docs-room c).Else-k-ef)
    (rooms a.docs.now (length a.distances.now) _ _ _ c.wanted-room.ensures c.if-docs-room.true) ∙ own (goal.at.returns-then-docs-room c).Start c.in_ok-check_opening.ensures

pub returns : goal.returns
unfolding own_search_checks
returns c =
    let a = c.args in
    let t = passed_4 (goal.at.returns c).Else-k-ef in
    let room = rooms a.docs.now (length a.distances.now) _ _ _ c.wanted-room.ensures c.if-docs-room.false in
    none_turned (Own (goal.at.returns c).Start) (t.0, (t.1.0, (t.1.1.0, (t.1.1.1.0, (room, tt))))) ∙ own (goal.at.returns c).Start c.in_ok-check_opening.ensures
