-- `store::check_opening` meets its contract: at each place the checks before it have passed. Assumes nothing.
use mathlib.Core.Path.{◌≡◌, sym, ap, ◌∙◌}
use mathlib.Core.Bool.{false, not}
use borrow.Author.Tests.{lt-ltb, le-ltb, ltb-false}
use Rattle.basics.proofs.Refusals.{turned_at, none_turned}
use Rattle.basics.proofs.Tests.{both_false}
use Rattle.store.specs.Opening.{too_short, opening}
use Rattle.store.proofs.check_opening.Goals as goal

pub returns-then-words-lt-HEADER_SIZE : goal.returns-then-words-lt-HEADER_SIZE
unfolding opening
returns-then-words-lt-HEADER_SIZE c =
    let a = c.args in
    turned_at 0 (opening a.lent a.words.now a.floats.now) tt (lt-ltb _ _ c.if-words-lt-HEADER_SIZE.true)

pub returns-then-not-header_ok : goal.returns-then-not-header_ok
unfolding opening
returns-then-not-header_ok c =
    let a = c.args in
    turned_at 1 (opening a.lent a.words.now a.floats.now) (le-ltb _ _ c.if-words-lt-HEADER_SIZE.false, tt) (ap not (sym c.header_ok.ensures ∙ c.if-not-header_ok.true))

pub returns-then-too_short : goal.returns-then-too_short
unfolding opening
returns-then-too_short c =
    let a = c.args in
    turned_at 2 (opening a.lent a.words.now a.floats.now)
    (le-ltb _ _ c.if-words-lt-HEADER_SIZE.false, (ap not (sym c.header_ok.ensures ∙ c.if-not-header_ok.false), tt))
    (sym c.too_short.ensures ∙ c.if-too_short.true)

pub returns-then-not-rest_ok : goal.returns-then-not-rest_ok
unfolding opening
returns-then-not-rest_ok c =
    let a = c.args in
    turned_at 3 (opening a.lent a.words.now a.floats.now) (
      le-ltb _ _ c.if-words-lt-HEADER_SIZE.false,
      (ap not (sym c.header_ok.ensures ∙ c.if-not-header_ok.false), (sym c.too_short.ensures ∙ c.if-too_short.false, tt)),
    )
    (ap not (sym c.rest_ok.ensures ∙ c.if-not-rest_ok.true))

pub returns : goal.returns
unfolding opening
returns c =
    let a = c.args in
    none_turned (opening a.lent a.words.now a.floats.now) (
      le-ltb _ _ c.if-words-lt-HEADER_SIZE.false,
      (
        ap not (sym c.header_ok.ensures ∙ c.if-not-header_ok.false),
        (sym c.too_short.ensures ∙ c.if-too_short.false, (ap not (sym c.rest_ok.ensures ∙ c.if-not-rest_ok.false), tt)),
      ),
    )

pub rest_ok-requires : goal.rest_ok-requires
rest_ok-requires c =
    let long : too_short c.args.lent c.args.words.now c.args.floats.now ≡ false = sym c.too_short.ensures ∙ c.if-too_short.false in
    let sizes = both_false _ _ (both_false _ _ long).0 in
    record {
      degree_at_in_bounds = ltb-false _ _ sizes.0;
      dimension_at_in_bounds = ltb-false _ _ sizes.1;
    }
