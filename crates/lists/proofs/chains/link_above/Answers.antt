-- A word that is not above the link before it is none; another is not 0, so it is a link where it has a place. Assumes nothing.
use Rattle.std.proofs.Common.{sym, ap, ◌∙◌, arith, length}
use mathlib.Core.Bool.{Bool, ◌&&◌}
use lib.Dec.{leb}
use borrow.Author.Tests.{lt-ltb, le-ltb}
use Rattle.basics.specs.Choice.{pick}
use Rattle.lists.specs.Inside.Chains.{as_link}
use Rattle.lists.proofs.chains.Reading.{some_link, no_link}
use Rattle.lists.proofs.chains.link_above.Goals as goal

pub returns-then-word-before : goal.returns-then-word-before
returns-then-word-before c =
    let a = c.args in
    no_link a.word
    ∙ sym (ap (λ (t : Bool). as_link (pick (t && leb a.word (length a.nexts.now)) a.word 0)) (le-ltb a.before a.word c.if-word-before.true))

pub returns : goal.returns
returns c =
    let a = c.args in
    let above = lt-ltb a.before a.word (omega (arith, c.if-word-before.false)) in
    c.then_some.ensures
    ∙ some_link (leb a.word (length a.nexts.now)) a.word (λ _. omega (arith, c.if-word-before.false))
    ∙ sym (ap (λ (t : Bool). as_link (pick (t && leb a.word (length a.nexts.now)) a.word 0)) above)
