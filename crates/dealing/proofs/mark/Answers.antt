-- All zeroes, then the first mark if there is a first. Assumes nothing.
use mathlib.Core.Path.{ap, sym, ◌∙◌}
use mathlib.Core.List.{List}
use Prim.Native.Nat.{ℕ}
use lib.ListN.{length, set}
use Rattle.dealing.proofs.Marks.{run-set, run_none}
use native.Mathlib.Omega.{arith}
use borrow.Author.Tests.{ltb-true}
use Rattle.dealing.proofs.mark.Goals as goal

pub returns-in-Some : goal.returns-in-Some
returns-in-Some c =
    let some = ltb-true _ _ (sym c.in-Some.ensures.item.0) in
    ap (λ (r : List ℕ). set r 0 c.args.first) (c.fill.ensures.after (λ y e. e)) ∙ run-set c.args.first (length c.args.marks.now) (omega (arith, some, c.fill.ensures.len))

pub returns-in_default : goal.returns-in_default
returns-in_default c =
    c.fill.ensures.after (λ y e. e) ∙ run_none c.args.first (length c.args.marks.now) (omega (arith, c.in_default.ensures.item.3, c.fill.ensures.len))
