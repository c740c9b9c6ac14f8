-- The place that wins is stored, and where none does its own stays. Assumes nothing.
use mathlib.Core.Path.{sym, ap, ◌∙◌}
use Prim.Native.Nat.{ℕ}
use lib.ListN.{set, get_or}
use lib.Seq.{set-get_or}
use Rattle.basics.specs.Choice.{pick_true, pick_false}
use Rattle.hashprune.specs.declared.Cell.{Cell}
use Rattle.hashprune.specs.Inside.Steps.{no_cell}
use Rattle.hashprune.proofs.contest.Goals as goal

pub returns-then-candidates-place : goal.returns-then-candidates-place
returns-then-candidates-place c =
    let a = c.args in
    let cell : Cell = get_or a.cells.now a.at no_cell in
    ap (λ (p : ℕ). set a.cells.now a.at (record { hash = cell.hash; place = p })) (sym (pick_true a.place cell.place c.if-candidates-place.true))

pub returns-else-candidates-place : goal.returns-else-candidates-place
returns-else-candidates-place c =
    let a = c.args in
    let cell : Cell = get_or a.cells.now a.at no_cell in
    sym
    (ap (λ (p : ℕ). set a.cells.now a.at (record { hash = cell.hash; place = p })) (pick_false a.place cell.place c.if-candidates-place.false)
    ∙ set-get_or a.cells.now a.at no_cell)
