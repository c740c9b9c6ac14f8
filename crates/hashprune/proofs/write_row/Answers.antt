-- One id more. Assumes nothing.
use mathlib.Core.Path.{◌≡◌, sym, ap, ◌∙◌}
use mathlib.Core.List.{List}
use Prim.Native.Nat.{ℕ, ◌-◌}
use lib.ListN.{length, take, set, length-take}
use lib.Seq.{length-take-le}
use Rattle.hashprune.proofs.Rows.{written_count, written_next, written_done}
use native.Mathlib.Omega.{arith}
use Rattle.hashprune.proofs.write_row.Goals as goal

pub loop-i-init : goal.loop-i-init
loop-i-init c =
    let row : List ℕ = c.args.row.now in
    let ps = take c.min-count.result c.args.pairs.now in
    let many : c.min-count.result ≡ length ps = sym (length-take-le c.min-count.result c.args.pairs.now (omega (arith, c.min-count.ensures))) in
    ap (λ (r : List ℕ). set r 0 c.min-count.result) (c.fill.ensures.after (λ y e. e)) ∙ written_count row ps c.min-count.result c.requires.0 many

pub loop-i-preserved : goal.loop-i-preserved
loop-i-preserved c =
    let l = c.loop-i in
    let ps = take c.min-count.result c.args.pairs.now in
    written_next (length c.args.row.now - 1) ps l.i l.row c.loop-i-test.true (omega (arith, c.min-count.ensures, length-take c.min-count.result c.args.pairs.now)) l.invariant

pub returns : goal.returns
returns c =
    let l = c.loop-i in
    let ps = take c.min-count.result c.args.pairs.now in
    written_done (length c.args.row.now - 1) ps c.args.pairs.now l.i l.row (ap (λ (k : ℕ). take k c.args.pairs.now) c.min-count.ensures) (omega arith) l.invariant
