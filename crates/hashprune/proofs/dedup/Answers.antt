-- One pair less to look at. Assumes nothing.
use mathlib.Core.Path.{◌≡◌, sym, ap, ◌∙◌}
use mathlib.Core.List.{map}
use Prim.Native.Nat.{ℕ}
use lib.ListN.{drop}
use Rattle.sorting.specs.Inside.Pairs.{id_in}
use Rattle.def_graph.specs.Leaf.{dedup}
use Rattle.hashprune.proofs.Rows.{deduped_none, deduped_kept, deduped_same}
use native.Mathlib.Omega.{arith}
use Rattle.hashprune.proofs.dedup.Goals as goal

pub loop-i-init : goal.loop-i-init
loop-i-init c = deduped_none c.args.pairs.now

pub loop-i-preserved : goal.loop-i-preserved
loop-i-preserved c =
    let l = c.loop-i in
    deduped_same c.args.pairs.now l.pairs l.i l.from c.loop-i-test.true l.invariant (sym c.if-not-begins_with.ensures)

pub loop-i-preserved-then-not-begins_with : goal.loop-i-preserved-then-not-begins_with
loop-i-preserved-then-not-begins_with c =
    let l = c.loop-i in
    deduped_kept c.args.pairs.now l.pairs l.i l.from c.loop-i-test.true l.invariant (sym c.if-not-begins_with.ensures)

pub returns : goal.returns
returns c =
    let l = c.loop-i in
    let e : l.i ≡ 0 = omega arith in
    (l.invariant.within, l.invariant.stays ∙ ap (λ (k : ℕ). dedup (map id_in (drop k c.args.pairs.now))) e)
