-- The entry node is the definition's, the bridges stand at the front of their slice, and both are written (proofs/Repairing). Assumes nothing.
use mathlib.Core.Path.{◌≡◌, sym, ap, ap₂, subst, ◌∙◌}
use Prim.Native.Nat.{ℕ, ◌-◌, ◌*◌}
use lib.ListN.{take, drop}
use lib.Seq.{length-take-le}
use Rattle.lists.specs.Inside.Words.{Blocks}
use Rattle.store.specs.Layout.{rows_at, row_size}
use Rattle.def_calls.specs.Build.{laid}
use Rattle.build.proofs.Repairing.{entry_is, repaired}
use native.Mathlib.Omega.{arith}
use Rattle.build.proofs.repair.Goals as goal

pub returns : goal.returns
returns c =
    let a = c.args in
    let p = c.requires in
    let xs = a.stored.vectors.components.now in
    let medoid = c.compute_medoid-entry in
    let from = c.rows_at-from in
    let to = c.row_at-to in
    let repair = c.ensure_connectivity-built in
    let count = c.min-count in
    let header = c.put_header in
    let put = c.put_bridges in
    let C = a.stored.layout.capacity in
    let D = a.stored.layout.degree in
    let size : to.result - from.result ≡ a.stored.n * row_size D = omega (arith, from.ensures, to.ensures) in
    let part : take (to.result - from.result) (drop from.result a.words.now) ≡ take (a.stored.n * row_size D) (drop (rows_at C) a.words.now) =
    ap₂ (λ (k : ℕ) (j : ℕ). take k (drop j a.words.now)) size from.ensures in
    λ rows many below blocks.
    repaired a.stored.n C D a.stored.vectors.dimension a.words.now xs _ a.bridges.now _ a.scratch_words.now medoid.result.0 repair.result count.result _ _
    p.some p.most p.dimension_some p.vectors_are p.bridges_room p.words_room
    (entry_is a.stored.n a.stored.vectors.dimension _ xs medoid.result.0 p.dimension_some p.vectors_are (length-take-le _ _ p.floats_room) medoid.ensures)
    repair.ensures count.ensures header.ensures (put.ensures ∙ ap (λ (k : ℕ). laid k (take (2 * count.result) repair.new.bridges) header.new.words) c.bridges_at.ensures)
    rows many below (subst (Blocks D rows) (sym part) blocks)
