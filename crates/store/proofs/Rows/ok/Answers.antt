-- Where one pass over all words says yes, each row is well formed (`rows_flat`). Assumes nothing.
use Rattle.std.proofs.Common.{◌≡◌, ℕ, ◌*◌, true, take, sym, ap, ◌∙◌}
use lib.Seq.{take-length}
use Rattle.basics.specs.Lists.{every}
use Rattle.basics.proofs.Tests.{both_true}
use Rattle.store.specs.Layout.{row_size}
use Rattle.store.specs.WellFormed.{is_node}
use Rattle.store.proofs.Flat.{rows_flat}
use Rattle.store.proofs.Rows.ok.Goals as goal

pub returns-then-counts_ok-nodes_by_fours : goal.returns-then-counts_ok-nodes_by_fours
returns-then-counts_ok-nodes_by_fours c =
    let a = c.args.self in
    let rows = a.words.now in
    let t = both_true _ _ c.if-counts_ok-nodes_by_fours.true in
    let all : every (is_node a.n) (take (a.n * row_size a.degree) rows) ≡ true =
    ap (λ (k : ℕ). every (is_node a.n) (take k rows)) (sym a.whole) ∙ rw (take-length rows) (c.nodes_by_fours.ensures t.1) in
    sym (rows_flat a.degree a.n (row_size a.degree) a.n rows (sym c.counts_ok.ensures ∙ t.0) all)
