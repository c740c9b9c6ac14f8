-- Cleared, filled with the leaves' lists, extended by reverse edges: the rows of the definition (proofs/Leaves). Assumes nothing.
use Rattle.build.proofs.Leaves.{carved_count, rows_made}
use native.Mathlib.Omega.{arith}
use Rattle.build.proofs.put_rows.Goals as goal

pub put_leaves-requires : goal.put_leaves-requires
put_leaves-requires c =
    let a = c.args in
    let carve = c.partition-count in
    record {
      most = c.requires.most;
      counted = carved_count a.stored.n a.stored.vectors a.p a.rows.now a.scratch_words.now _ carve.result _ c.requires carve.ensures;
      words_room = omega (arith, carve.auto.words, c.requires.words_room);
    }

pub returns : goal.returns
returns c =
    let a = c.args in
    let carve = c.partition-count in
    rows_made a.stored.n a.stored.vectors a.p a.rows.now a.scratch_words.now _ carve.result _ c.requires carve.ensures
    _ _ _ (c.fill.ensures.after (λ _ e. e)) c.put_leaves.ensures c.add_reverse_edges.ensures
