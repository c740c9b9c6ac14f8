-- What is gathered so far, and the rows left, make the whole test. Assumes nothing.
use Rattle.std.proofs.Common.{◌≡◌}
use Rattle.basics.specs.Lists.{every, pieces}
use Rattle.basics.proofs.Every.{Gathered}
use Rattle.store.specs.Layout.{row_size}
use Rattle.store.specs.WellFormed.{count_ok}
use Rattle.store.proofs.Rows.counts_ok.Given as goal

abbrev pub invariant-loop-row : goal.invariant-loop-row
invariant-loop-row l =
    (l.row-iterator.size ≡ row_size l.self.degree)
    × Gathered (count_ok l.self.degree) (row_size l.self.degree) (every (count_ok l.self.degree) (pieces (row_size l.self.degree) l.self.n l.self.words.now)) l.ok l.row-iterator.rest.now
