-- `store::header_ok` meets its contract: the tests are the definition's, in its order. Assumes nothing.
use Rattle.store.specs.WellFormed.{header_ok}
use Rattle.store.proofs.header_ok.Goals as goal

pub returns : goal.returns
unfolding header_ok
returns c =
    rw (c.within_limits.ensures, c.params_of.ensures, c.dimension_within.ensures)
    (rw (c.capacity_within.ensures, c.word_at.ensures, c.word_at-2.ensures, c.word_at-3.ensures)
    (rw (c.word_at-capacity.ensures, c.word_at-bridges.ensures, c.word_at-entry.ensures)
    (rw (c.word_at-n.ensures, c.word_at-state.ensures))))
