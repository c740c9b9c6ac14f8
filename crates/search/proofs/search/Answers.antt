-- The store's ef_search is its word. Assumes nothing.
use mathlib.Core.Path.{ap, ◌∙◌}
use Prim.Native.Nat.{ℕ}
use lib.ListN.{length}
use Rattle.def_calls.specs.Search.{search_with_ef_spec, search_spec}
use Rattle.search.proofs.search.Goals as goal

pub returns : goal.returns
unfolding search_spec
returns c =
    let a = c.args in
    c.search_with_ef.ensures
    ∙ ap (λ (ef : ℕ). search_with_ef_spec (length a.scratch_words.now) (length a.scratch_floats.now) a.words.now a.floats.now a.query.now a.k ef a.docs.now a.distances.now) c.word_at-ef.ensures
