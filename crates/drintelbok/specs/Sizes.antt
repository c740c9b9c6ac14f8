-- The sizes that a caller has to provide (scope, Records), as C asks for them: 0 where `new` would refuse the numbers.
use Rattle.std.specs.Prelude.{◌&&◌, ℕ, leb}
use Rattle.basics.specs.Choice.{pick}
use Rattle.params.specs.Limits.{most_degree, dimension_within, capacity_within}
use Rattle.store.specs.Layout.{words_size, floats_size, scratch_words, scratch_floats}

unfoldable pub words_needed : (capacity degree : ℕ) → ℕ
unfolding pick
words_needed capacity degree = pick (capacity_within capacity && leb degree most_degree) (words_size capacity degree) 0

unfoldable pub floats_needed : (capacity dimension : ℕ) → ℕ
unfolding pick
floats_needed capacity dimension = pick (capacity_within capacity && dimension_within dimension) (floats_size capacity dimension) 0

unfoldable pub scratch_words_needed : (capacity : ℕ) → ℕ
unfolding pick
scratch_words_needed capacity = pick (capacity_within capacity) (scratch_words capacity) 0

unfoldable pub scratch_floats_needed : (capacity : ℕ) → ℕ
unfolding pick
scratch_floats_needed capacity = pick (capacity_within capacity) (scratch_floats capacity) 0
