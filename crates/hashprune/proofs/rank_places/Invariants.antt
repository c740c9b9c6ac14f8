-- The invariant: the pairs of the first i cells are put. Assumes nothing.
use mathlib.Core.Path.{◌≡◌}
use Rattle.hashprune.specs.declared.Cell.{Cell}
use Rattle.hashprune.specs.Inside.Steps.{place_in, ranked_place}
use Rattle.hashprune.proofs.Lists.{written}
use Rattle.hashprune.proofs.rank_places.Given as goal

abbrev pub invariant-loop-i : goal.invariant-loop-i
invariant-loop-i l = l.pairs ≡ written (λ (cell : Cell). ranked_place l.initial.candidates (place_in cell)) l.initial.cells l.initial.pairs l.i
