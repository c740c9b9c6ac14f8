-- Finite sums, and a finite rest, are of finite components.
use mathlib.Core.Path.{◌≡◌}
use Rattle.std.specs.Slice.Iter.{chunks_exact_rest, chunks_exact_size}
use Rattle.params.proofs.finite.Sums.{Gathered}
use Rattle.params.proofs.finite.sums_finite.Given as goal

abbrev pub invariant-loop-chunk : goal.invariant-loop-chunk
invariant-loop-chunk l = (chunks_exact_size l.chunk-iterator ≡ 32) × Gathered l.v l.sums (chunks_exact_rest l.chunk-iterator)
