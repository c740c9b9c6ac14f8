-- The bridges before this one are linked, and those from it on are left. Assumes nothing.
use Rattle.std.proofs.Common.{◌≡◌, ◌*◌, drop}
use Rattle.std.specs.Iterator.Adapters.{enumerate_source, enumerate_count}
use Rattle.std.specs.Slice.Iter.{chunks_exact_rest, chunks_exact_size}
use Rattle.beam_search.proofs.Linking.{Chaining}
use Rattle.beam_search.proofs.link_bridges.Given as goal

abbrev pub invariant-loop-j : goal.invariant-loop-j
invariant-loop-j l =
    let j = enumerate_count l.j-iterator in
    (chunks_exact_size (enumerate_source l.j-iterator) ≡ 2)
    × (chunks_exact_rest (enumerate_source l.j-iterator) ≡ drop (2 * j) l.bridges)
    × Chaining l.n l.bridges l.initial.links j l.links
