-- The distances before this one are written. Assumes nothing.
use Rattle.std.proofs.Common.{◌≡◌, ◌≤◌, length, false, get_or}
use lib.Ieee.{inf}
use Rattle.sorting.specs.declared.Keyed.{Keyed}
use Rattle.basics.proofs.Loops.{images}
use Rattle.beam_search.proofs.put_distances.Given as goal

abbrev pub invariant-loop-i : goal.invariant-loop-i
invariant-loop-i l =
    (length l.distances ≡ length l.fn.distances)
    × (l.fn.count ≤ length l.fn.answer → l.fn.count ≤ length l.fn.distances
    → l.distances ≡ images (λ (p : Keyed). get_or l.floats p.id (inf false)) l.answer l.fn.distances l.i)
