-- The doc ids of the nodes before this one are written. Assumes nothing.
use Rattle.std.proofs.Common.{◌≡◌, ◌≤◌, length}
use Rattle.basics.proofs.Loops.{images}
use Rattle.finding.specs.Inside.Docs.{doc_of}
use Rattle.finding.proofs.put_docs.Given as goal

abbrev pub invariant-loop-i : goal.invariant-loop-i
invariant-loop-i l =
    (length l.docs ≡ length l.fn.docs)
    × (l.fn.count ≤ length l.fn.nodes → l.fn.count ≤ length l.fn.docs → l.docs ≡ images (doc_of l.words) l.nodes l.fn.docs l.i)
