-- The invariant: what stands from `from` on is what stays of the pairs from i on. Assumes nothing.
use Rattle.hashprune.proofs.Rows.{Deduped}
use Rattle.hashprune.proofs.dedup.Given as goal

abbrev pub invariant-loop-i : goal.invariant-loop-i
invariant-loop-i l = Deduped l.initial.pairs l.pairs l.i l.from
