-- The invariant is `Taken`: of the nodes so far those whose cards name the leader stand at the front. Assumes nothing.
use Rattle.dealing.proofs.Buckets.{Taken}
use Rattle.dealing.proofs.Carded.bucket_of.Given as goal

abbrev pub invariant-loop-id : goal.invariant-loop-id
invariant-loop-id l =
    Taken l.initial.l l.initial.self.ids.now l.initial.self.cards.now l.initial.to l.id-iterator.a.rest.now l.id-iterator.b.rest.now l.count l.to
