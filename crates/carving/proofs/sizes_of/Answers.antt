-- One size more. Assumes nothing.
use mathlib.Core.Path.{ap, ◌∙◌}
use Rattle.std.proofs.Common.{rules}
use lib.ListN.{length, length-append}
use Rattle.std.proofs.lemmas.List.Sorted.{answers_always}
use Rattle.carving.proofs.Leaves.{goes_on, listed_none, listed_more, listed_done}
use native.Mathlib.Omega.{arith}
use Rattle.carving.proofs.sizes_of.Goals as goal

pub loop-bucket-init : goal.loop-bucket-init
loop-bucket-init c =
    let x = c.args in
    let all = ap (λ s. s.rest.now) c.into_iter-bucket-iterator.ensures.into_iter_gives ∙ c.chunk_by-bucket-items.ensures.rest in
    (omega (arith, ap length all), λ leaves e. listed_none leaves _ x.sizes.now (all ∙ e))

pub loop-bucket-preserved : goal.loop-bucket-preserved
loop-bucket-preserved c =
    let l = c.loop-bucket in
    let next = c.in-Some.ensures.steps in
    let by = next.2 goes_on (answers_always _ _ _ (λ f a r g h. search rules)) in (
      omega (arith, l.invariant.0, next.1, ap length next.0, length-append c.in-Some.bucket.now c.next.new.self.rest.now),
      λ leaves e. listed_more leaves _ l.sizes l.count (l.invariant.1 leaves e) c.in-Some.bucket.now _ next.0 next.1 (omega (arith, l.invariant.0, next.1, ap length next.0, length-append c.in-Some.bucket.now c.next.new.self.rest.now, c.requires.1, l.auto.sizes)) by.1,
    )

pub returns : goal.returns
returns c =
    let l = c.loop-bucket in
    record {
      marked_sizes = (λ leaves e. listed_done leaves _ l.sizes l.count (l.invariant.1 leaves e) c.in-None.ensures.steps.0);
      upper_bound = omega (arith, c.requires.0, l.invariant.0);
    }
