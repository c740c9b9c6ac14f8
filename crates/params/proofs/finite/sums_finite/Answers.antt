-- `finite::sums_finite` meets its contract: finite sums, and a finite rest, are of finite components. Assumes nothing.
use native.Mathlib.Omega.{arith}
use mathlib.Core.Path.{◌≡◌, refl, sym, ap, subst, ◌∙◌}
use mathlib.Core.Bool.{true}
use mathlib.Core.List.{List}
use lib.Ieee.{Float}
use Rattle.std.specs.Slice.Iter.{chunks_exact_rest, chunks_exact_size}
use Rattle.std.specs.declared.slice.ChunksExact.{ChunksExact}
use lib.Ieee.Scale.{finite}
use Rattle.basics.specs.Lists.{every}
use Rattle.basics.proofs.Tests.{both_true}
use Rattle.params.proofs.finite.Sums.{Gathered, gathered_none, gathered_more, gathered_all}
use Rattle.params.proofs.finite.sums_finite.Goals as goal

pub loop-chunk-init : goal.loop-chunk-init
loop-chunk-init c =
    let e = c.into_iter-chunk-iterator.ensures.into_iter_gives in (
      ap (λ (s : ChunksExact Float). chunks_exact_size s) e ∙ c.chunks_exact-chunks.ensures.size,
      subst (λ (xs : List Float). Gathered c.args.v.now _ xs) (sym (ap (λ (s : ChunksExact Float). chunks_exact_rest s) e ∙ c.chunks_exact-chunks.ensures.rest)) (gathered_none c.args.v.now _ refl),
    )

pub loop-chunk-preserved : goal.loop-chunk-preserved
loop-chunk-preserved c =
    let s = c.in-Some.ensures.steps in
    let l = c.loop-chunk in
    (s.0 ∙ l.invariant.0, gathered_more _ l.sums _ _ _ _ l.invariant.1 s.1.0 (s.1.1 ∙ l.invariant.0) c.add_to.array_long c.add_to.ensures)

pub returns : goal.returns
returns c =
    let s = c.in-None.ensures.steps in
    let l = c.loop-chunk in
    λ t.
    let both = both_true c.is_finite.result c.each_finite.result t in
    let rest = c.remainder-rest.ensures ∙ c.chunks_exact-chunks.ensures.remainder in
    gathered_all c.args.v.now l.sums _ l.invariant.1 (omega (arith, s.1.0, l.invariant.0)) (c.sum_of.ensures (sym c.is_finite.ensures ∙ both.0))
    (subst (λ (xs : List Float). every finite xs ≡ true) rest (sym c.each_finite.ensures ∙ both.1))
