-- The loop's steps are those of `Taken`. Assumes nothing.
use mathlib.Core.Logic.{inl, inr}
use Rattle.dealing.proofs.Buckets.{taken_room, taken_more, taken_same, taken_done}
use native.Mathlib.Omega.{arith}
use Rattle.dealing.proofs.Carded.bucket_of.Goals as goal

pub bounds-to-count : goal.bounds-to-count
bounds-to-count c =
    let next = c.in-Some.ensures.steps in
    taken_room c.loop-id.invariant next.0 next.1 c.loop-id.auto.to c.requires.1 c.if-is_named.ensures

pub loop-id-preserved-then-is_named : goal.loop-id-preserved-then-is_named
loop-id-preserved-then-is_named c =
    let next = c.in-Some.ensures.steps in
    let a = c.loop-id.invariant in
    taken_more a next.0 next.1 (taken_room a next.0 next.1 c.loop-id.auto.to c.requires.1 c.if-is_named.ensures) c.if-is_named.ensures

pub loop-id-preserved : goal.loop-id-preserved
loop-id-preserved c =
    let next = c.in-Some.ensures.steps in
    taken_same c.loop-id.invariant next.0 next.1 c.if-is_named.ensures

pub returns : goal.returns
returns c =
    let a = c.loop-id.invariant in
    taken_done a (elim c.in-None.ensures.steps [ inl (x, (e, f)) ↦ e | inr (x, (e, f)) ↦ omega (arith, e, a.same) ])
