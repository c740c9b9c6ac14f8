-- The four cases: a free slot, no slot at all, the worst leaves, it stays. Assumes nothing.
use Rattle.std.proofs.Common.{rules, refl, ap, ◌∙◌}
use lib.Ieee.{binary32, of_bits}
use Rattle.distance.specs.Order.{value_of}
use Rattle.beam_state.specs.Inside.Tournament.{first_of}
use Rattle.beam_state.proofs.queues.Keeping.{kept_free, kept_none, kept_new, kept_same}
use Rattle.beam_state.proofs.queues.keep_closest.Goals as goal

pub returns-then-held-places : goal.returns-then-held-places
unfolding of_bits
returns-then-held-places c =
    let a = c.args in
    kept_free a.tree.now (first_of a.tree.now) refl (search rules) (search rules) a.places a.held a.distance a.key
    c.hold.new.tree c.if-held-places.true c.hold.ensures

pub returns-in_default : goal.returns-in_default
unfolding of_bits
returns-in_default c =
    let a = c.args in
    kept_none a.tree.now (first_of a.tree.now) refl (search rules) (search rules) a.places a.held a.distance a.key c.if-held-places.false c.in_default.ensures

pub returns-then-distance-most : goal.returns-then-distance-most
returns-then-distance-most c =
    let a = c.args in
    let top = c.in-Some.ensures in
    let put = c.hold-then-distance-most in
    kept_new a.tree.now c.in-Some.worst top.0 (search rules) (search rules) a.places a.held a.distance a.key
    c.if-held-places.false top.1 c.value-most.result (c.value-most.ensures ∙ ap (value_of binary32) c.turned.ensures) put.new.tree c.worst_of-cutoff.result c.if-distance-most.true
    put.ensures c.worst_of-cutoff.ensures

pub returns : goal.returns
returns c =
    let a = c.args in
    let top = c.in-Some.ensures in
    kept_same a.tree.now c.in-Some.worst top.0 (search rules) (search rules) a.places a.held a.distance a.key
    c.if-held-places.false top.1 c.value-most.result (c.value-most.ensures ∙ ap (value_of binary32) c.turned.ensures) c.if-distance-most.false
