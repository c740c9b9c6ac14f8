-- The copy at the front of `ids` is the segment, which fits over the slice (`fitting`). Assumes nothing.
use mathlib.Core.Path.{◌≡◌, refl, ap, ◌∙◌, subst}
use mathlib.Core.List.{List, ◌++◌}
use Prim.Native.Nat.{ℕ, ◌/◌}
use lib.ListN.{length, take, drop}
use lib.Seq.{length-take-le, take_at}
use Rattle.dealing.specs.Inside.Deal.{Holding}
use Rattle.carving.specs.Inside.Steps.{dealt_in, segment_size}
use Rattle.carving.proofs.Carving.{fitting, segment_within}
use native.Mathlib.Omega.{arith}
use Rattle.carving.proofs.deal_over.Goals as goal

pub returns : goal.returns
returns c =
    let x = c.args in
    let nodes = x.nodes.now in
    let size : ℕ = segment_size x.carve nodes in
    let within = segment_within x.carve nodes x.marks.now c.requires in
    let copy = c.copy.new.to in
    let fan : length nodes / c.fan_of.result ≡ size = ap (λ (k : ℕ). length nodes / k) c.fan_of.ensures in
    let first = length-take-le size nodes within in
    let room = length-take-le size x.scratch.now.ids (omega (arith, within, c.requires.few)) in
    let same = c.copy.ensures.after (omega (arith, first, room, ap (λ (k : ℕ). length (take k nodes)) fan, ap (λ (k : ℕ). length (take k x.scratch.now.ids)) fan)) in
    let front : take (length nodes / c.fan_of.result) (copy ++ drop (length nodes / c.fan_of.result) x.scratch.now.ids) ≡ take size nodes
    = take_at copy _ _ (omega (arith, fan, within, ap length same, length-take-le size nodes within, ap (λ (k : ℕ). length (take k nodes)) fan)) ∙ same ∙ ap (λ (k : ℕ). take k nodes) fan in
    subst (λ (l : List ℕ). Holding (dealt_in x.carve l) c.deal.new.nodes c.deal.new.marks) front
    (c.deal.ensures.dealt (fitting x.carve _ nodes x.marks.now c.requires refl front (length x.scratch.now.room) _ (omega arith)
    (ap (λ (k : ℕ). length (take k x.scratch.now.cards)) fan ∙ length-take-le size x.scratch.now.cards (omega (arith, within, c.requires.few)))))
