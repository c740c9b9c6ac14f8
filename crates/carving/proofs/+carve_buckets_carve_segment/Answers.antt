-- A bucket lies within both slices, so its part is a segment one level down; what it becomes is one bucket more that is done (`partly_more`). A segment
-- that is no leaf is dealt over its own place, and its buckets are carved (`dealt_down`). Assumes nothing.
use mathlib.Core.Path.{◌≡◌, refl, sym, ap, ◌∙◌, subst}
use mathlib.Core.List.{List}
use Prim.Native.Nat.{ℕ, ◌-◌}
use native.Mathlib.Omega.{arith}
use lib.ListN.{length, take}
use lib.Seq.{take_all}
use borrow.Rule.Slice.PartMut.{same_len_mid}
use Rattle.def_graph.specs.Partition.{fanout}
use Rattle.dealing.specs.Inside.Deal.{Holding}
use Rattle.carving.specs.declared.Carve.{Carve}
use Rattle.carving.specs.Inside.Steps.{below, dealt_in, segment_size, Carvable, CarvesBuckets}
use Rattle.carving.proofs.Carving.{fan_one, fan_some, size_down, dealing, leaf_small, leaf_deep, leaf_stays, dealt_down, partly_none, partly_same, partly_more, partly_done}
use Rattle.carving.proofs.+carve_buckets_carve_segment.Goals as goal

-- ---- the loop over buckets

pub carve_buckets-loop-at-init : goal.carve_buckets-loop-at-init
carve_buckets-loop-at-init t c =
    let x = c.args in
    (omega arith, omega arith, refl, refl, λ bs held. partly_none x.carve bs x.nodes.now x.marks.now c.requires.marked held)

pub carve_buckets-loop-at-preserved : goal.carve_buckets-loop-at-preserved
carve_buckets-loop-at-preserved t c =
    let x = c.args in
    let l = c.loop-at in
    let i = l.invariant in
    let even : length l.marks ≡ length l.nodes = i.3 ∙ c.requires.marked ∙ sym i.2 in
    (omega arith, i.1, i.2, i.3, λ bs held. partly_same x.carve bs l.nodes l.marks even l.at l.end i.1 (i.4 bs held) c.loop-at-test.true c.if-marks-at-ne0.false)

pub carve_buckets-loop-at-preserved-then-marks-at-ne0 : goal.carve_buckets-loop-at-preserved-then-marks-at-ne0
carve_buckets-loop-at-preserved-then-marks-at-ne0 t c =
    let x = c.args in
    let l = c.loop-at in
    let i = l.invariant in
    let at = l.at - 1 in
    let even : length l.marks ≡ length l.nodes = i.3 ∙ c.requires.marked ∙ sym i.2 in
    let carved = c.carve_segment in
    let nodes-same = same_len_mid at (l.end - at) l.nodes carved.new.nodes carved.auto.nodes in
    let marks-same = same_len_mid at (l.end - at) l.marks carved.new.marks carved.auto.marks in (
      omega arith,
      omega (arith, nodes-same, i.0, i.1),
      nodes-same ∙ i.2,
      marks-same ∙ i.3,
      λ bs held. partly_more x.carve bs l.nodes l.marks even l.at l.end i.1 (i.4 bs held) at refl c.loop-at-test.true i.0 c.if-marks-at-ne0.true
          carved.new.nodes carved.new.marks carved.ensures,
    )

pub carve_buckets-returns : goal.carve_buckets-returns
carve_buckets-returns t c bs held =
    let l = c.loop-at in
    let i = l.invariant in
    let even : length l.marks ≡ length l.nodes = i.3 ∙ c.requires.marked ∙ sym i.2 in
    partly_done c.args.carve bs l.nodes l.marks even l.at l.end i.1 (i.4 bs held) (omega arith)

-- ---- one segment

pub carve_segment-returns-then-fan_of-eq0 : goal.carve_segment-returns-then-fan_of-eq0
carve_segment-returns-then-fan_of-eq0 t c =
    let x = c.args in
    leaf_stays x.carve x.nodes.now x.marks.now (leaf_deep x.carve x.nodes.now (sym c.fan_of.ensures ∙ c.if-fan_of-eq0.true))

pub carve_segment-returns-then-nodes-carve : goal.carve_segment-returns-then-nodes-carve
carve_segment-returns-then-nodes-carve t c =
    let x = c.args in
    leaf_stays x.carve x.nodes.now x.marks.now (leaf_small x.carve x.nodes.now c.if-nodes-carve.true)

pub carve_segment-deal_over-requires : goal.carve_segment-deal_over-requires
carve_segment-deal_over-requires t c =
    let x = c.args in
    let nodes = x.nodes.now in
    let seg = c.requires in
    let deals : fanout x.carve.level ≡ 0 → ⊥ = λ z. c.if-fan_of-eq0.false (c.fan_of.ensures ∙ z) in
    let one = fan_one x.carve.level seg.below_top (fan_some x.carve.level deals) in
    dealing x.carve nodes x.marks.now 1 (length nodes) one (size_down x.carve nodes one) (omega arith) (omega (arith, seg.some, c.if-nodes-carve.false)) (omega arith)
    seg.few seg.marked

pub carve_segment-below-requires : goal.carve_segment-below-requires
carve_segment-below-requires t c =
    let deep = fan_some c.args.carve.level (λ z. c.if-fan_of-eq0.false (c.fan_of.ensures ∙ z)) in
    omega arith

pub carve_segment-carve_buckets-requires : goal.carve_segment-carve_buckets-requires
carve_segment-carve_buckets-requires t c =
    let seg = c.requires in
    let kept = c.deal_over.auto in
    let deep = fan_some c.args.carve.level (λ z. c.if-fan_of-eq0.false (c.fan_of.ensures ∙ z)) in
    let down = ap (λ (k : Carve). k.level) c.below.ensures in (
      omega (arith, c.decreases, down),
      subst (λ (k : Carve). Carvable k c.deal_over.new.nodes c.deal_over.new.marks) (sym c.below.ensures)
          (record {
            some = seg.some;
            below_top = omega arith;
            levels = omega arith;
            few = omega (arith, kept.nodes, seg.few);
            marked = kept.marks ∙ seg.marked ∙ sym kept.nodes;
          }),
    )

pub carve_segment-returns : goal.carve_segment-returns
carve_segment-returns t c m =
    let x = c.args in
    let nodes = x.nodes.now in
    let deals : fanout x.carve.level ≡ 0 → ⊥ = λ z. c.if-fan_of-eq0.false (c.fan_of.ensures ∙ z) in
    let one = fan_one x.carve.level c.requires.below_top (fan_some x.carve.level deals) in
    let all : take (segment_size x.carve nodes) nodes ≡ nodes = take_all _ nodes (omega (arith, size_down x.carve nodes one)) in
    let under : CarvesBuckets (below x.carve) c.deal_over.new.nodes c.deal_over.new.marks c.carve_buckets.new.nodes c.carve_buckets.new.marks
    = subst (λ (k : Carve). CarvesBuckets k c.deal_over.new.nodes c.deal_over.new.marks c.carve_buckets.new.nodes c.carve_buckets.new.marks) c.below.ensures c.carve_buckets.ensures in
    let down = dealt_down x.carve nodes c.if-nodes-carve.false deals in
    rw down (under (dealt_in x.carve nodes) (subst (λ (l : List ℕ). Holding (dealt_in x.carve l) c.deal_over.new.nodes c.deal_over.new.marks) all c.deal_over.ensures))
