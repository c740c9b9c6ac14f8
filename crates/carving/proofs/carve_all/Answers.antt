-- A first segment that is a leaf stands as it is, with one mark; any other is dealt twice over, and its buckets are carved from level 1 on. Assumes nothing.
use mathlib.Core.Path.{◌≡◌, sym, ap, ◌∙◌, subst}
use mathlib.Core.List.{List, flatten}
use Prim.Native.Nat.{ℕ, ◌*◌, ◌≤◌}
use lib.ListN.{length, take}
use lib.Seq.{length-take-le, take_at, take_all}
use Rattle.random.specs.Leaders.{up_to}
use Rattle.dealing.specs.Inside.Marks.{run, marks_of}
use Rattle.carving.specs.Inside.Steps.{below, dealt_in, segment_size, CarvesBuckets}
use Rattle.carving.specs.declared.Carve.{Carve}
use Rattle.carving.proofs.Carving.{fan_top, size_top, dealing, positions_front, top_leaf, top_dealt}
use native.Mathlib.Nat.{le_refl}
use native.Mathlib.Omega.{arith}
use Rattle.carving.proofs.carve_all.Goals as goal
use Rattle.carving.proofs.carve_all.Goals.{After-all_positions}

pub returns-then-n-p : goal.returns-then-n-p
returns-then-n-p c =
    let x = c.args in
    let all = c.all_positions in
    let marked = c.mark in
    let long : x.n ≤ length x.marks.now = omega (arith, c.requires.3) in
    record {
      within = omega (arith, c.requires.2, all.auto.left);
      leaves = λ many. top_leaf x.vectors x.p x.n many c.if-n-p.true _ _
          (positions_front x.n x.nodes.now all.new.left (omega (arith, c.requires.2)) all.ensures)
          (take_at marked.new.marks _ x.n (marked.auto.marks ∙ length-take-le x.n x.marks.now long) ∙ marked.ensures ∙ ap (run 1) (length-take-le x.n x.marks.now long));
    }

-- the positions, at the front of the nodes
positions : (c : After-all_positions) → take c.args.n c.all_positions.new.left ≡ up_to c.args.n
positions c = let x = c.args in positions_front x.n x.nodes.now c.all_positions.new.left (omega (arith, c.requires.2)) c.all_positions.ensures

pub deal_over-requires : goal.deal_over-requires
deal_over-requires c =
    let x = c.args in
    let twice : length c.all_positions.new.left ≡ 2 * x.n = c.all_positions.auto.left ∙ c.requires.2 in
    let top : Carve = record { vectors = x.vectors; p = x.p; level = 0 } in
    dealing top c.all_positions.new.left x.marks.now 2 x.n fan_top (size_top top c.all_positions.new.left x.n fan_top twice) (omega arith) (omega (arith, c.requires.1, c.if-n-p.false)) twice
    (omega (arith, c.requires.0, twice)) (c.requires.3 ∙ sym twice)

pub returns : goal.returns
returns c =
    let x = c.args in
    let top : Carve = record { vectors = x.vectors; p = x.p; level = 0 } in
    let all = c.all_positions.new.left in
    let dealt = c.deal_over in
    let carved = c.carve_buckets in
    let nodes : List ℕ = carved.new.nodes in
    let marks : List ℕ = carved.new.marks in
    let twice : length all ≡ 2 * x.n = c.all_positions.auto.left ∙ c.requires.2 in
    let part : take (segment_size top all) all ≡ up_to x.n
    = ap (λ (k : ℕ). take k all) (size_top top all x.n fan_top twice) ∙ positions (goal.at.returns c).After-all_positions in
    let same : length marks ≡ length nodes =
    carved.auto.marks ∙ dealt.auto.marks ∙ c.requires.3 ∙ sym (carved.auto.nodes ∙ dealt.auto.nodes ∙ twice) in
    let all_nodes : take (length nodes) nodes ≡ nodes = take_all (length nodes) nodes (omega arith) in
    let all_marks : take (length nodes) marks ≡ marks = take_all (length nodes) marks (omega arith) in
    let under : CarvesBuckets (below top) dealt.new.nodes dealt.new.marks nodes marks
    = subst (λ (k : Carve). CarvesBuckets k dealt.new.nodes dealt.new.marks nodes marks) c.below.ensures carved.ensures in
    let held = under (dealt_in top (take (segment_size top all) all)) dealt.ensures in
    record {
      within = le_refl (length nodes);
      leaves = λ many.
          let down = top_dealt x.vectors x.p x.n many c.if-n-p.false _ part in
          (all_nodes ∙ held.0 ∙ sym (ap flatten down), all_marks ∙ held.1 ∙ sym (ap marks_of down));
    }
