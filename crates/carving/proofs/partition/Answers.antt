-- The words in front hold the leaves' nodes, those behind their sizes; both together are what is laid out (`laid`). Assumes nothing.
use mathlib.Core.Path.{◌≡◌, ◌∙◌}
use Prim.Native.Nat.{ℕ, ◌*◌}
use lib.ListN.{length, drop, replicate}
use lib.Seq.{length-take-le, take-append-le}
use Rattle.carving.proofs.Carving.{laid}
use native.Mathlib.Omega.{arith}
use Rattle.carving.proofs.partition.Goals as goal

pub returns : goal.returns
returns c =
    let x = c.args in
    let size : ℕ = 2 * x.n in
    let all = c.carve_all-total in
    let made = c.sizes_of in
    let nodes : length all.new.nodes ≡ size = omega arith in
    let marks : length all.new.marks ≡ size = all.auto.marks ∙ length-take-le size (replicate 2048 0) (omega arith) in
    let within = all.ensures.within in
    let front = take-append-le all.result all.new.marks (drop size (replicate 2048 0)) (omega arith) in
    record {
      made = λ many _.
          let held = all.ensures.leaves many in
          laid _ all.new.nodes made.new.sizes x.n all.result made.result nodes within held.0 (made.ensures.marked_sizes _ (front ∙ held.1));
      refused = λ f. absurd (f record { most = c.if-n-gt1024.false; some = omega (arith, c.if-p-eq0.false); room = omega arith });
    }
