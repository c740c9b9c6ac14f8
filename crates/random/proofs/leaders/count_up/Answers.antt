-- The invariant: the first i positions stand at the front, what was there follows. The measure is what is left. Assumes nothing.
use Rattle.std.proofs.Common.{◌≡◌, ℕ, ◌+◌, ◌<◌, List, ◌++◌, length, drop, set, sym, refl, ap, ◌∙◌, append-nil, add-one, arith, length-set}
use lib.Seq.{drop-length}
use Rattle.basics.proofs.Loops.{front_set}
use Rattle.random.specs.Leaders.{up_to}
use Rattle.random.proofs.leaders.Draws.{length-up_to}
use Rattle.random.proofs.leaders.count_up.Goals as goal

written : (left₀ left : List ℕ) (i : ℕ) → left ≡ up_to i ++ drop i left₀ → i < length left₀ → set left i i ≡ up_to (i + 1) ++ drop (i + 1) left₀
unfolding up_to
written left₀ left i e h =
    ap (λ (l : List ℕ). set l i i) e
    ∙ front_set left₀ (up_to i) i i (length-up_to i) h
    ∙ ap (λ (k : ℕ). up_to k ++ drop (i + 1) left₀) (sym (add-one i))

pub loop-i-init : goal.loop-i-init
unfolding up_to
loop-i-init c = (omega arith, refl, refl)

pub loop-i-preserved : goal.loop-i-preserved
loop-i-preserved c =
    let l = c.loop-i in
    let left₀ = c.args.left.now in
    (omega arith, length-set l.left l.i l.i ∙ l.invariant.1, written left₀ l.left l.i l.invariant.2 (omega arith))

pub returns : goal.returns
returns c =
    let l = c.loop-i in
    let left₀ = c.args.left.now in
    let e : l.i ≡ length left₀ = omega arith in
    l.invariant.2 ∙ ap (λ (k : ℕ). up_to k ++ drop k left₀) e ∙ ap (λ (r : List ℕ). up_to (length left₀) ++ r) (drop-length left₀) ∙ append-nil (up_to (length left₀))

pub shape_of-left : goal.shape_of-left
shape_of-left c = c.loop-i.invariant.1
