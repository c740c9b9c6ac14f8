-- One position more becomes its node. Assumes nothing.
use mathlib.Core.Path.{ap, ap₂, ◌∙◌}
use mathlib.Core.List.{List}
use Prim.Native.Nat.{ℕ}
use lib.ListN.{get_or, set}
use Rattle.basics.proofs.Loops.{part_get, part_set, part_end}
use native.Mathlib.Omega.{arith}
use Rattle.dealing.proofs.nodes_at.Goals as goal

pub loop-position-preserved : goal.loop-position-preserved
loop-position-preserved c =
    let l = c.loop-position in
    let x = c.args in
    let g : ℕ → ℕ = λ (p : ℕ). get_or x.ids.now p 0 in
    let i : ℕ = l.position-index in
    ap₂ (λ (r : List ℕ) (v : ℕ). set r i v) l.invariant
    (c.word_at.ensures ∙ ap (λ (r : List ℕ). g (get_or r i 0)) l.invariant ∙ ap g (part_get g x.positions.now 0 i (omega arith)))
    ∙ part_set g x.positions.now 0 i (omega arith)

pub returns : goal.returns
returns c =
    let l = c.loop-position in
    l.invariant ∙ part_end (λ (p : ℕ). get_or c.args.ids.now p 0) c.args.positions.now l.position-index (omega arith)
