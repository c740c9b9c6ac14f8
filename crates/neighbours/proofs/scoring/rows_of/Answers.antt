-- One vector more. Assumes nothing.
use Rattle.std.proofs.Common.{ap, ◌∙◌, arith, length-set}
use native.Mathlib.Decide.{ℕ_discrete}
use lib.Seq.{get_or-set_same, get_or-set_other}
use lib.Ieee.{Float}
use mathlib.Core.List.{List}
use denote.Ref.{Bor}
use Rattle.simd.specs.Inside.Eight.{none}
use Rattle.neighbours.proofs.scoring.rows_of.Goals as goal

pub loop-k-preserved : goal.loop-k-preserved
loop-k-preserved c =
    let l = c.loop-k in (
      length-set l.rows _ _ ∙ l.invariant.0,
      λ j h. elim (ℕ_discrete j l.k) [
        | yes e ↦
            rw e (ap (λ (r : Bor (List Float)). r.now) (get_or-set_same l.rows l.k c.get.result none (omega (arith, c.requires.1, l.invariant.0))) ∙ c.get.ensures)
        | no ne ↦ ap (λ (r : Bor (List Float)). r.now) (get_or-set_other l.rows l.k j c.get.result none ne) ∙ l.invariant.1 j (omega arith)
      ],
    )

pub returns : goal.returns
returns c k h = c.loop-k.invariant.1 k (omega arith)
