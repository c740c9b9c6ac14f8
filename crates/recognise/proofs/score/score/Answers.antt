-- Above zero the pattern decides, and it is the pattern of the value; else the value is a NaN, or at most zero, where the score is whole.
-- Assumes nothing.
use mathlib.Core.Path.{◌≡◌, sym, ap, subst, ◌∙◌}
use mathlib.Core.Bool.{Bool}
use lib.Dec.{T}
use lib.Ieee.{Float, binary32, lt, fits, of_bits}
use lib.Ieee.Bits.{of_bits-to_bits}
use Rattle.norm.proofs.root.Signs.{zero+, zero_is, real, bits_pos}
use Rattle.recognise.specs.Score.{score_of}
use Rattle.recognise.proofs.score.Laws.{score_whole, score_nan}
use Rattle.recognise.proofs.score.Patterns.{far_pattern}
use Rattle.recognise.proofs.score.score.Goals as goal
use Rattle.recognise.proofs.score.score.Goals.{Start}

held : (c : Start) → T (fits binary32 c.args.d)
held c = subst T (sym c.well_formed.0.1) tt

above : (x : Float) {b : Bool} → lt (of_bits binary32 0) x ≡ b → lt zero+ x ≡ b
above x h = ap (λ (z : Float). lt z x) (sym zero_is) ∙ h

pub returns-then-b-ge1065353216 : goal.returns-then-b-ge1065353216
returns-then-b-ge1065353216 c =
    sym (far_pattern c.args.d (held (goal.at.returns-then-b-ge1065353216 c).Start) (above c.args.d c.if-d.true) c.if-b-ge1065353216.true)

pub score_bits-requires : goal.score_bits-requires
score_bits-requires c =
    (bits_pos c.args.d (held (goal.at.score_bits-requires c).Start) (above c.args.d c.if-d.true), c.if-b-ge1065353216.false)

pub returns-then-d : goal.returns-then-d
returns-then-d c =
    c.score_bits.ensures ∙ ap score_of (of_bits-to_bits binary32 c.args.d (held (goal.at.returns-then-d c).Start))

pub returns-then-is_nan : goal.returns-then-is_nan
returns-then-is_nan c = sym (score_nan c.args.d (sym c.if-is_nan.ensures.value))

pub returns : goal.returns
returns c =
    let d = c.args.d in
    sym (score_whole d (above d c.if-d.false) (sym c.if-is_nan.ensures.value))

pub float_to_bits-b : goal.float_to_bits-b
float_to_bits-b c = real c.args.d (above c.args.d c.if-d.true)
