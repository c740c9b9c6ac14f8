-- The two tests split the values into four kinds: above zero and finite, infinite, below zero, and zeros with the NaN, which are their own roots.
-- Assumes nothing.
use native.Mathlib.Omega.{arith}
use mathlib.Core.Path.{◌≡◌, refl, sym, ap, subst, ◌∙◌}
use mathlib.Core.Bool.{Bool, not}
use Prim.Native.Nat.{ℕ, ◌%◌, ◌<◌, ◌^◌}
use borrow.Author.Tests.{le-ltb}
use lib.Dec.{T}
use lib.Ieee.{Float, nan, binary32, lt, fits, of_bits, nan_bits}
use lib.Ieee.Bits.{of_bits-to_bits, nan_bits_above}
use Rattle.norm.specs.Root.{root_of}
use Rattle.norm.proofs.root.Signs.{zero+, zero_is, real, negative, neither, infinite, bits_pos}
use Rattle.norm.proofs.root.sqrt.Goals as goal
use Rattle.norm.proofs.root.sqrt.Goals.{Start}

held : (c : Start) → T (fits binary32 c.args.s)
held c = subst T (sym c.well_formed.0.1) tt

-- a test against the literal 0.0, with the literal as a value
over : (x : Float) {b : Bool} → lt (of_bits binary32 0) x ≡ b → lt zero+ x ≡ b
over x h = ap (λ (z : Float). lt z x) (sym zero_is) ∙ h

under : (x : Float) {b : Bool} → lt x (of_bits binary32 0) ≡ b → lt x zero+ ≡ b
under x h = ap (λ (z : Float). lt x z) (sym zero_is) ∙ h

no_nan : (n : ℕ) → n < 0x7f80_0000 → T (not (nan_bits binary32 n))
no_nan n h = subst (λ (b : Bool). T (not b)) (sym (nan_bits_above binary32 n ∙ le-ltb 0x7f80_0000 (n % 2 ^ 31) (omega arith))) tt

nan_is : of_bits binary32 0x7fc0_0000 ≡ nan
unfolding of_bits
nan_is = refl

pub returns-then-b-ge2139095040 : goal.returns-then-b-ge2139095040
returns-then-b-ge2139095040 c = infinite c.args.s (held (goal.at.returns-then-b-ge2139095040 c).Start) (over c.args.s c.if-s.true) c.if-b-ge2139095040.true

pub root_bits-requires : goal.root_bits-requires
root_bits-requires c = (bits_pos c.args.s (held (goal.at.root_bits-requires c).Start) (over c.args.s c.if-s.true), c.if-b-ge2139095040.false)

pub returns-then-s : goal.returns-then-s
returns-then-s c = c.root_bits.ensures.0 ∙ ap (root_of binary32) (of_bits-to_bits binary32 c.args.s (held (goal.at.returns-then-s c).Start))

pub returns : goal.returns
returns c = neither c.args.s (over c.args.s c.if-s.false) (under c.args.s c.if-s-2.false)

pub float_to_bits-b : goal.float_to_bits-b
float_to_bits-b c = real c.args.s (over c.args.s c.if-s.true)

pub float_from_bits-result : goal.float_from_bits-result
float_from_bits-result c = no_nan c.root_bits.result c.root_bits.ensures.1

pub returns-then-s-2 : goal.returns-then-s-2
returns-then-s-2 c = nan_is ∙ negative c.args.s (under c.args.s c.if-s-2.true)
