-- The one or two bytes of the blocks are the first 8 or 16 bits, and of these the low ones are the remainder. Assumes nothing.
use mathlib.Core.Path.{ap, ◌∙◌}
use Prim.Native.Nat.{ℕ, ◌%◌, ◌^◌, min}
use native.Mathlib.Omega.{arith}
use Rattle.simhash.specs.Inside.Blocks.{bit_in}
use Rattle.simhash.proofs.Bits.{bits_cut}
use Rattle.simhash.proofs.Bytes.{one_byte, low_byte, two_bytes}
use Rattle.simhash.proofs.simhash_residual.Goals as goal

pub returns-then-bits-le8 : goal.returns-then-bits-le8
returns-then-bits-le8 c =
    let a = c.args in
    let r = a.r.now in
    let l = a.blocks.now in
    c.low_bits.ensures
    ∙ ap (λ (h : ℕ). h % 2 ^ min a.bits 16) (c.hash_block-low.ensures ∙ low_byte r l)
    ∙ bits_cut (bit_in r l) (min a.bits 16) 8 (omega arith)

pub overflow_add-low : goal.overflow_add-low
overflow_add-low c =
    let h = one_byte _ _ c.hash_block.ensures in
    let l = one_byte _ _ c.hash_block-low.ensures in
    omega arith

pub returns : goal.returns
returns c =
    let a = c.args in
    let r = a.r.now in
    let l = a.blocks.now in
    c.low_bits-2.ensures
    ∙ ap (λ (h : ℕ). h % 2 ^ min a.bits 16)
    (two_bytes r l _ _ _ c.hash_block-low.ensures c.min-from.ensures c.hash_block.ensures)
    ∙ bits_cut (bit_in r l) (min a.bits 16) 16 (omega arith)

pub overflow_mul-hash_block : goal.overflow_mul-hash_block
overflow_mul-hash_block c = let h = one_byte _ _ c.hash_block.ensures in omega arith
