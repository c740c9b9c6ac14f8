-- The hash by two blocks: the first block's bits are the low byte, and the second's, which starts behind it, the high one. Assumes nothing.
use mathlib.Core.Path.{◌≡◌, sym, ap, ap₂, ◌∙◌}
use mathlib.Core.Bool.{Bool}
use mathlib.Core.List.{List}
use Prim.Native.Nat.{ℕ, ◌+◌, ◌-◌, ◌*◌, ◌/◌, ◌%◌, ◌<◌, min}
use native.Mathlib.Nat.{zero-mul, one-mul}
use native.Mathlib.Omega.{arith}
use lib.ListN.{length, take, drop, length-drop}
use lib.Seq.{take_all}
use lib.Ieee.{Float}
use Rattle.basics.proofs.Members.{drop_min}
use Rattle.simhash.specs.Inside.Blocks.{bits_of, side_of, block_hash, bit_in, blocks_hash}
use Rattle.simhash.proofs.Bits.{bits_same, bits_below, bits_join}

pub one_byte : (x : ℕ) (f : ℕ → Bool) → x ≡ bits_of f 8 → x < 256
one_byte x f e = omega (arith, bits_below f 8)

pub low_byte : (r blocks : List Float) → block_hash r blocks ≡ blocks_hash r blocks 8
low_byte r blocks = bits_same (side_of r blocks) (bit_in r blocks) 8 at
  where
    at : (b : ℕ) → b < 8 → side_of r blocks b ≡ bit_in r blocks b
    at b h =
        let first : b / 8 ≡ 0 = omega arith in
        let same : b ≡ b % 8 = omega arith in
        ap₂ (λ (k j : ℕ). side_of r (drop k blocks) j) (sym (ap (λ (x : ℕ). x * (8 * length r)) first ∙ zero-mul (8 * length r))) same

high_byte : (r blocks : List Float) → block_hash r (drop (min (8 * length r) (length blocks)) blocks) ≡ bits_of (λ b. bit_in r blocks (8 + b)) 8
high_byte r blocks = bits_same (side_of r (drop (min (8 * length r) (length blocks)) blocks)) (λ b. bit_in r blocks (8 + b)) 8 at
  where
    at : (b : ℕ) → b < 8 → side_of r (drop (min (8 * length r) (length blocks)) blocks) b ≡ bit_in r blocks (8 + b)
    at b h =
        let second : (8 + b) / 8 ≡ 1 = omega arith in
        let same : b ≡ (8 + b) % 8 = omega arith in
        ap (λ (l : List Float). side_of r l b) (drop_min (8 * length r) blocks)
        ∙ ap₂ (λ (k j : ℕ). side_of r (drop k blocks) j) (sym (ap (λ (x : ℕ). x * (8 * length r)) second ∙ one-mul (8 * length r))) same

-- `from` is where the second block starts, and all that stands from there on is passed on
pub two_bytes : (r blocks : List Float) (low high from : ℕ)
    → low ≡ block_hash r blocks → from ≡ min (8 * length r) (length blocks) → high ≡ block_hash r (take (length blocks - from) (drop from blocks))
    → low + 256 * high ≡ blocks_hash r blocks 16
two_bytes r blocks low high from l s h =
    let rest = take_all (length blocks - from) (drop from blocks) (omega (arith, length-drop from blocks)) in
    ap₂ (λ (x y : ℕ). x + 256 * y) (l ∙ low_byte r blocks)
    (h ∙ ap (block_hash r) rest ∙ ap (λ (k : ℕ). block_hash r (drop k blocks)) s ∙ high_byte r blocks)
    ∙ sym (bits_join (bit_in r blocks) 8 8)
