-- The low halves are masked, the high ones shifted down; with both in base 2^32 the law `halves` says that the steps, each taken modulo 2^64,
-- make the product. Assumes nothing.
use Rattle.std.proofs.Common.{◌≡◌, ℕ, ◌+◌, ◌*◌, ◌/◌, ◌%◌, ◌^◌, ◌∙◌}
use lib.Pow.{split}
use lib.Bits.{bit_and, and_mask}
use Rattle.random.proofs.lcg.Halves.{halves}
use Rattle.random.proofs.lcg.wrapping_mul.Goals as goal

-- what the code computes, with `lo` for how the low 32 bits of a number are taken
abbrev steps : (lo : ℕ → ℕ) (a b : ℕ) → ℕ
steps lo a b = (lo a * lo b + (a / 2 ^ 32 * lo b + lo a * (b / 2 ^ 32)) % 2 ^ 64 * 2 ^ 32 % 2 ^ 64) % 2 ^ 64

law : (a b : ℕ) → steps (λ (n : ℕ). bit_and n 0xffff_ffff) a b ≡ a * b % 2 ^ 64
law a b =
    (λ i. steps (λ (n : ℕ). and_mask n 32 i) a b)
    ∙ halves (2 ^ 32) (a % 2 ^ 32) (a / 2 ^ 32) (b % 2 ^ 32) (b / 2 ^ 32)
    ∙ (λ i. split a 32 i * split b 32 i % 2 ^ 64)

pub returns : goal.returns
returns c = law c.args.a c.args.b
