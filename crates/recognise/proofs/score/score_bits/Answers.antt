-- Below 1/128 `near_pattern` says 99; from there on the pattern is q / 2^s with q at most 2^s, which `inside_pattern` says of the score and
-- which keeps the quotient below 100. Assumes nothing.
use native.Mathlib.Omega.{arith}
use mathlib.Core.Path.{sym}
use Prim.Native.Nat.{ℕ, ◌+◌, ◌-◌, ◌*◌, ◌/◌, ◌%◌, ◌^◌, ◌≤◌, ◌<◌}
use native.Mathlib.Nat.{lt_of_lt_of_le, mul-le-mul_left, div-lt_iff_lt-mul}
use lib.Pow.{pow_pos, pow_mono}
use Rattle.recognise.proofs.score.Patterns.{near_pattern, inside_pattern}
use Rattle.recognise.proofs.score.score_bits.Goals as goal

few : (b : ℕ) → b < 0x3f80_0000 → (100 * (2 ^ 23 + b % 2 ^ 23) - 1) / 2 ^ (150 - b / 2 ^ 23) < 100
few b h = (div-lt_iff_lt-mul (pow_pos (150 - b / 2 ^ 23))).1 (lt_of_lt_of_le (under b) (mul-le-mul_left 100 (pow_mono {i = 24} {j = 150 - b / 2 ^ 23} (far b h))))
  where
    under : (b : ℕ) → 100 * (2 ^ 23 + b % 2 ^ 23) - 1 < 100 * 2 ^ 24
    under b = omega arith

    far : (b : ℕ) → b < 0x3f80_0000 → 24 ≤ 150 - b / 2 ^ 23
    far b h = omega arith

pub returns-then-b-lt1006632960 : goal.returns-then-b-lt1006632960
returns-then-b-lt1006632960 c = sym (near_pattern c.args.b c.requires.0 c.if-b-lt1006632960.true)

pub overflow_sub-result-2 : goal.overflow_sub-result-2
overflow_sub-result-2 c = omega (arith, few c.args.b c.requires.1)

pub returns : goal.returns
returns c = sym (inside_pattern c.args.b c.if-b-lt1006632960.false c.requires.1)
